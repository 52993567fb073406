use Rattle.helper_lane.proofs.lane.HelperLane.place.Goals as goal

pub returns-clause-ranges : goal.returns-clause-ranges
returns-clause-ranges g c = let made = c.self.invariant.0.made in record { some_lane = made.some_lane; few_lanes = made.few_lanes; own_lane = made.own_lane }
