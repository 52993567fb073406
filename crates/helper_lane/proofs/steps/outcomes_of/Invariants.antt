use Rattle.std.proofs.Common.{◌≡◌, take}
use Rattle.helper_lane.specs.Work.{prepared_outcomes}
use Rattle.helper_lane.proofs.steps.outcomes_of.Given as goal

abbrev pub invariant-loop-place : goal.invariant-loop-place
invariant-loop-place g l = l.outs.items ≡ prepared_outcomes g.V.Vdaf.of_kind l.task l.task.name (take l.place l.halves) (take l.place l.steps)
