use Rattle.std.proofs.Common.{take}
use Rattle.leader_lane.specs.Sound.{OpensAre}
use Rattle.leader_lane.proofs.opens.opens_fit.Given as goal

abbrev pub invariant-loop-x : goal.invariant-loop-x
invariant-loop-x l = OpensAre l.place (take l.x-index l.records)
