use Rattle.std.proofs.Common.{take}
use Rattle.leader_lane.specs.Catalog.{Lists}
use Rattle.leader_lane.specs.Ready.{Ready}
use Rattle.leader_lane.proofs.block.judge_each.Given as goal

abbrev pub invariant-loop-u : goal.invariant-loop-u
invariant-loop-u g l = record {
  ready : Ready (record { tasks = l.tasks; place = l.place }) l.records l.block.records.items l.block.answers.items (take l.u-index l.us);
  lists : Lists l.catalog l.records l.block.records.items;
}
