use Rattle.std.proofs.Common.{◌≡◌, ◌++◌, map, Some, sym, subst}
use Rattle.std.specs.Prelude.{OnOk}
use Rattle.dap_tasks.specs.declared.cause.Judged.{Judged}
use Rattle.lane_records.specs.declared.record.Record.TheVariants.{Accept}
use Rattle.leader_lane.specs.Judge.{added_by}
use Rattle.leader_lane.proofs.block.Block.add.Goals as goal

pub returns-in-Added-clause-records : goal.returns-in-Added-clause-records
returns-in-Added-clause-records c =
    subst (λ (j : Judged). OnOk c.accept.result (c.accept.new.self.records.items ≡ c.args.self.now.records.items ++ map Accept (added_by j (Some c.args.r)))) (sym c.in-Added.is) c.accept.ensures.records
