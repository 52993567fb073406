use Rattle.std.proofs.Common.{ap, ◌∙◌}
use Rattle.std.specs.FinMap as map
use Rattle.dap_batch.specs.MapLaws.{inserted}
use Rattle.replay_table.specs.Reports.{Report}
use Rattle.replay_table.proofs.Keys.{report_order-total, report_order-same}
use Rattle.replay_table.proofs.table.ReplayTable.put.Goals as goal
use Rattle.replay_table.proofs.table.ReplayTable.put.Goals.{in-Ok, in-Err}

pub returns-clause-ok : goal.returns-clause-ok
returns-clause-ok c =
    let key : Report = (c.args.name.now, c.args.id.now) in
    elim c.match-insert.branch [
      | in-Ok w ↦ rw w.result-is (
          inserted report_order-total report_order-same c.self.inside.jobs.entries c.insert.new.self.entries key c.args.job w.in-Ok.ensures.updates.0
          ∙ ap (λ m. map.insert m key c.args.job) c.self.view_is)
      | in-Err w ↦ rw w.result-is tt
    ]
