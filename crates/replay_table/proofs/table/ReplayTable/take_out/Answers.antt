use Rattle.std.proofs.Common.{sym, ap, ◌∙◌}
use Rattle.std.specs.FinMap as map
use Rattle.dap_batch.specs.MapLaws.{get-lookup}
use Rattle.replay_table.specs.Reports.{Report}
use Rattle.replay_table.proofs.Keys.{report_order-total}
use Rattle.replay_table.proofs.Removals.{removed}
use Rattle.replay_table.proofs.table.ReplayTable.take_out.Goals as goal

pub returns-clause-job : goal.returns-clause-job
returns-clause-job c =
    let key : Report = (c.args.name.now, c.args.id.now) in
    c.remove.ensures.value ∙ sym (get-lookup report_order-total key c.self.inside.jobs.entries) ∙ ap (λ m. map.get m key) c.self.view_is

pub returns-clause-left : goal.returns-clause-left
returns-clause-left c =
    let key : Report = (c.args.name.now, c.args.id.now) in
    removed c.self.inside.jobs.entries c.remove.new.self.entries key c.remove.ensures.updates.0 ∙ ap (λ m. map.remove m key) c.self.view_is
