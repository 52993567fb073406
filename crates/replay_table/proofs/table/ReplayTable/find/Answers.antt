use Rattle.std.proofs.Common.{sym, ap, ◌∙◌}
use Rattle.std.specs.FinMap as map
use Rattle.dap_batch.specs.MapLaws.{get-lookup}
use Rattle.replay_table.specs.Reports.{Report}
use Rattle.replay_table.proofs.Keys.{report_order-total}
use Rattle.replay_table.proofs.table.ReplayTable.find.Goals as goal

pub returns : goal.returns
returns c =
    let key : Report = (c.args.name.now, c.args.id.now) in
    c.copied.ensures ∙ c.get.ensures.value ∙ sym (get-lookup report_order-total key c.self.inside.jobs.entries) ∙ ap (λ m. map.get m key) c.self.view_is
