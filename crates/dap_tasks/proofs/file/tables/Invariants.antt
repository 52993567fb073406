use Rattle.std.proofs.Common.{◌≡◌, drop}
use Rattle.toml.specs.View.{items_view}
use Rattle.dap_tasks.specs.File.{tables_in}
use Rattle.dap_tasks.proofs.ItemLemmas.{tables_after}
use Rattle.dap_tasks.proofs.file.tables.Given as goal

abbrev pub invariant-loop-value : goal.invariant-loop-value
invariant-loop-value l = tables_after l.tables.items (items_view (drop l.value-index l.values)) ≡ tables_in (items_view l.values)
