use Rattle.std.proofs.Common.{◌≡◌, drop}
use Rattle.toml.specs.View.{items_view}
use Rattle.dap_tasks.specs.Fields.{numbers_of}
use Rattle.dap_tasks.proofs.ItemLemmas.{numbers_after}
use Rattle.dap_tasks.proofs.fields.numbers.Given as goal

abbrev pub invariant-loop-value : goal.invariant-loop-value
invariant-loop-value l = numbers_after l.numbers.items (items_view (drop l.value-index l.values)) ≡ numbers_of (items_view l.values)
