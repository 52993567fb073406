use Rattle.std.proofs.Common.{◌≡◌, map, filter, string_bytes}
use Rattle.std.specs.List.Sorted.{IsStrictlySortedBy}
use Rattle.std.specs.String.{string_cmp}
use Rattle.toml.specs.View.{table_view}
use Rattle.dap_tasks.specs.Fields.{is_other, first_of, table_keys}
use Rattle.dap_tasks.proofs.table.other_key.Given as goal

abbrev pub invariant-loop-key : goal.invariant-loop-key
invariant-loop-key l =
    (goal.iterator-loop-key).can_next l.key-iterator ×
    (goal.iterator-loop-key).is_finite l.key-iterator ×
    IsStrictlySortedBy string_cmp l.key-iterator ×
    (first_of (filter (is_other l.kind) (map string_bytes l.key-iterator)) ≡ first_of (filter (is_other l.kind) (table_keys (table_view l.table))))
