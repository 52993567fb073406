use Rattle.std.proofs.Common.{◌≡◌, ◌++◌, ◌≤◌, map, take, length, get_or}
use Rattle.flp_proof.proofs.gadgets.push_entries.Given as goal

abbrev pub invariant-loop-table : goal.invariant-loop-table
invariant-loop-table g l = record {
  within : l.table-index ≤ length l.tables;
  made : l.out.items ≡ l.initial.out.items ++ map (λ w. get_or w.items l.k g.F.Field.ring.nought) (take l.table-index l.tables);
}
