use Rattle.std.proofs.Common.{◌≡◌, ◌++◌, ◌≤◌, take, length}
use Rattle.flp_proof.proofs.gadgets.push_all.Given as goal

abbrev pub invariant-loop-x : goal.invariant-loop-x
invariant-loop-x g l = record {
  within : l.x-index ≤ length l.from;
  made : l.out.items ≡ l.initial.out.items ++ take l.x-index l.from;
}
