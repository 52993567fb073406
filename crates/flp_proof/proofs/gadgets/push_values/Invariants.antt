use Rattle.std.proofs.Common.{◌≡◌, ◌++◌, ◌≤◌, map, take, length}
use Rattle.field_laws.specs.Polynomial.{eval}
use Rattle.flp_proof.proofs.gadgets.push_values.Given as goal

abbrev pub invariant-loop-w : goal.invariant-loop-w
invariant-loop-w g l = record {
  within : l.w-index ≤ length l.wires;
  made : l.out.items ≡ l.initial.out.items ++ map (λ w. eval g.F.Field.ring w.items l.t) (take l.w-index l.wires);
}
