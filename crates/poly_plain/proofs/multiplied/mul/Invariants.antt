use Rattle.std.proofs.Common.{◌≡◌, ◌≤◌, ◌+◌, ◌-◌, length}
use Rattle.std.specs.Prelude.{replicate}
use Rattle.field_laws.specs.Polynomial.{product}
use Rattle.poly_plain.proofs.Multiples.{product_over}
use Rattle.poly_plain.proofs.multiplied.mul.Given as goal

abbrev pub invariant-loop-j : goal.invariant-loop-j
invariant-loop-j g l = record { some : 1 ≤ l._j; made : l.made.items ≡ replicate (l._j - 1) g.F.Field.ring.nought }

abbrev pub invariant-loop-coefficient : goal.invariant-loop-coefficient
invariant-loop-coefficient g l = record {
  size : length l.made.items + length l.coefficient-iterator.iter.rest.now + 1 ≡ length l.a + length l.b;
  within : length l.coefficient-iterator.iter.rest.now ≤ length l.a;
  made : product_over g.F.Field.ring l.made.items l.coefficient-iterator.iter.rest.now l.b ≡ product g.F.Field.ring l.a l.b;
}
