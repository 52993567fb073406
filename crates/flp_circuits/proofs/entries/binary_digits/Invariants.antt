use Rattle.std.proofs.Common.{◌≡◌, ◌/◌, ◌^◌}
use Rattle.flp_circuits.specs.Kinds.{binary}
use Rattle.flp_circuits.proofs.entries.binary_digits.Given as goal

abbrev pub invariant-loop-i : goal.invariant-loop-i
invariant-loop-i g l = record {
  rest : l.rest ≡ l.m / 2 ^ l._i;
  digits : l.digits.items ≡ binary g.F.Field.ring l._i l.m;
}
