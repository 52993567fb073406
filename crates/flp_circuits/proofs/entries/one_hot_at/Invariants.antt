use Rattle.std.proofs.Common.{◌≡◌, map}
use Rattle.std.specs.Prelude.{nat_eq}
use Rattle.std.specs.List.{range_with_len}
use Rattle.flp_circuits.specs.Kinds.{bit}
use Rattle.flp_circuits.proofs.entries.one_hot_at.Given as goal

abbrev pub invariant-loop-i : goal.invariant-loop-i
invariant-loop-i g l = l.entries.items ≡ map (λ i. bit g.F.Field.ring (nat_eq i l.place)) (range_with_len 0 l.i)
