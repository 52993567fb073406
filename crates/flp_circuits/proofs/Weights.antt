-- The weights that the code carries along are the powers of the definitions.
use Rattle.std.proofs.Common.{◌≡◌, ℕ, suc, ◌+◌, List, [], ap, ◌∙◌, sym, arith}
use Rattle.field_laws.specs.Ring.{Ring, RingLaws, power}
use Rattle.field_laws.proofs.Solve.{unit-mul}
use Rattle.field_laws.proofs.Powers.{power-suc}
use Rattle.flp_circuits.specs.Kinds.{weighted, weighed, number_of}
use Rattle.flp_circuits.specs.LinearityLaws.{weighted-same}

module _ {F : Type 0} {ring : Ring F} (laws : RingLaws ring) where
  pub weighted-from_ratio : (r : F) (n : ℕ) (xs : List F) → weighted ring (λ i. ring.mul r (power ring r i)) n xs ≡ weighed ring r n xs
  weighted-from_ratio r n xs = weighted-same laws _ _ n xs (λ i. sym (power-suc laws r i) ∙ ap (power ring r) (let e : suc i ≡ i + 1 = omega arith in e))

  pub weighted-from_unit : (n : ℕ) (xs : List F) → weighted ring (λ i. ring.mul ring.unit (power ring (ring.add ring.unit ring.unit) i)) n xs ≡ number_of ring n xs
  weighted-from_unit n xs = weighted-same laws _ _ n xs (λ i. unit-mul laws [] _)
