-- What the trait asks of this field: the numbers below p are its elements, and its generator's order is computed.
use Rattle.std.proofs.Common.{◌≡◌, ℕ, ◌%◌, ◌<◌, sym, ap, ◌∙◌, refl, lit<}
use Rattle.std.proofs.Math.Nat.{mod-eq_of_lt}
use Rattle.field_laws.specs.Residues.{Residues, residue_ring}
use Rattle.field_laws.proofs.Modulo.{residue_by_number}
use Rattle.field_laws.proofs.Compute.{power_modulo, residue-power}
use Rattle.field_laws.proofs.Generated.{FieldLaws, generated}
use Rattle.field64.specs.Modulus.{modulus}
use Rattle.field64.specs.declared.element.Field64.{Field64}
use Rattle.field64.specs.Element.{number_of, residue_of, ring_of, generator, root_of_log, half_element}
use denote.Struct.Props.{props}
use mathlib.Core.HLevel.{is_prop→PathP}

-- elements of one number are one
pub same : (a b : Field64) → a.number ≡ b.number → a ≡ b
same a b e =
    let small : (n : ℕ) → IsProp (n < modulus) = λ n. hlevel props in
    λ i. record { number = e i; below = is_prop→PathP (λ j. e j < modulus) (λ j. small (e j)) a.below b.below i }

-- the elements are the numbers below p
pub residues : Residues modulus number_of residue_of
unfolding residue_of
residues = record {
  large = lit< tt;
  below = λ x. x.below;
  residue-number = λ x. same (residue_of x.number) x (mod-eq_of_lt x.below);
  number-residue = λ n. refl;
}

-- an element whose number is the rest of n is the residue of n
pub is_residue : (x : Field64) (n : ℕ) → x.number ≡ n % modulus → x ≡ residue_of n
is_residue = residue_by_number residues

-- the ring is that of the residues
pub is_residue_ring : ring_of ≡ residue_ring modulus number_of residue_of
is_residue_ring = refl

-- computed by the check: the generator raised to half its order is p - 1, and twice the half is one
pub laws : FieldLaws modulus ring_of half_element root_of_log
unfolding generator root_of_log half_element
laws = generated residues 64 7 4294967295 32 9223372034707292161 (lit< tt) (lit< tt) (lit< tt) refl refl

-- the generator's number, computed by the check
pub generator_is : (x : Field64) → x.number ≡ 1753635133440165772 → x ≡ generator
unfolding generator
generator_is x e =
    is_residue x 1753635133440165772 e
    ∙ ap residue_of (let k : 1753635133440165772 ≡ power_modulo modulus 7 32 4294967295 = refl in k)
    ∙ sym (residue-power residues 32 7 4294967295 (lit< tt))
