-- What the trait asks of this field: the numbers below p are its elements, and its generator's order is computed.
use Rattle.std.proofs.Common.{◌≡◌, ℕ, ◌-◌, ◌*◌, ◌%◌, ◌<◌, sym, ap, ◌∙◌, refl, lit<}
use Rattle.std.proofs.Math.Nat.{mod-eq_of_lt}
use Rattle.field_laws.specs.Ring.{RingLaws, RootLaws, power}
use Rattle.field_laws.specs.Residues.{Residues, residue_ring}
use Rattle.field_laws.specs.Primes.{IsPrime}
use Rattle.field_laws.proofs.Modulo.{residue_ring_laws}
use Rattle.field_laws.proofs.Compute.{power_modulo, power_turns, half_doubled, residue-power, roots_from}
use Rattle.field_laws.proofs.Proth.{proth}
use Rattle.stream_tests.specs.Modulus.{modulus}
use Rattle.stream_tests.specs.declared.element.SmallField.{SmallField}
use Rattle.stream_tests.specs.Element.{number_of, residue_of, ring_of, generator, root_of_log, half_element}
use denote.Struct.Props.{props}
use mathlib.Core.HLevel.{is_prop→PathP}

-- elements of one number are one
pub same : (a b : SmallField) → a.number ≡ b.number → a ≡ b
same a b e =
    let small : (n : ℕ) → IsProp (n < modulus) = λ n. hlevel props in
    λ i. record { number = e i; below = is_prop→PathP (λ j. e j < modulus) (λ j. small (e j)) a.below b.below i }

pub is_residue : (x : SmallField) (n : ℕ) → x.number ≡ n % modulus → x ≡ residue_of n
unfolding residue_of
is_residue x n e = same x (residue_of n) e

pub number-residue : (n : ℕ) → (residue_of n).number ≡ n % modulus
unfolding residue_of
number-residue n = refl

pub residues : Residues modulus number_of residue_of
residues = record {
  large = lit< tt;
  below = λ x. x.below;
  residue-number = λ x. sym (is_residue x x.number (sym (mod-eq_of_lt x.below)));
  number-residue = number-residue;
}

pub is_residue_ring : ring_of ≡ residue_ring modulus number_of residue_of
is_residue_ring = refl

pub ring_laws : RingLaws ring_of
ring_laws = residue_ring_laws residues

-- computed by the check: 10 raised to 3 * 2^17, the generator raised to half its order, is p - 1
pub computed : power_modulo modulus 10 32 (3 * 131072) ≡ modulus - 1
computed = refl

pub generator_turns : power ring_of generator 131072 ≡ ring_of.neg ring_of.unit
unfolding generator
generator_turns = power_turns residues 32 10 3 131072 (lit< tt) computed

pub root_laws : RootLaws ring_of 16 root_of_log
unfolding root_of_log
root_laws = roots_from ring_laws generator 18 16 (lit< tt) generator_turns

pub half_law : ring_of.add half_element half_element ≡ ring_of.unit
unfolding half_element
half_law = half_doubled residues 393217 refl

-- the generator's number, computed by the check
pub generator_is : (x : SmallField) → x.number ≡ 1000 → x ≡ generator
unfolding generator
generator_is x e =
    is_residue x 1000 e
    ∙ ap residue_of (let k : 1000 ≡ power_modulo modulus 10 32 3 = refl in k)
    ∙ sym (residue-power residues 32 10 3 (lit< tt))

-- the modulus is prime by the same power (Proth's test): a factor above one is at least the generator's order, whose square is above p
pub modulus_prime : IsPrime modulus
modulus_prime = proth residues half_element generator 17 half_law generator_turns (lit< tt)
