-- A field as one value, and its laws.
use Rattle.std.specs.Prelude.{◌≡◌, ℕ, ◌^◌, ◌≤◌, Bool, nat_eq}
use Rattle.field_laws.specs.Ring.{Ring, RingLaws, RootLaws}
use Rattle.field_laws.specs.Residues.{Residues, residue_ring}

-- what a field is made of, as one value
pub record Base (F : Type 0) : Type 0 where
  -- zero, one, sums, negatives and products
  pub ring : Ring F
  -- the inverse of 2
  pub half : F
  -- of n: the root of one of order 2 ^ n
  pub root : ℕ → F
  -- an element's number, below the modulus
  pub number : F → ℕ
  -- the element of a number's rest modulo the modulus
  pub residue : ℕ → F
  pub modulus : ℕ
  -- how many bytes spell an element
  pub width : ℕ

-- the field that has these
abbrev pub base_of : {F : Type 0} → Ring F → F → (ℕ → F) → (F → ℕ) → (ℕ → F) → ℕ → ℕ → Base F
base_of ring half root number residue modulus width = record { ring = ring; half = half; root = root; number = number; residue = residue; modulus = modulus; width = width }

-- what a field keeps
pub record BaseLaws {F : Type 0} (b : Base F) : Type 0 where
  pub laws : RingLaws b.ring
  pub roots : RootLaws b.ring 16 b.root
  pub halves : b.ring.add b.half b.half ≡ b.ring.unit
  pub residues : Residues b.modulus b.number b.residue
  pub is_ring : b.ring ≡ residue_ring b.modulus b.number b.residue
  pub some_byte : 1 ≤ b.width
  pub few_bytes : b.width ≤ 16
  pub room : b.modulus ≤ 256 ^ b.width

-- whether two elements are one
abbrev pub is_same : {F : Type 0} → Base F → F → F → Bool
is_same b x y = nat_eq (b.number x) (b.number y)
