use Rattle.std.proofs.Common.{ℕ, ◌^◌, ◌≤◌, lit≤, le_trans}
use Rattle.std.proofs.Math.Nat.{pow-le-pow_right}
use Rattle.field128.specs.Laws.{residues, laws, is_residue_ring}
use Rattle.circuit_vector.specs.VectorLaws.{list_size, list_valid}
use Rattle.circuit_vector.proofs.Numbers.{list_numbers}
use Rattle.circuit_vector.proofs.laws.lists_are_kept.Goals as goal

pub returns : goal.returns
returns c len bits ms x sizes e =
    let power : 2 ^ bits ≤ 2 ^ 32 = pow-le-pow_right {n = 2} (lit≤ tt) sizes.few_bits in
    record {
      size = list_size laws.ring_laws len bits ms x e;
      valid = λ joint. list_valid laws.ring_laws len bits ms x joint e;
      numbers = list_numbers laws.ring_laws residues is_residue_ring len bits ms x (le_trans power (lit≤ tt)) e;
    }
