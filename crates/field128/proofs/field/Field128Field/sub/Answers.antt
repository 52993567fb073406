use Rattle.std.proofs.Common.{◌+◌, ◌-◌, ◌%◌, sym, ap, ◌∙◌}
use Rattle.std.proofs.Math.Nat.{add-mod-mod}
use Rattle.field128.specs.Modulus.{modulus}
use Rattle.field128.specs.Laws.{is_residue, residues}
use Rattle.field128.proofs.field.Field128Field.sub.Goals as goal

pub returns : goal.returns
returns c =
    let a = c.args.self.number in
    let b = c.args.other.number in
    is_residue _ _ (c.subtract_numbers.ensures ∙ sym (add-mod-mod a (modulus - b) modulus) ∙ ap (λ n. (a + n) % modulus) (sym (residues.number-residue (modulus - b))))
