use Rattle.std.proofs.Common.{ℕ, Bool, ◌*◌, ◌/◌, ◌%◌, ◌^◌, ◌==◌, cond, bit_xor, sym, ap, ◌∙◌}
use Rattle.std.proofs.lemmas.Bool.{ne_eqb}
use Rattle.std.specs.Int.{w128, to_be_bytes}
use Rattle.aes_cmac_prg.specs.Cmac.{doubled}
use Rattle.aes_cmac_prg.proofs.tag.doubled.Goals as goal

pub returns-else-number-eq1 : goal.returns-else-number-eq1
unfolding doubled
returns-else-number-eq1 c =
    let n = c.from_be_bytes-number.result in
    let doubled_if = λ (b : Bool) (m : ℕ). to_be_bytes w128 (cond b (bit_xor (m * 2 % 2 ^ 128) 0x87) (m * 2 % 2 ^ 128)) in
    c.to_be_bytes-else-number-eq1.ensures ∙ ap (λ b. doubled_if b n) (sym (ne_eqb (n / 2 ^ 127) 1 c.if-number-eq1.false))
    ∙ ap (λ m. doubled_if (m / 2 ^ 127 == 1) m) c.from_be_bytes-number.ensures
