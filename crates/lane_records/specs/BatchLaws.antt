-- Lemmas: what a front's record of an answer holds keeps the laws of grammars.
use Rattle.std.proofs.Common.{◌≡◌, ℕ, true, refl, arith, lit≤}
use Rattle.std.specs.Prelude.{nat_le}
use Rattle.std.proofs.lemmas.Bool.{leb-true}
use Rattle.dap_messages.specs.Grammar.{byte, ◌⊗◌, bytes}
use Rattle.dap_messages.specs.Lawful.{Lawful}
use Rattle.dap_messages.specs.Laws.{then_lawful, shaped_lawful, and_parts}
use Rattle.dap_messages.specs.declared.reply.TheConstants.{MOST_OUT}
use Rattle.dap_messages.specs.Forms.{any_u32}
use Rattle.dap_messages.specs.FormLaws.{any_u32_lawful, bytes_lawful}
use Rattle.lane_records.specs.Batch.{answered}

-- a field of one value has no other
pub only_byte : (k n : ℕ) → (byte k k).allowed n ≡ true → n ≡ k
only_byte k n a =
    let parts = and_parts (nat_le k n) (nat_le n k) a in
    omega (arith, leb-true k n parts.0, leb-true n k parts.1)

pub answered_lawful : Lawful answered
answered_lawful =
    shaped_lawful _ _ (any_u32 ⊗ any_u32 ⊗ bytes MOST_OUT ⊗ bytes MOST_OUT) (λ p. refl) (λ a. refl)
    (then_lawful any_u32 (any_u32 ⊗ bytes MOST_OUT ⊗ bytes MOST_OUT) any_u32_lawful
    (then_lawful any_u32 (bytes MOST_OUT ⊗ bytes MOST_OUT) any_u32_lawful
    (then_lawful (bytes MOST_OUT) (bytes MOST_OUT) (bytes_lawful MOST_OUT (lit≤ tt)) (bytes_lawful MOST_OUT (lit≤ tt)))))
