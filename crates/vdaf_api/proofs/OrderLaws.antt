-- No order changes a sum of out shares.
use Rattle.std.proofs.Common.{◌≡◌, ℕ, List, refl, sym, ap, ◌∙◌}
use Rattle.std.specs.Prelude.{IsPermutation}
use Rattle.field_laws.proofs.OrderLaws.{all-permutation}
use Rattle.vdaf_api.specs.declared.space.Space.{Space}
use Rattle.vdaf_api.specs.SumLaws.{plus_assoc, plus_comm}
use Rattle.vdaf_api.specs.Totals.{total}
use Rattle.vdaf_api.specs.Vectors.{SpaceLaws, plus}

pub total-permutation : {s : Space} → SpaceLaws s → (shares others : List (List ℕ)) → IsPermutation shares others → total s others ≡ total s shares
total-permutation {s} laws =
    all-permutation (plus s) (total s) (λ share more. refl)
    (λ a b c. sym (plus_assoc laws a b c) ∙ ap (λ l. plus s l c) (plus_comm s a b) ∙ plus_assoc laws b a c)
