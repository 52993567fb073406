-- Two sums of out shares add to the sum of the contents.
use Rattle.std.proofs.Common.{◌≡◌, ℕ, List, [], ◌∷◌, map, Some, sym, ap, ◌∙◌}
use Rattle.std.specs.Prelude.{replicate}
use Rattle.field_laws.specs.Vector.{add_each}
use Rattle.vdaf_api.specs.declared.space.Space.{Space}
use Rattle.vdaf_api.specs.Vectors.{vector, zero_share, plus, SpaceLaws, numbers, numbers_in}
use Rattle.vdaf_api.specs.Totals.{total, total_numbers, Pair, leaders, helpers, contents, AreOuts}
use Rattle.vdaf_api.specs.SumLaws.{plus_comm, plus_assoc, plus-zero, vector-plus, vector-zero}

module _ {s : Space} (laws : SpaceLaws s) where
  pub plus-swap : (a b c d : List ℕ) → plus s (plus s a b) (plus s c d) ≡ plus s (plus s a c) (plus s b d)
  plus-swap a b c d =
      plus_assoc laws a b (plus s c d) ∙ ap (plus s a) (sym (plus_assoc laws b c d) ∙ ap (λ l. plus s l d) (plus_comm s b c) ∙ plus_assoc laws c b d) ∙ sym (plus_assoc laws a c (plus s b d))

  -- the sum of both totals, share by share
  pub both_totals : (ps : List Pair) → AreOuts s ps → plus s (total s (leaders ps)) (total s (helpers ps)) ≡ total s (map (λ p. plus s p.leader p.helper) ps)
  both_totals [] h = plus-zero laws (zero_share s) (replicate s.size 0) (vector-zero laws)
  both_totals (p ∷ ps) h =
      plus-swap p.leader (total s (leaders ps)) p.helper (total s (helpers ps)) ∙ ap (plus s (plus s p.leader p.helper)) (both_totals ps h.1)

  is_vector : (ps : List Pair) → AreOuts s ps → vector s (total s (map (λ p. plus s p.leader p.helper) ps)) ≡ Some (total_numbers s (contents s ps))
  is_vector [] h = vector-zero laws
  is_vector (p ∷ ps) h =
      let here : vector s (plus s p.leader p.helper) ≡ Some (add_each s.modulus h.0.0.0 h.0.1.0) = vector-plus laws p.leader p.helper h.0.0.0 h.0.1.0 h.0.0.1 h.0.1.1 in
      vector-plus laws (plus s p.leader p.helper) (total s (map (λ p. plus s p.leader p.helper) ps)) (add_each s.modulus h.0.0.0 h.0.1.0) (total_numbers s (contents s ps)) here (is_vector ps h.1)
      ∙ ap (λ v. Some (add_each s.modulus v (total_numbers s (contents s ps)))) (sym (ap numbers_in here))

  pub totals_are : (ps : List Pair) → AreOuts s ps → numbers s (plus s (total s (leaders ps)) (total s (helpers ps))) ≡ total_numbers s (contents s ps)
  totals_are ps h = ap (numbers s) (both_totals ps h) ∙ ap numbers_in (is_vector ps h)
