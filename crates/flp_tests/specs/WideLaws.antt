-- Lemmas: that circuit keeps the laws.
use Rattle.std.specs.Prelude.{ℕ, ◌-◌, ◌≤◌, [], ◌∷◌}
use Rattle.std.proofs.Common.{sym, ap, ◌∙◌, refl, arith, get_or, lit≤}
use Rattle.field_laws.specs.Ring.{Ring, RingLaws}
use Rattle.field_laws.proofs.Polynomials.{get_or-add, get_or-scale}
use Rattle.flp_circuits.specs.Shape.{ShapeLaws, EncodeLaws}
use Rattle.flp_circuits.specs.LinearityLaws.{one_entry}
use Rattle.flp_tests.specs.Wide.{wide_shape}

module _ {F : Type 0} {ring : Ring F} (laws : RingLaws ring) where
  pub wide_keeps : (calls : ℕ) → 1 ≤ calls → calls ≤ 2047 → ShapeLaws ring (wide_shape ring calls)
  wide_keeps calls some few = record {
    has_calls = some;
    few_calls = few;
    has_wires = lit≤ tt;
    few_wires = lit≤ tt;
    short_input = omega arith;
    short_joint = lit≤ tt;
    input-add = λ x y call wire hx hy. get_or-add laws x y (call - 1);
    input-scale = λ a x call wire hx. get_or-scale laws a x (call - 1);
    validity-add = λ o q x y joint r s hx hy hj hr hs. get_or-add laws r s 0;
    validity-scale = λ a o x joint r hx hj hr. get_or-scale laws a r 0;
  }

  pub wide_encodes : (calls : ℕ) → EncodeLaws ring (wide_shape ring calls)
  wide_encodes calls = record {
    some_out = lit≤ tt;
    few_out = lit≤ tt;
    length-encode = λ ms x none. absurd (cc);
    encode-valid = λ ms x joint none hj. absurd (cc);
    length-truncate = λ x hx. refl;
    truncate-add = λ x y hx hy. ap (λ a. a ∷ []) (get_or-add laws x y 0) ∙ sym (one_entry laws (get_or x 0 ring.nought) (get_or y 0 ring.nought));
  }
