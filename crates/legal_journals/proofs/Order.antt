-- Lemmas: groups and places in order.
use Rattle.std.proofs.Common.{◌≡◌, ℕ, ◌≤◌, ◌<◌, ◌⊎◌, false, sym, ap, refl, ◌∙◌, inl, inr, arith}
use Rattle.std.specs.declared.cmp.Ordering.{Ordering}
use Rattle.std.specs.declared.cmp.Ordering.TheVariants.{Less, Equal, Greater}
use Rattle.std.specs.Ordering.{nat_cmp, ordering_then, ordering_reverse, is_gt}
use Rattle.std.specs.Cmp.{IsTotalOrder, tied_itself, nat_cmp_is}
use Rattle.std.specs.BTreeMap.Range.{IsLeBy}
use Rattle.std.proofs.lemmas.Bool.{cases_order}
use Rattle.legal_journals.specs.Waiting.{place_order}

not_gt : (a b : ℕ) → is_gt (nat_cmp a b) ≡ false → a ≤ b
not_gt a b e = by_order (cases_order a b) where
  by_order : (a ≡ b) ⊎ ((a < b) ⊎ (b < a)) → a ≤ b
  by_order (inl same) = omega arith
  by_order (inr (inl lt)) = omega arith
  by_order (inr (inr gt)) = let f = ap is_gt (nat_cmp_is a b Greater gt) ∙ e in absurd cc

le_gt : (a b : ℕ) → a ≤ b → is_gt (nat_cmp a b) ≡ false
le_gt a b le = by_order (cases_order a b) where
  by_order : (a ≡ b) ⊎ ((a < b) ⊎ (b < a)) → is_gt (nat_cmp a b) ≡ false
  by_order (inl same) = sym (ap is_gt (nat_cmp_is a b Equal same))
  by_order (inr (inl lt)) = sym (ap is_gt (nat_cmp_is a b Less lt))
  by_order (inr (inr gt)) = absurd (omega arith)

module _ {G : Type 0} {order : G → G → Ordering} (total : IsTotalOrder order) where
  -- places of groups that tie
  pub le_place : (g m : G) (a b : ℕ) → order g m ≡ Equal → IsLeBy (place_order order) (g, a) (m, b) → a ≤ b
  le_place g m a b tie e = not_gt a b (ap (λ o. is_gt (ordering_then o (nat_cmp a b))) (sym tie) ∙ e)

  pub place_le : (g : G) (a b : ℕ) → a ≤ b → IsLeBy (place_order order) (g, a) (g, b)
  place_le g a b le = ap (λ o. is_gt (ordering_then o (nat_cmp a b))) (tied_itself total g) ∙ le_gt a b le

  -- between two keys of one group stand keys of that group
  pub between : (g m : G) (from place p : ℕ) → IsLeBy (place_order order) (g, from) (m, place) → IsLeBy (place_order order) (m, place) (g, p) → order m g ≡ Equal
  between g m from place p a b = by_order (order m g) refl where
    by_order : (c : Ordering) → order m g ≡ c → order m g ≡ Equal
    by_order Less e =
        let more : order g m ≡ Greater = total.antisymm g m ∙ ap ordering_reverse e in
        let f = ap (λ o. is_gt (ordering_then o (nat_cmp from place))) (sym more) ∙ a in
        absurd cc
    by_order Equal e = e
    by_order Greater e = let f = ap (λ o. is_gt (ordering_then o (nat_cmp place p))) (sym e) ∙ b in absurd cc
