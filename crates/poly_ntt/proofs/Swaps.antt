-- A step of putting each entry where its reversed index stands.
use Rattle.std.proofs.Common.{◌≡◌, ◌≢◌, ℕ, ◌+◌, ◌^◌, ◌<◌, ◌≤◌, ◌⊎◌, inl, inr, List, sym, ap, ◌∙◌, arith, get_or}
use Rattle.std.proofs.lemmas.Bool.{cases_lt, cases_eq}
use Rattle.poly_ntt.specs.Transform.{reversed}
use Rattle.poly_ntt.proofs.Reversed.{reversed-below, reversed-again}

-- the entries below i, and those whose reversed index is, are in place, and the others are as they were
pub record Placed {X : Type 0} (d : X) (l : ℕ) (old now : List X) (i : ℕ) : Type 0 where
  pub done : (k : ℕ) → k < 2 ^ l → (k < i) ⊎ (reversed l k < i) → get_or now k d ≡ get_or old (reversed l k) d
  pub rest : (k : ℕ) → k < 2 ^ l → i ≤ k → i ≤ reversed l k → get_or now k d ≡ get_or old k d

-- what two entries changed round leave
pub record Changed {X : Type 0} (d : X) (now next : List X) (i j : ℕ) : Type 0 where
  pub first : get_or next i d ≡ get_or now j d
  pub second : get_or next j d ≡ get_or now i d
  pub others : (k : ℕ) → k ≢ i → k ≢ j → get_or next k d ≡ get_or now k d

module _ {X : Type 0} (d : X) (l : ℕ) (old now : List X) (i : ℕ) (small : i < 2 ^ l) where
  other : (k : ℕ) → k < 2 ^ l → k ≢ reversed l i → reversed l k ≢ i
  other k h ne e = ne (sym (reversed-again l k h) ∙ ap (reversed l) e)

  pub placed_same : reversed l i ≤ i → Placed d l old now i → Placed d l old now (i + 1)
  placed_same low p = record { done = λ k h before. at k h before (cases_eq k i) (cases_eq (reversed l k) i); rest = λ k h a b. p.rest k h (omega arith) (omega arith) }
    where
      lone : (k : ℕ) → k ≡ i → get_or now k d ≡ get_or old (reversed l k) d
      lone k e = either (cases_lt (reversed l k) i)
        where
          either : (reversed l k < i) ⊎ (i ≤ reversed l k) → get_or now k d ≡ get_or old (reversed l k) d
          either (inl less) = p.done k (omega arith) (inr less)
          either (inr more) =
              let here : reversed l k ≡ i = omega (arith, ap (reversed l) e) in
              p.rest k (omega arith) (omega arith) more ∙ ap (λ n. get_or old n d) (e ∙ sym here)

      at : (k : ℕ) → k < 2 ^ l → (k < i + 1) ⊎ (reversed l k < i + 1) → (k ≡ i) ⊎ (k ≢ i) → (reversed l k ≡ i) ⊎ (reversed l k ≢ i) → get_or now k d ≡ get_or old (reversed l k) d
      at k h before (inl e) t = lone k e
      at k h before (inr ne) (inl e) =
          let back : reversed l i ≡ k = ap (reversed l) (sym e) ∙ reversed-again l k h in
          p.done k h (inl (omega (arith, back)))
      at k h (inl b) (inr ne) (inr nt) = p.done k h (inl (omega (arith, ne)))
      at k h (inr b) (inr ne) (inr nt) = p.done k h (inr (omega (arith, nt)))

  pub placed_changed : (next : List X) → i < reversed l i → Changed d now next i (reversed l i) → Placed d l old now i → Placed d l old next (i + 1)
  placed_changed next high change p = record {
    done = λ k h before. at k h before (cases_eq k i) (cases_eq k (reversed l i));
    rest = λ k h a b. change.others k (λ e. absurd (omega arith)) (λ e. let f : reversed l k ≡ i = ap (reversed l) e ∙ reversed-again l i small in absurd (omega arith)) ∙ p.rest k h (omega arith) (omega arith);
  }
    where
      j_small : reversed l i < 2 ^ l
      j_small = reversed-below l i small

      back : reversed l (reversed l i) ≡ i
      back = reversed-again l i small

      at : (k : ℕ) → k < 2 ^ l → (k < i + 1) ⊎ (reversed l k < i + 1) → (k ≡ i) ⊎ (k ≢ i) → (k ≡ reversed l i) ⊎ (k ≢ reversed l i) → get_or next k d ≡ get_or old (reversed l k) d
      at k h before (inl e) t =
          ap (λ n. get_or next n d) e ∙ change.first ∙ p.rest (reversed l i) j_small (omega arith) (omega (arith, back)) ∙ ap (λ n. get_or old (reversed l n) d) (sym e)
      at k h before (inr ne) (inl e) =
          ap (λ n. get_or next n d) e ∙ change.second ∙ p.rest i small (omega arith) (omega arith) ∙ ap (λ n. get_or old n d) (sym (ap (reversed l) e ∙ back))
      at k h (inl b) (inr ne) (inr nt) = change.others k ne nt ∙ p.done k h (inl (omega (arith, ne)))
      at k h (inr b) (inr ne) (inr nt) = change.others k ne nt ∙ p.done k h (inr (omega (arith, other k h nt)))
