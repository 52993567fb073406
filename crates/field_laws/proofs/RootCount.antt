-- A polynomial with n coefficients that isn't nought has fewer than n roots.
use Rattle.std.proofs.Common.{◌≡◌, ◌≢◌, ℕ, zero, suc, ◌<◌, ◌≤◌, ◌⊎◌, inl, inr, List, [], ◌∷◌, sym, ap, ◌∙◌, refl, arith, get_or, length, drop}
use Rattle.std.specs.Prelude.{replicate}
use Rattle.std.proofs.lemmas.Bool.{cases_lt}
use Rattle.field_laws.specs.Ring.{Ring, RingLaws, minus}
use Rattle.field_laws.specs.Polynomial.{eval}
use Rattle.field_laws.specs.Primes.{NoDivisors}
use Rattle.field_laws.specs.Points.{AreDifferent, AreRoots}
use Rattle.field_laws.proofs.Solve.{at, none, plus, times, solve, nought-add, mul-nought}
use Rattle.field_laws.proofs.Differences.{add-minus}

-- the values at r of a polynomial without its first coefficients: what is left when a + X p is divided by X - r
unfoldable tails : {F : Type 0} → Ring F → F → List F → List F
tails ring r [] = []
tails ring r (b ∷ p) = eval ring (b ∷ p) r ∷ tails ring r p

module _ {F : Type 0} {ring : Ring F} (laws : RingLaws ring) where
  length-tails : (r : F) (p : List F) → length (tails ring r p) ≡ length p
  unfolding tails
  length-tails r [] = refl
  length-tails r (b ∷ p) = ap suc (length-tails r p)

  pub minus-nought : (u r : F) → minus ring u r ≡ ring.nought → u ≡ r
  minus-nought u r e = sym (add-minus laws u r) ∙ ap (λ z. ring.add z r) e ∙ nought-add laws [] r

  -- division by X - r
  divided : (r x a : F) (p : List F) → eval ring (a ∷ p) x ≡ ring.add (eval ring (a ∷ p) r) (ring.mul (minus ring x r) (eval ring (tails ring r p) x))
  unfolding tails eval
  divided r x a [] =
      solve laws (a ∷ (x ∷ (r ∷ (minus ring x r ∷ [])))) (plus (at 0) (times (at 1) none)) (plus (plus (at 0) (times (at 2) none)) (times (at 3) none)) refl
  divided r x a (b ∷ p) =
      let d : F = minus ring x r in
      let e : F = eval ring (b ∷ p) r in
      let t : F = eval ring (tails ring r p) x in
      ap (λ y. ring.add a (ring.mul x y)) (divided r x b p)
      ∙ solve laws (a ∷ (x ∷ (e ∷ (d ∷ (t ∷ []))))) (plus (at 0) (times (at 1) (plus (at 2) (times (at 3) (at 4))))) (plus (plus (at 0) (times (at 1) (times (at 3) (at 4)))) (times (at 1) (at 2))) refl
      ∙ ap (λ y. ring.add (ring.add a (ring.mul x (ring.mul d t))) (ring.mul y e)) (sym (add-minus laws x r))
      ∙ solve laws (a ∷ (x ∷ (e ∷ (d ∷ (t ∷ (r ∷ [])))))) (plus (plus (at 0) (times (at 1) (times (at 3) (at 4)))) (times (plus (at 3) (at 5)) (at 2))) (plus (plus (at 0) (times (at 5) (at 2))) (times (at 3) (plus (at 2) (times (at 1) (at 4))))) refl

  pub eval-noughts : (n : ℕ) (x : F) → eval ring (replicate n ring.nought) x ≡ ring.nought
  unfolding eval
  eval-noughts zero x = refl
  eval-noughts (suc n) x = ap (λ y. ring.add ring.nought (ring.mul x y)) (eval-noughts n x) ∙ ap (ring.add ring.nought) (mul-nought laws [] x) ∙ laws.add-nought ring.nought

  first_nought : (r a : F) (p : List F) (n : ℕ) → p ≡ replicate n ring.nought → eval ring (a ∷ p) r ≡ ring.nought → a ≡ ring.nought
  unfolding eval
  first_nought r a p n e root =
      sym (laws.add-nought a) ∙ ap (ring.add a) (sym (mul-nought laws [] r)) ∙ ap (λ y. ring.add a (ring.mul r y)) (sym (ap (λ q. eval ring q r) e ∙ eval-noughts n r)) ∙ root

  -- where these values are nought, the polynomial is
  tails_nought : (r : F) (p : List F) (n : ℕ) → tails ring r p ≡ replicate n ring.nought → p ≡ replicate n ring.nought
  unfolding tails
  tails_nought r [] zero e = refl
  tails_nought r [] (suc n) e = absurd (let l : 0 ≡ suc (length (replicate n ring.nought)) = ap length e in omega arith)
  tails_nought r (b ∷ p) zero e = absurd (let l : suc (length (tails ring r p)) ≡ 0 = ap length e in omega arith)
  tails_nought r (b ∷ p) (suc n) e =
      let rest : p ≡ replicate n ring.nought = tails_nought r p n (ap (drop 1) e) in
      let first : b ≡ ring.nought = first_nought r b p n rest (ap (λ l. get_or l 0 ring.nought) e) in
      ap (λ a. a ∷ p) first ∙ ap (λ l. ring.nought ∷ l) rest

  -- as many roots as coefficients: it is nought
  pub vanishes : NoDivisors ring → (n : ℕ) (p ts : List F) → length p ≡ n → n ≤ length ts → AreDifferent ring ts → AreRoots ring p ts → p ≡ replicate n ring.nought
  vanishes whole zero [] ts size many apart roots = refl
  vanishes whole zero (a ∷ p) ts size many apart roots = absurd (omega arith)
  vanishes whole (suc n) [] ts size many apart roots = absurd (omega arith)
  vanishes whole (suc n) (a ∷ p) [] size many apart roots = absurd (omega arith)
  vanishes whole (suc n) (a ∷ p) (r ∷ ts) size many apart roots =
      let root : eval ring (a ∷ p) r ≡ ring.nought = roots 0 (omega arith) in
      let left : tails ring r p ≡ replicate n ring.nought =
      vanishes whole n (tails ring r p) ts (length-tails r p ∙ (let e : length p ≡ n = omega arith in e)) (omega arith)
      (λ i j low high. apart (suc i) (suc j) (omega arith) (omega arith))
      (λ i small. others root i small) in
      let rest : p ≡ replicate n ring.nought = tails_nought r p n left in
      ap (λ b. b ∷ p) (first_nought r a p n rest root) ∙ ap (λ l. ring.nought ∷ l) rest
    where
      others : eval ring (a ∷ p) r ≡ ring.nought → (i : ℕ) → i < length ts → eval ring (tails ring r p) (get_or ts i ring.nought) ≡ ring.nought
      others root i small =
          let u : F = get_or ts i ring.nought in
          let both : ring.mul (minus ring u r) (eval ring (tails ring r p) u) ≡ ring.nought =
          sym (nought-add laws [] _) ∙ ap (λ y. ring.add y (ring.mul (minus ring u r) (eval ring (tails ring r p) u))) (sym root) ∙ sym (divided r u a p) ∙ roots (suc i) (omega arith) in
          elim (whole (minus ring u r) (eval ring (tails ring r p) u) both) [
            | inl e ↦ absurd (apart 0 (suc i) (omega arith) (omega arith) (sym (minus-nought u r e)))
            | inr e ↦ e
          ]

  pub few_roots : NoDivisors ring → (p ts : List F) → p ≢ replicate (length p) ring.nought → AreDifferent ring ts → AreRoots ring p ts → length ts < length p
  few_roots whole p ts some apart roots = cases (cases_lt (length ts) (length p))
    where
      cases : (length ts < length p) ⊎ (length p ≤ length ts) → length ts < length p
      cases (inl h) = h
      cases (inr h) = absurd (some (vanishes whole (length p) p ts refl h apart roots))
