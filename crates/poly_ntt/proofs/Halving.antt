-- Halving leaves the values at the powers of the root, in reversed order.
use Rattle.std.proofs.Common.{◌≡◌, ℕ, zero, suc, ◌+◌, ◌-◌, ◌*◌, ◌^◌, ◌<◌, ◌≤◌, ◌⊎◌, inl, inr, min, cond, List, [], ◌∷◌, ◌++◌, sym, ap, ◌∙◌, refl, arith, get_or, length, length-take, length-drop, take, drop}
use Rattle.std.proofs.Math.Nat.{pow-suc, mul_comm}
use Rattle.std.proofs.Math.ListN.{length-append, get_or-append}
use Rattle.std.proofs.lemmas.Bool.{lt-ltb, le-ltb, cases_lt}
use Rattle.std.proofs.lemmas.List.{get_or-append_right}
use Rattle.field_laws.specs.Ring.{Ring, RingLaws, RootLaws, power, minus}
use Rattle.field_laws.proofs.Solve.{at, one, plus, times, solve, unit-mul, nought-add, mul-nought, nought-mul}
use Rattle.field_laws.proofs.Powers.{power-zero, power-suc, power-mul, power-double, power-of_unit}
use Rattle.field_laws.proofs.Compute.{neg-unit_square}
use Rattle.field_laws.specs.Polynomial.{eval, add_polynomials}
use Rattle.field_laws.proofs.Polynomials.{eval-add, eval-constant, length-add}
use Rattle.poly_ntt.specs.Transform.{reversed, twisted, halving}

append-take-drop : {A : Type 0} (n : ℕ) (xs : List A) → take n xs ++ drop n xs ≡ xs
append-take-drop zero xs = refl
append-take-drop (suc n) [] = refl
append-take-drop (suc n) (x ∷ xs) = ap (λ l. x ∷ l) (append-take-drop n xs)

twice : (l : ℕ) → 2 ^ suc l ≡ 2 ^ l + 2 ^ l
twice l = pow-suc 2 l ∙ (let e : 2 ^ l * 2 ≡ 2 ^ l + 2 ^ l = omega arith in e)

pub reversed-low : (l i : ℕ) → i < 2 ^ l → reversed (suc l) i ≡ 2 * reversed l i
unfolding reversed
reversed-low l i h = ap (λ b. cond b (2 * reversed l i) (2 * reversed l (i - 2 ^ l) + 1)) (lt-ltb i (2 ^ l) h)

pub reversed-high : (l i : ℕ) → 2 ^ l ≤ i → reversed (suc l) i ≡ 2 * reversed l (i - 2 ^ l) + 1
unfolding reversed
reversed-high l i h = ap (λ b. cond b (2 * reversed l i) (2 * reversed l (i - 2 ^ l) + 1)) (le-ltb i (2 ^ l) h)

module _ {F : Type 0} {ring : Ring F} (laws : RingLaws ring) where
  -- two polynomials, one behind the other
  eval-append : (a b : List F) (x : F) → eval ring (a ++ b) x ≡ ring.add (eval ring a x) (ring.mul (power ring x (length a)) (eval ring b x))
  unfolding eval
  eval-append [] b x = sym (nought-add laws [] _ ∙ ap (λ y. ring.mul y (eval ring b x)) (power-zero laws x) ∙ unit-mul laws [] _)
  eval-append (c ∷ a) b x =
      ap (λ y. ring.add c (ring.mul x y)) (eval-append a b x)
      ∙ solve laws (c ∷ (x ∷ (eval ring a x ∷ (power ring x (length a) ∷ (eval ring b x ∷ []))))) (plus (at 0) (times (at 1) (plus (at 2) (times (at 3) (at 4))))) (plus (plus (at 0) (times (at 1) (at 2))) (times (times (at 1) (at 3)) (at 4))) refl
      ∙ ap (λ y. ring.add (ring.add c (ring.mul x (eval ring a x))) (ring.mul y (eval ring b x))) (sym (power-suc laws x (length a)))

  neg-by_unit : (b m : F) → m ≡ ring.neg ring.unit → ring.neg b ≡ ring.mul m b
  neg-by_unit b m e =
      let zero_sum : ring.add b (ring.mul m b) ≡ ring.nought =
      solve laws (b ∷ (m ∷ [])) (plus (at 0) (times (at 1) (at 0))) (times (plus one (at 1)) (at 0)) refl
      ∙ ap (λ y. ring.mul (ring.add ring.unit y) b) e ∙ ap (λ y. ring.mul y b) (laws.add-neg ring.unit) ∙ nought-mul laws [] b in
      sym (sym (laws.add-nought _ ∙ refl) ∙ ap (ring.add (ring.mul m b)) (sym (laws.add-neg b)) ∙ sym (laws.add_assoc _ _ _) ∙ ap (λ y. ring.add y (ring.neg b)) (laws.add_comm _ _ ∙ zero_sum) ∙ nought-add laws [] _)

  -- w times (the value of a - b at x z)
  eval-twisted : (m x w : F) (a b : List F) (z : F) → m ≡ ring.neg ring.unit → length a ≡ length b
      → eval ring (twisted ring x w a b) z ≡ ring.mul w (ring.add (eval ring a (ring.mul x z)) (ring.mul m (eval ring b (ring.mul x z))))
  unfolding eval twisted
  eval-twisted m x w [] [] z e h = sym (ap (ring.mul w) (nought-add laws [] _ ∙ mul-nought laws [] m) ∙ mul-nought laws [] w)
  eval-twisted m x w [] (b ∷ vs) z e h = absurd (omega arith)
  eval-twisted m x w (a ∷ us) [] z e h = absurd (omega arith)
  eval-twisted m x w (a ∷ us) (b ∷ vs) z e h =
      let y : F = ring.mul x z in
      ap (λ t. ring.add (ring.mul (minus ring a b) w) (ring.mul z t)) (eval-twisted m x (ring.mul w x) us vs z e (omega arith))
      ∙ ap (λ n. ring.add (ring.mul (ring.add a n) w) (ring.mul z (ring.mul (ring.mul w x) (ring.add (eval ring us y) (ring.mul m (eval ring vs y)))))) (neg-by_unit b m e)
      ∙ solve laws (a ∷ (b ∷ (m ∷ (w ∷ (x ∷ (z ∷ (eval ring us y ∷ (eval ring vs y ∷ []))))))))
      (plus (times (plus (at 0) (times (at 2) (at 1))) (at 3)) (times (at 5) (times (times (at 3) (at 4)) (plus (at 6) (times (at 2) (at 7))))))
      (times (at 3) (plus (plus (at 0) (times (times (at 4) (at 5)) (at 6))) (times (at 2) (plus (at 1) (times (times (at 4) (at 5)) (at 7)))))) refl

  pub length-twisted : (x w : F) (a b : List F) → length a ≡ length b → length (twisted ring x w a b) ≡ length a
  unfolding twisted
  length-twisted x w [] b h = refl
  length-twisted x w (a ∷ us) [] h = absurd (omega arith)
  length-twisted x w (a ∷ us) (b ∷ vs) h = ap suc (length-twisted x (ring.mul w x) us vs (omega arith))

  pub length-halving : (root : ℕ → F) (l : ℕ) (p : List F) → length p ≡ 2 ^ l → length (halving ring root l p) ≡ 2 ^ l
  unfolding halving
  length-halving root zero p h = h
  length-halving root (suc l) p h =
      let a = take (2 ^ l) p in
      let b = drop (2 ^ l) p in
      let at_a : length a ≡ 2 ^ l = length-take (2 ^ l) p ∙ (let e : min (2 ^ l) (length p) ≡ 2 ^ l = omega (arith, twice l) in e) in
      let at_b : length b ≡ 2 ^ l = omega (arith, length-drop (2 ^ l) p, twice l) in
      length-append (halving ring root l (add_polynomials ring a b)) _
      ∙ (let e : length (halving ring root l (add_polynomials ring a b)) + length (halving ring root l (twisted ring (root (l + 1)) ring.unit a b)) ≡ 2 ^ suc l =
      omega (
        arith,
        twice l,
        length-halving root l (add_polynomials ring a b) (omega (arith, length-add ring a b, at_a, at_b)),
        length-halving root l (twisted ring (root (l + 1)) ring.unit a b) (length-twisted (root (l + 1)) ring.unit a b (at_a ∙ sym at_b) ∙ at_a),
      ) in e)

  minus_even : (m : F) (t : ℕ) → m ≡ ring.neg ring.unit → power ring m (2 * t) ≡ ring.unit
  minus_even m t e = power-double laws m t ∙ ap (λ y. power ring y t) (ap (λ n. ring.mul n n) e ∙ neg-unit_square laws) ∙ power-of_unit laws t

  swap_powers : (x : F) (i j : ℕ) → power ring (power ring x i) j ≡ power ring (power ring x j) i
  swap_powers x i j = sym (power-mul laws x i j) ∙ ap (power ring x) (mul_comm i j) ∙ power-mul laws x j i

  -- at an even power the halves add
  even_value : (x : F) (l t : ℕ) (p : List F) → length p ≡ 2 ^ suc l → power ring x (2 ^ l) ≡ ring.neg ring.unit
      → eval ring (add_polynomials ring (take (2 ^ l) p) (drop (2 ^ l) p)) (power ring (ring.mul x x) t) ≡ eval ring p (power ring x (2 * t))
  even_value x l t p size turn =
      let a = take (2 ^ l) p in
      let b = drop (2 ^ l) p in
      let y : F = power ring x (2 * t) in
      let at_a : length a ≡ 2 ^ l = length-take (2 ^ l) p ∙ (let e : min (2 ^ l) (length p) ≡ 2 ^ l = omega (arith, twice l) in e) in
      ap (eval ring (add_polynomials ring a b)) (sym (power-double laws x t))
      ∙ eval-add laws a b y
      ∙ sym (ap (λ q. eval ring q y) (sym (append-take-drop (2 ^ l) p)) ∙ eval-append a b y
      ∙ ap (λ n. ring.add (eval ring a y) (ring.mul (power ring y n) (eval ring b y))) at_a
      ∙ ap (λ v. ring.add (eval ring a y) (ring.mul v (eval ring b y))) (swap_powers x (2 * t) (2 ^ l) ∙ minus_even (power ring x (2 ^ l)) t turn)
      ∙ ap (ring.add (eval ring a y)) (unit-mul laws [] _))

  -- at an odd power they subtract
  odd_value : (x : F) (l t : ℕ) (p : List F) → length p ≡ 2 ^ suc l → power ring x (2 ^ l) ≡ ring.neg ring.unit
      → eval ring (twisted ring x ring.unit (take (2 ^ l) p) (drop (2 ^ l) p)) (power ring (ring.mul x x) t) ≡ eval ring p (power ring x (2 * t + 1))
  odd_value x l t p size turn =
      let a = take (2 ^ l) p in
      let b = drop (2 ^ l) p in
      let y : F = power ring x (2 * t + 1) in
      let at_a : length a ≡ 2 ^ l = length-take (2 ^ l) p ∙ (let e : min (2 ^ l) (length p) ≡ 2 ^ l = omega (arith, twice l) in e) in
      let at_b : length b ≡ 2 ^ l = omega (arith, length-drop (2 ^ l) p, twice l) in
      let m : F = power ring x (2 ^ l) in
      let place : ring.mul x (power ring (ring.mul x x) t) ≡ y =
      ap (ring.mul x) (sym (power-double laws x t)) ∙ sym (power-suc laws x (2 * t)) ∙ ap (power ring x) (let e : suc (2 * t) ≡ 2 * t + 1 = omega arith in e) in
      let odd_turn : power ring m (2 * t + 1) ≡ m =
      ap (power ring m) (let e : 2 * t + 1 ≡ suc (2 * t) = omega arith in e) ∙ power-suc laws m (2 * t) ∙ ap (ring.mul m) (minus_even m t turn) ∙ laws.mul-unit m in
      eval-twisted m x ring.unit a b (power ring (ring.mul x x) t) turn (at_a ∙ sym at_b)
      ∙ unit-mul laws [] _
      ∙ ap (λ v. ring.add (eval ring a v) (ring.mul m (eval ring b v))) place
      ∙ sym (ap (λ q. eval ring q y) (sym (append-take-drop (2 ^ l) p)) ∙ eval-append a b y
      ∙ ap (λ n. ring.add (eval ring a y) (ring.mul (power ring y n) (eval ring b y))) at_a
      ∙ ap (λ v. ring.add (eval ring a y) (ring.mul v (eval ring b y))) (swap_powers x (2 * t + 1) (2 ^ l) ∙ odd_turn))

  lone : (p : List F) (i : ℕ) (y : F) → length p ≡ 1 → i < 1 → get_or p i ring.nought ≡ eval ring p y
  lone [] i y size small = absurd (omega arith)
  lone (a ∷ []) zero y size small = sym (eval-constant laws a y)
  lone (a ∷ []) (suc i) y size small = absurd (omega arith)
  lone (a ∷ (b ∷ p)) i y size small = absurd (omega arith)

  halving_step : (root : ℕ → F) (most l : ℕ) → RootLaws ring most root → suc l ≤ most
      → ((p : List F) (i : ℕ) → length p ≡ 2 ^ l → i < 2 ^ l → get_or (halving ring root l p) i ring.nought ≡ eval ring p (power ring (root l) (reversed l i)))
      → (p : List F) (i : ℕ) → length p ≡ 2 ^ suc l → i < 2 ^ suc l → (i < 2 ^ l) ⊎ (2 ^ l ≤ i)
      → get_or (halving ring root (suc l) p) i ring.nought ≡ eval ring p (power ring (root (suc l)) (reversed (suc l) i))
  unfolding halving
  halving_step root most l roots few below p i size small (inl low) =
      let a = take (2 ^ l) p in
      let b = drop (2 ^ l) p in
      let x : F = root (l + 1) in
      let sums = add_polynomials ring a b in
      let at_a : length a ≡ 2 ^ l = length-take (2 ^ l) p ∙ (let e : min (2 ^ l) (length p) ≡ 2 ^ l = omega (arith, twice l) in e) in
      let at_b : length b ≡ 2 ^ l = omega (arith, length-drop (2 ^ l) p, twice l) in
      let at_sums : length sums ≡ 2 ^ l = omega (arith, length-add ring a b, at_a, at_b) in
      get_or-append (halving ring root l sums) (halving ring root l (twisted ring x ring.unit a b)) ring.nought i (omega (arith, length-halving root l sums at_sums))
      ∙ below sums i at_sums low
      ∙ ap (λ z. eval ring sums (power ring z (reversed l i))) (sym (roots.square l (omega arith)))
      ∙ even_value x l (reversed l i) p size (roots.turns l (omega arith))
      ∙ ap (λ t. eval ring p (power ring x t)) (sym (reversed-low l i low))
      ∙ ap (λ n. eval ring p (power ring (root n) (reversed (suc l) i))) (let e : l + 1 ≡ suc l = omega arith in e)
  halving_step root most l roots few below p i size small (inr high) =
      let a = take (2 ^ l) p in
      let b = drop (2 ^ l) p in
      let x : F = root (l + 1) in
      let sums = add_polynomials ring a b in
      let twists = twisted ring x ring.unit a b in
      let at_a : length a ≡ 2 ^ l = length-take (2 ^ l) p ∙ (let e : min (2 ^ l) (length p) ≡ 2 ^ l = omega (arith, twice l) in e) in
      let at_b : length b ≡ 2 ^ l = omega (arith, length-drop (2 ^ l) p, twice l) in
      let at_sums : length sums ≡ 2 ^ l = omega (arith, length-add ring a b, at_a, at_b) in
      let at_twists : length twists ≡ 2 ^ l = length-twisted x ring.unit a b (at_a ∙ sym at_b) ∙ at_a in
      get_or-append_right (halving ring root l sums) (halving ring root l twists) (2 ^ l) i ring.nought (length-halving root l sums at_sums) high
      ∙ below twists (i - 2 ^ l) at_twists (omega (arith, twice l))
      ∙ ap (λ z. eval ring twists (power ring z (reversed l (i - 2 ^ l)))) (sym (roots.square l (omega arith)))
      ∙ odd_value x l (reversed l (i - 2 ^ l)) p size (roots.turns l (omega arith))
      ∙ ap (λ t. eval ring p (power ring x t)) (sym (reversed-high l i high))
      ∙ ap (λ n. eval ring p (power ring (root n) (reversed (suc l) i))) (let e : l + 1 ≡ suc l = omega arith in e)

  -- entry i is the value at the power that i reversed round names
  pub halving_at : (root : ℕ → F) (most : ℕ) → RootLaws ring most root → (l : ℕ) (p : List F) (i : ℕ) → l ≤ most → length p ≡ 2 ^ l → i < 2 ^ l
      → get_or (halving ring root l p) i ring.nought ≡ eval ring p (power ring (root l) (reversed l i))
  unfolding halving
  halving_at root most roots zero p i few size small = lone p i (power ring (root 0) (reversed 0 i)) size small
  halving_at root most roots (suc l) p i few size small =
      halving_step root most l roots few (λ q j hq hj. halving_at root most roots l q j (omega arith) hq hj) p i size small (cases_lt i (2 ^ l))

  pub halving-suc : (root : ℕ → F) (l : ℕ) (p : List F)
      → halving ring root (suc l) p ≡ halving ring root l (add_polynomials ring (take (2 ^ l) p) (drop (2 ^ l) p)) ++ halving ring root l (twisted ring (root (l + 1)) ring.unit (take (2 ^ l) p) (drop (2 ^ l) p))
  unfolding halving
  halving-suc root l p = refl
