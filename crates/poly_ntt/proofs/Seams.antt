-- A list rewritten from its front, and entries of twisted differences.
use Rattle.std.proofs.Common.{◌≡◌, ℕ, zero, suc, ◌+◌, ◌*◌, ◌/◌, ◌%◌, ◌^◌, ◌<◌, ◌≤◌, List, [], ◌∷◌, ◌++◌, sym, ap, ◌∙◌, refl, arith, get_or, set, length, take, drop}
use Rattle.std.proofs.Math.Nat.{pow-suc, le-mul_of_pos_right}
use Rattle.std.proofs.lemmas.Nat.{pow_pos}
use Rattle.field_laws.specs.Ring.{Ring, RingLaws, power, minus}
use Rattle.field_laws.proofs.Powers.{power-zero, power-suc}
use Rattle.poly_ntt.specs.Transform.{reversed, twisted}
use Rattle.poly_ntt.proofs.Reversed.{reversed-by_low}

pub set_seam : {X : Type 0} (s a : List X) (i : ℕ) (d : X) → i < length a → i < length s → set (take i s ++ drop i a) i (get_or s i d) ≡ take (suc i) s ++ drop (suc i) a
set_seam [] a i d h k = absurd (omega arith)
set_seam (x ∷ s) [] i d h k = absurd (omega arith)
set_seam (x ∷ s) (y ∷ a) zero d h k = refl
set_seam (x ∷ s) (y ∷ a) (suc i) d h k = ap (λ l. x ∷ l) (set_seam s a i d (omega arith) (omega arith))

pub read_seam : {X : Type 0} (s a : List X) (i : ℕ) (d : X) → i < length a → i < length s → get_or (take i s ++ drop i a) i d ≡ get_or a i d
read_seam [] a i d h k = absurd (omega arith)
read_seam (x ∷ s) [] i d h k = absurd (omega arith)
read_seam (x ∷ s) (y ∷ a) zero d h k = refl
read_seam (x ∷ s) (y ∷ a) (suc i) d h k = read_seam s a i d (omega arith) (omega arith)

module _ {F : Type 0} {ring : Ring F} (laws : RingLaws ring) where
  pub get_or-twisted : (x w : F) (a b : List F) (i : ℕ) → i < length a → i < length b
      → get_or (twisted ring x w a b) i ring.nought ≡ ring.mul (minus ring (get_or a i ring.nought) (get_or b i ring.nought)) (ring.mul w (power ring x i))
  unfolding twisted
  get_or-twisted x w [] b i h k = absurd (omega arith)
  get_or-twisted x w (a ∷ us) [] i h k = absurd (omega arith)
  get_or-twisted x w (a ∷ us) (b ∷ vs) zero h k = ap (ring.mul (minus ring a b)) (sym (laws.mul-unit w) ∙ ap (ring.mul w) (sym (power-zero laws x)))
  get_or-twisted x w (a ∷ us) (b ∷ vs) (suc i) h k =
      get_or-twisted x (ring.mul w x) us vs i (omega arith) (omega arith)
      ∙ ap (ring.mul (minus ring (get_or us i ring.nought) (get_or vs i ring.nought))) (laws.mul_assoc w x (power ring x i) ∙ ap (ring.mul w) (sym (power-suc laws x i)))

pub digit_step : (m r l t : ℕ) → r < 2 ^ suc l → m * 2 ^ suc l + reversed (suc l) r ≡ t → (m * 2 + r % 2) * 2 ^ l + reversed l (r / 2) ≡ t
digit_step m r l t small e =
    (let s : (m * 2 + r % 2) * 2 ^ l + reversed l (r / 2) ≡ m * (2 ^ l * 2) + (r % 2 * 2 ^ l + reversed l (r / 2)) = omega arith in s)
    ∙ ap (λ n. m * n + (r % 2 * 2 ^ l + reversed l (r / 2))) (sym (pow-suc 2 l)) ∙ ap (λ n. m * 2 ^ suc l + n) (sym (reversed-by_low l r small)) ∙ e

pub digit_room : (m r l t : ℕ) → r < 2 ^ suc l → m * 2 ^ suc l + reversed (suc l) r ≡ t → m * 2 + r % 2 ≤ t
digit_room m r l t small e =
    let more : m * 2 + r % 2 ≤ (m * 2 + r % 2) * 2 ^ l = le-mul_of_pos_right (m * 2 + r % 2) (pow_pos l) in
    omega (arith, digit_step m r l t small e, more)
