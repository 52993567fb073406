-- Lemmas: elements and the bytes that spell them; vectors and their differences.
use Rattle.std.proofs.Common.{◌≡◌, ℕ, zero, suc, ◌+◌, ◌*◌, ◌%◌, ◌<◌, max, List, [], ◌∷◌, ◌++◌, append_assoc, length, map, take, get_or, Option, Some, None, sym, ap, ◌∙◌, refl, arith}
use Rattle.std.specs.Option.{option_and_then}
use Rattle.std.proofs.Math.ListN.{length-append}
use Rattle.std.proofs.lemmas.List.{append-nil, length-map, map-append, take_more}
use Rattle.field_laws.specs.Bytes.{low_bytes}
use Rattle.field_laws.specs.Ring.{Ring, minus}
use Rattle.field_laws.specs.Vector.{add_each}
use Rattle.field_laws.specs.Polynomial.{add_polynomials}
use Rattle.field_laws.proofs.Polynomials.{length-add}
use Rattle.field_laws.proofs.Spelling.{length-low_bytes}
use Rattle.vdaf_api.specs.Vectors.{spelled, vector_of, Below}
use Rattle.vdaf_api.specs.VectorLaws.{vector_of-spelled, vector_of-back}
use Rattle.prio3_share.specs.Base.{Base, BaseLaws}
use Rattle.prio3_share.specs.Texts.{bytes_of}
use Rattle.prio3_share.specs.Sharing.{differences}
use Rattle.prio3_share.specs.Preparing.{elements_of}

-- a chain that has a value has one at its first link
pub bind-some : {A B : Type 0} (o : Option A) (f : A → Option B) (y : B) → option_and_then f o ≡ Some y → (x : A) × (o ≡ Some x) × (f x ≡ Some y)
bind-some (Some x) f y e = (x, refl, e)
bind-some None f y e = absurd (cc)

pub length-spelled : (w : ℕ) (xs : List ℕ) → length (spelled w xs) ≡ length xs * w
unfolding spelled
length-spelled w [] = let e : 0 ≡ 0 * w = omega arith in e
length-spelled w (x ∷ xs) =
    let here : length (spelled w xs) ≡ length xs * w = length-spelled w xs in
    length-append {A = ℕ} _ (spelled w xs) ∙ ap (λ n. n + length (spelled w xs)) (length-low_bytes w x) ∙ (let e : w + length (spelled w xs) ≡ suc (length xs) * w = omega arith in e)

spelled-append : (w : ℕ) (xs ys : List ℕ) → spelled w (xs ++ ys) ≡ spelled w xs ++ spelled w ys
unfolding spelled
spelled-append w [] ys = refl
spelled-append w (x ∷ xs) ys = ap (λ l. low_bytes w x ++ l) (spelled-append w xs ys) ∙ sym (append_assoc (low_bytes w x) (spelled w xs) (spelled w ys))

spelled-one : (w x : ℕ) → spelled w (x ∷ []) ≡ low_bytes w x
unfolding spelled
spelled-one w x = append-nil (low_bytes w x)

-- elements written one after another
pub bytes-nothing : {F : Type 0} (b : Base F) (old : List ℕ) → old ≡ old ++ bytes_of b []
unfolding spelled
bytes-nothing b old = sym (append-nil old)

pub bytes-more : {F : Type 0} (b : Base F) (old : List ℕ) (xs : List F) (i : ℕ) (x : F) → i < length xs → x ≡ get_or xs i x
    → (old ++ bytes_of b (take i xs)) ++ low_bytes b.width (b.number x) ≡ old ++ bytes_of b (take (i + 1) xs)
bytes-more b old xs i x h is =
    append_assoc old (bytes_of b (take i xs)) (low_bytes b.width (b.number x))
    ∙ ap (λ l. old ++ (bytes_of b (take i xs) ++ l)) (sym (spelled-one b.width (b.number x)))
    ∙ ap (λ l. old ++ l) (sym (spelled-append b.width (map b.number (take i xs)) (b.number x ∷ [])))
    ∙ ap (λ l. old ++ spelled b.width l) (sym (map-append b.number (take i xs) (x ∷ [])))
    ∙ ap (λ y. old ++ bytes_of b (take i xs ++ (y ∷ []))) is
    ∙ ap (λ l. old ++ bytes_of b l) (sym (take_more xs i x h))

-- differences taken one after another
pub differences-nothing : {F : Type 0} (ring : Ring F) (xs ys : List F) → [] ≡ differences ring (take 0 xs) (take 0 ys)
unfolding add_polynomials
differences-nothing ring xs ys = refl

pub differences-more : {F : Type 0} (ring : Ring F) (xs ys : List F) (i : ℕ) (x y : F) → i < length xs → length xs ≡ length ys → x ≡ get_or xs i x → y ≡ get_or ys i y
    → differences ring (take i xs) (take i ys) ++ (minus ring x y ∷ []) ≡ differences ring (take (suc i) xs) (take (suc i) ys)
unfolding add_polynomials
differences-more ring [] ys i x y h e ex ey = absurd (omega arith)
differences-more ring (a ∷ xs) [] i x y h e ex ey = absurd (omega arith)
differences-more ring (a ∷ xs) (b ∷ ys) zero x y h e ex ey = ap (λ z. minus ring z y ∷ []) ex ∙ ap (λ z. minus ring a z ∷ []) ey
differences-more ring (a ∷ xs) (b ∷ ys) (suc i) x y h e ex ey = ap (λ l. minus ring a b ∷ l) (differences-more ring xs ys i x y (omega arith) (omega arith) ex ey)

module _ {F : Type 0} {b : Base F} (laws : BaseLaws b) where
  pub length-bytes : (xs : List F) → length (bytes_of b xs) ≡ length xs * b.width
  length-bytes xs = length-spelled b.width (map b.number xs) ∙ ap (λ n. n * b.width) (length-map xs b.number)

  pub below-numbers : (xs : List F) → Below b.modulus (map b.number xs)
  unfolding Below
  below-numbers [] = tt
  below-numbers (x ∷ xs) = (laws.residues.below x, below-numbers xs)

  pub residues-numbers : (xs : List F) → map b.residue (map b.number xs) ≡ xs
  residues-numbers [] = refl
  residues-numbers (x ∷ xs) = ap (λ a. a ∷ map b.residue (map b.number xs)) (laws.residues.residue-number x) ∙ ap (λ l. x ∷ l) (residues-numbers xs)

  pub vector-bytes : (n : ℕ) (xs : List F) → length xs ≡ n → vector_of b.modulus b.width n (bytes_of b xs) ≡ Some (map b.number xs)
  vector-bytes n xs e =
      ap (λ k. vector_of b.modulus b.width k (bytes_of b xs)) (sym (length-map xs b.number ∙ e)) ∙ vector_of-spelled b.modulus b.width (map b.number xs) laws.room (below-numbers xs)

  pub elements-bytes : (n : ℕ) (xs : List F) → length xs ≡ n → elements_of b n (bytes_of b xs) ≡ Some xs
  elements-bytes n xs e = ap (option_and_then (λ numbers. Some (map b.residue numbers))) (vector-bytes n xs e) ∙ ap Some (residues-numbers xs)

  number-add : (x y : F) → (b.number x + b.number y) % b.modulus ≡ b.number (b.ring.add x y)
  number-add x y = sym (ap (λ (r : Ring F). b.number (r.add x y)) laws.is_ring ∙ laws.residues.number-residue (b.number x + b.number y))

  pub numbers-add : (xs ys : List F) → length xs ≡ length ys → add_each b.modulus (map b.number xs) (map b.number ys) ≡ map b.number (add_polynomials b.ring xs ys)
  unfolding add_polynomials
  numbers-add [] [] e = refl
  numbers-add [] (y ∷ ys) e = absurd (omega arith)
  numbers-add (x ∷ xs) [] e = absurd (omega arith)
  numbers-add (x ∷ xs) (y ∷ ys) e = ap (λ n. n ∷ add_each b.modulus (map b.number xs) (map b.number ys)) (number-add x y) ∙ ap (λ l. b.number (b.ring.add x y) ∷ l) (numbers-add xs ys (omega arith))

  back : (x y : F) → b.ring.add (b.ring.add x (b.ring.neg y)) y ≡ x
  back x y = laws.laws.add_assoc x (b.ring.neg y) y ∙ ap (b.ring.add x) (laws.laws.add_comm (b.ring.neg y) y ∙ laws.laws.add-neg y) ∙ laws.laws.add-nought x

  -- a vector is the sum of what another leaves of it, and that one
  pub differences-add : (xs ys : List F) → length xs ≡ length ys → add_polynomials b.ring (differences b.ring xs ys) ys ≡ xs
  unfolding add_polynomials
  differences-add [] [] e = refl
  differences-add [] (y ∷ ys) e = absurd (omega arith)
  differences-add (x ∷ xs) [] e = absurd (omega arith)
  differences-add (x ∷ xs) (y ∷ ys) e = ap (λ a. a ∷ add_polynomials b.ring (differences b.ring xs ys) ys) (back x y) ∙ ap (λ l. x ∷ l) (differences-add xs ys (omega arith))

  pub length-differences : (xs ys : List F) → length xs ≡ length ys → length (differences b.ring xs ys) ≡ length xs
  length-differences xs ys e =
      let m : length (map b.ring.neg ys) ≡ length ys = length-map ys b.ring.neg in
      length-add b.ring xs (map b.ring.neg ys) ∙ (let k : max (length xs) (length (map b.ring.neg ys)) ≡ length xs = omega arith in k)

  pub length-elements : (n : ℕ) (bytes : List ℕ) (xs : List F) → elements_of b n bytes ≡ Some xs → length xs ≡ n
  length-elements n bytes xs e =
      let one = bind-some (vector_of b.modulus b.width n bytes) (λ numbers. Some (map b.residue numbers)) xs e in
      let some : Some (map b.residue one.0) ≡ Some xs = one.2 in
      let is : map b.residue one.0 ≡ xs = cc in
      sym (ap length is) ∙ length-map one.0 b.residue ∙ (vector_of-back b.modulus b.width n bytes one.0 one.1).size
