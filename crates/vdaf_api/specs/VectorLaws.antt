-- Lemmas: vectors and their bytes lead back to one another.
use Rattle.std.proofs.Common.{◌≡◌, ℕ, zero, suc, ◌+◌, ◌-◌, ◌*◌, ◌/◌, ◌%◌, ◌^◌, ◌<◌, ◌≤◌, List, [], ◌∷◌, ◌++◌, length, get_or, take, drop, Bool, true, false, Option, Some, None, sym, ap, ◌∙◌, refl, arith, subst}
use Rattle.std.specs.Prelude.{nat_eq, nat_lt}
use Rattle.std.specs.List.{list_all}
use Rattle.std.proofs.Math.ListN.{length-append}
use Rattle.std.proofs.Math.Seq.{take-append_seam, drop-append_seam}
use Rattle.std.proofs.lemmas.Bool.{and_parts}
use Rattle.std.proofs.lemmas.Bool.Decides.{nat_tests}
use Rattle.std.proofs.lemmas.List.{take-append-drop}
use Rattle.field_laws.specs.Bytes.{low_bytes, from_low}
use Rattle.field_laws.proofs.Spelling.{low_bytes-from_low, length-low_bytes, from_low-low_bytes}
use Rattle.vdaf_api.specs.Vectors.{when, is_byte, spelled, element_of, joined, vector_of, Below}

pub when-some : {A : Type 0} (b : Bool) (o : Option A) (x : A) → when b o ≡ Some x → (b ≡ true) × (o ≡ Some x)
when-some true o x e = (refl, e)
when-some false o x e = absurd (cc)

pub low_bytes-bytes : (n v : ℕ) → list_all is_byte (low_bytes n v) ≡ true
unfolding low_bytes
low_bytes-bytes zero v = refl
low_bytes-bytes (suc n) v =
    let e : nat_lt (v % 256) 256 ≡ true = grind (arith, nat_tests) in
    rw e (low_bytes-bytes n (v / 256))

bytes_small : (bs : List ℕ) → list_all is_byte bs ≡ true → (i : ℕ) → get_or bs i 0 < 256
bytes_small [] h i = omega arith
bytes_small (b ∷ bs) h zero = let e : nat_lt b 256 ≡ true = (and_parts (nat_lt b 256) (list_all is_byte bs) h).0 in grind (arith, nat_tests)
bytes_small (b ∷ bs) h (suc i) = bytes_small bs (and_parts (nat_lt b 256) (list_all is_byte bs) h).1 i

pub element_of-low : (p w x : ℕ) → x < p → p ≤ 256 ^ w → element_of p w (low_bytes w x) ≡ Some x
unfolding element_of
element_of-low p w x h room =
    let one : nat_eq (length (low_bytes w x)) w ≡ true = ap (λ k. nat_eq k w) (length-low_bytes w x) ∙ (let e : nat_eq w w ≡ true = grind (arith, nat_tests) in e) in
    let back : from_low (low_bytes w x) ≡ x = from_low-low_bytes w x (omega arith) in
    let small : nat_lt x p ≡ true = grind (arith, nat_tests) in
    rw (one, low_bytes-bytes w x, back, small) refl

-- what the bytes of an element are
pub record SpellsOne (p w : ℕ) (bs : List ℕ) (x : ℕ) : Type 0 where
  pub value : from_low bs ≡ x
  pub back : low_bytes w x ≡ bs
  pub small : x < p
  pub size : length bs ≡ w

pub element_of-back : (p w : ℕ) (bs : List ℕ) (x : ℕ) → element_of p w bs ≡ Some x → SpellsOne p w bs x
unfolding element_of
element_of-back p w bs x e =
    let a = when-some (nat_eq (length bs) w) (when (list_all is_byte bs) (when (nat_lt (from_low bs) p) (Some (from_low bs)))) x e in
    let b = when-some (list_all is_byte bs) (when (nat_lt (from_low bs) p) (Some (from_low bs))) x a.1 in
    let c = when-some (nat_lt (from_low bs) p) (Some (from_low bs)) x b.1 in
    let la : nat_eq (length bs) w ≡ true = a.0 in
    let lc : nat_lt (from_low bs) p ≡ true = c.0 in
    let len : length bs ≡ w = grind (arith, nat_tests) in
    let some : Some (from_low bs) ≡ Some x = c.1 in
    let is : from_low bs ≡ x = cc in
    let small : from_low bs < p = grind (arith, nat_tests) in
    record { value = is; back = ap (low_bytes w) (sym is) ∙ ap (λ k. low_bytes k (from_low bs)) (sym len) ∙ low_bytes-from_low bs (bytes_small bs b.0); small = omega arith; size = len }

pub vector_of-spelled : (p w : ℕ) (xs : List ℕ) → p ≤ 256 ^ w → Below p xs → vector_of p w (length xs) (spelled w xs) ≡ Some xs
unfolding vector_of spelled Below
vector_of-spelled p w [] room h = refl
vector_of-spelled p w (x ∷ xs) room h =
    let len : length (low_bytes w x) ≡ w = length-low_bytes w x in
    let first : take w (low_bytes w x ++ spelled w xs) ≡ low_bytes w x = ap (λ k. take k (low_bytes w x ++ spelled w xs)) (sym len) ∙ take-append_seam (low_bytes w x) (spelled w xs) in
    let rest : drop w (low_bytes w x ++ spelled w xs) ≡ spelled w xs = ap (λ k. drop k (low_bytes w x ++ spelled w xs)) (sym len) ∙ drop-append_seam (low_bytes w x) (spelled w xs) in
    rw (first, rest, element_of-low p w x h.0 room, vector_of-spelled p w xs room h.1) refl

-- what the bytes of a vector are
pub record Spells (p w n : ℕ) (bs xs : List ℕ) : Type 0 where
  pub back : spelled w xs ≡ bs
  pub size : length xs ≡ n
  pub below : Below p xs
  pub bytes : length bs ≡ n * w

pub joined-some : (o : Option ℕ) (q : Option (List ℕ)) (xs : List ℕ) → joined o q ≡ Some xs → (x : ℕ) × (ys : List ℕ) × (o ≡ Some x) × (q ≡ Some ys) × (xs ≡ x ∷ ys)
joined-some (Some x) (Some ys) xs e = (x, ys, refl, refl, cc)
joined-some (Some x) None xs e = absurd (cc)
joined-some None q xs e = absurd (cc)

pub vector_of-back : (p w n : ℕ) (bs xs : List ℕ) → vector_of p w n bs ≡ Some xs → Spells p w n bs xs
unfolding vector_of spelled Below
vector_of-back p w zero [] xs e = let is : [] ≡ xs = cc in subst (Spells p w 0 []) is (record { back = refl; size = refl; below = tt; bytes = (let e : 0 ≡ 0 * w = omega arith in e) })
vector_of-back p w zero (b ∷ bs) xs e = absurd (cc)
vector_of-back p w (suc n) bs xs e =
    let parts = joined-some _ _ xs e in
    let one = element_of-back p w (take w bs) parts.0 parts.2 in
    let more = vector_of-back p w n (drop w bs) parts.1 parts.3 in
    let long : length (take w bs) ≡ w = one.size in
    let tail : length (drop w bs) ≡ n * w = more.bytes in
    let whole : length (take w bs ++ drop w bs) ≡ length bs = ap length (take-append-drop w bs) in
    subst (Spells p w (suc n) bs) (sym parts.4) (record {
      back = ap (λ l. l ++ spelled w parts.1) one.back ∙ ap (λ l. take w bs ++ l) more.back ∙ take-append-drop w bs;
      size = ap suc more.size;
      below = (one.small, more.below);
      bytes = omega (arith, simp length-append at whole);
    })

-- each entry is below p, and so is what is read past the end
pub below-at : (p : ℕ) (xs : List ℕ) (i : ℕ) → 1 ≤ p → Below p xs → get_or xs i 0 < p
unfolding Below
below-at p [] i some below = omega arith
below-at p (x ∷ xs) zero some below = below.0
below-at p (x ∷ xs) (suc i) some below = below-at p xs i some below.1
