-- The ring solver: equations that hold in every commutative ring with one.
--
-- It solves `t ≡ u` where both sides are built from elements of the ring by nought, unit, add and mul, and where the
-- equation follows from the laws of a commutative ring by reordering and multiplying out. Call it as
-- `solve laws (a ∷ (b ∷ [])) t u refl`: the list has the elements, the terms t and u name them by their places, as
-- `plus (at 0) (times (at 1) one)`, and the proof is of `meaning ring (a ∷ (b ∷ [])) t ≡ meaning ring (a ∷ (b ∷ [])) u`,
-- which computes to the equation itself. Both terms are multiplied out to sums of sorted words of places and the words
-- are sorted; `refl` holds where these normal forms are one, and is refused where they aren't.
-- It counts no coefficients and cancels nothing. For a negative pass `ring.neg ring.unit` as an element of the list and
-- write `- a` as its product with a, by `neg-by_unit`.
use Rattle.std.proofs.Common.{◌≡◌, ℕ, zero, suc, List, [], ◌∷◌, ◌++◌, Bool, true, false, cond, sym, ap, ◌∙◌, refl}
use Rattle.std.proofs.Math.Dec.{leb, ltb}
use Rattle.field_laws.specs.Ring.{Ring, RingLaws}

-- a sum of products of places in a list of elements
pub data Term : Type 0 where
  at : ℕ → Term
  none : Term
  one : Term
  plus : Term → Term → Term
  times : Term → Term → Term

-- a place put into a sorted word
abbrev pub insert_index : ℕ → List ℕ → List ℕ
insert_index i [] = i ∷ []
insert_index i (j ∷ js) = cond (leb i j) (i ∷ (j ∷ js)) (j ∷ insert_index i js)

-- the sorted word of two words' places
abbrev pub join : List ℕ → List ℕ → List ℕ
join [] ns = ns
join (i ∷ is) ns = insert_index i (join is ns)

-- a word times each word of a sum
abbrev pub spread : List ℕ → List (List ℕ) → List (List ℕ)
spread m [] = []
spread m (n ∷ ns) = join m n ∷ spread m ns

-- the product of two sums of words
abbrev pub cross : List (List ℕ) → List (List ℕ) → List (List ℕ)
cross [] ns = []
cross (m ∷ ms) ns = spread m ns ++ cross ms ns

-- whether a word comes first, in the order of a dictionary
abbrev pub before : List ℕ → List ℕ → Bool
before [] js = true
before (i ∷ is) [] = false
before (i ∷ is) (j ∷ js) = cond (ltb i j) true (cond (ltb j i) false (before is js))

-- a word put into a sorted sum
abbrev pub insert_word : List ℕ → List (List ℕ) → List (List ℕ)
insert_word m [] = m ∷ []
insert_word m (n ∷ ns) = cond (before m n) (m ∷ (n ∷ ns)) (n ∷ insert_word m ns)

-- a sum with its words in order
abbrev pub sorted : List (List ℕ) → List (List ℕ)
sorted [] = []
sorted (m ∷ ms) = insert_word m (sorted ms)

-- a term multiplied out
abbrev pub words : Term → List (List ℕ)
words (at k) = (k ∷ []) ∷ []
words none = []
words one = [] ∷ []
words (plus a b) = words a ++ words b
words (times a b) = cross (words a) (words b)

-- the element at a place, nought past the end
abbrev pub look : {F : Type 0} → Ring F → List F → ℕ → F
look ring [] k = ring.nought
look ring (x ∷ xs) zero = x
look ring (x ∷ xs) (suc k) = look ring xs k

-- what a term stands for
abbrev pub meaning : {F : Type 0} → Ring F → List F → Term → F
meaning ring env (at k) = look ring env k
meaning ring env none = ring.nought
meaning ring env one = ring.unit
meaning ring env (plus a b) = ring.add (meaning ring env a) (meaning ring env b)
meaning ring env (times a b) = ring.mul (meaning ring env a) (meaning ring env b)

-- what a word stands for
abbrev pub product_of : {F : Type 0} → Ring F → List F → List ℕ → F
product_of ring env [] = ring.unit
product_of ring env (i ∷ is) = ring.mul (look ring env i) (product_of ring env is)

-- what a sum of words stands for
abbrev pub total_of : {F : Type 0} → Ring F → List F → List (List ℕ) → F
total_of ring env [] = ring.nought
total_of ring env (m ∷ ms) = ring.add (product_of ring env m) (total_of ring env ms)

module _ {F : Type 0} {ring : Ring F} (laws : RingLaws ring) (env : List F) where
  pub nought-add : (a : F) → ring.add ring.nought a ≡ a
  nought-add a = laws.add_comm ring.nought a ∙ laws.add-nought a

  pub unit-mul : (a : F) → ring.mul ring.unit a ≡ a
  unit-mul a = laws.mul_comm ring.unit a ∙ laws.mul-unit a

  pub add_left_comm : (a b c : F) → ring.add a (ring.add b c) ≡ ring.add b (ring.add a c)
  add_left_comm a b c = sym (laws.add_assoc a b c) ∙ ap (λ x. ring.add x c) (laws.add_comm a b) ∙ laws.add_assoc b a c

  pub mul_left_comm : (a b c : F) → ring.mul a (ring.mul b c) ≡ ring.mul b (ring.mul a c)
  mul_left_comm a b c = sym (laws.mul_assoc a b c) ∙ ap (λ x. ring.mul x c) (laws.mul_comm a b) ∙ laws.mul_assoc b a c

  pub add-mul : (a b c : F) → ring.mul (ring.add a b) c ≡ ring.add (ring.mul a c) (ring.mul b c)
  add-mul a b c = laws.mul_comm (ring.add a b) c ∙ laws.mul-add c a b ∙ ap (λ x. ring.add x (ring.mul c b)) (laws.mul_comm c a) ∙ ap (ring.add (ring.mul a c)) (laws.mul_comm c b)

  -- what is added to both sides may go
  pub cancel : (a b c : F) → ring.add a b ≡ ring.add a c → b ≡ c
  cancel a b c e =
      let undo : (d : F) → ring.add (ring.neg a) (ring.add a d) ≡ d = λ d. sym (laws.add_assoc (ring.neg a) a d) ∙ ap (λ x. ring.add x d) (laws.add_comm (ring.neg a) a ∙ laws.add-neg a) ∙ nought-add d in
      sym (undo b) ∙ ap (ring.add (ring.neg a)) e ∙ undo c

  pub mul-nought : (a : F) → ring.mul a ring.nought ≡ ring.nought
  mul-nought a = cancel (ring.mul a ring.nought) _ _ (sym (laws.mul-add a ring.nought ring.nought) ∙ ap (ring.mul a) (laws.add-nought ring.nought) ∙ sym (laws.add-nought (ring.mul a ring.nought)))

  pub nought-mul : (a : F) → ring.mul ring.nought a ≡ ring.nought
  nought-mul a = laws.mul_comm ring.nought a ∙ mul-nought a

  -- a negative is a product with minus one
  pub neg-by_unit : (a : F) → ring.neg a ≡ ring.mul (ring.neg ring.unit) a
  neg-by_unit a =
      cancel a _ _ (laws.add-neg a
      ∙ sym (ap (λ x. ring.add x (ring.mul (ring.neg ring.unit) a)) (sym (unit-mul a)) ∙ sym (add-mul ring.unit (ring.neg ring.unit) a) ∙ ap (λ x. ring.mul x a) (laws.add-neg ring.unit) ∙ nought-mul a))

  product-insert : (i : ℕ) (ns : List ℕ) → product_of ring env (insert_index i ns) ≡ ring.mul (look ring env i) (product_of ring env ns)
  product-insert i [] = refl
  product-insert i (j ∷ js) =
      elim (leb i j) as (λ v. product_of ring env (cond v (i ∷ (j ∷ js)) (j ∷ insert_index i js)) ≡ ring.mul (look ring env i) (product_of ring env (j ∷ js)))
      [ true ↦ refl | false ↦ ap (ring.mul (look ring env j)) (product-insert i js) ∙ mul_left_comm _ _ _ ]

  product-join : (ms ns : List ℕ) → product_of ring env (join ms ns) ≡ ring.mul (product_of ring env ms) (product_of ring env ns)
  product-join [] ns = sym (unit-mul _)
  product-join (i ∷ is) ns = product-insert i (join is ns) ∙ ap (ring.mul (look ring env i)) (product-join is ns) ∙ sym (laws.mul_assoc _ _ _)

  total-append : (ms ns : List (List ℕ)) → total_of ring env (ms ++ ns) ≡ ring.add (total_of ring env ms) (total_of ring env ns)
  total-append [] ns = sym (nought-add _)
  total-append (m ∷ ms) ns = ap (ring.add (product_of ring env m)) (total-append ms ns) ∙ sym (laws.add_assoc _ _ _)

  total-spread : (m : List ℕ) (ns : List (List ℕ)) → total_of ring env (spread m ns) ≡ ring.mul (product_of ring env m) (total_of ring env ns)
  total-spread m [] = sym (mul-nought _)
  total-spread m (n ∷ ns) = ap (ring.add (product_of ring env (join m n))) (total-spread m ns) ∙ ap (λ x. ring.add x (ring.mul (product_of ring env m) (total_of ring env ns))) (product-join m n) ∙ sym (laws.mul-add _ _ _)

  total-cross : (ms ns : List (List ℕ)) → total_of ring env (cross ms ns) ≡ ring.mul (total_of ring env ms) (total_of ring env ns)
  total-cross [] ns = sym (nought-mul _)
  total-cross (m ∷ ms) ns = total-append (spread m ns) (cross ms ns) ∙ ap (ring.add (total_of ring env (spread m ns))) (total-cross ms ns) ∙ ap (λ x. ring.add x (ring.mul (total_of ring env ms) (total_of ring env ns))) (total-spread m ns) ∙ sym (add-mul _ _ _)

  total-insert : (m : List ℕ) (ns : List (List ℕ)) → total_of ring env (insert_word m ns) ≡ ring.add (product_of ring env m) (total_of ring env ns)
  total-insert m [] = refl
  total-insert m (n ∷ ns) =
      elim (before m n) as (λ v. total_of ring env (cond v (m ∷ (n ∷ ns)) (n ∷ insert_word m ns)) ≡ ring.add (product_of ring env m) (total_of ring env (n ∷ ns)))
      [ true ↦ refl | false ↦ ap (ring.add (product_of ring env n)) (total-insert m ns) ∙ add_left_comm _ _ _ ]

  total-sorted : (ms : List (List ℕ)) → total_of ring env (sorted ms) ≡ total_of ring env ms
  total-sorted [] = refl
  total-sorted (m ∷ ms) = total-insert m (sorted ms) ∙ ap (ring.add (product_of ring env m)) (total-sorted ms)

  total-words : (t : Term) → meaning ring env t ≡ total_of ring env (words t)
  total-words (at k) = sym (laws.add-nought _ ∙ laws.mul-unit _)
  total-words none = refl
  total-words one = sym (laws.add-nought _)
  total-words (plus a b) = ap (ring.add (meaning ring env a)) (total-words b) ∙ ap (λ x. ring.add x (total_of ring env (words b))) (total-words a) ∙ sym (total-append (words a) (words b))
  total-words (times a b) = ap (ring.mul (meaning ring env a)) (total-words b) ∙ ap (λ x. ring.mul x (total_of ring env (words b))) (total-words a) ∙ sym (total-cross (words a) (words b))

  -- two terms with one normal form stand for one element
  pub solve : (a b : Term) → sorted (words a) ≡ sorted (words b) → meaning ring env a ≡ meaning ring env b
  solve a b e = total-words a ∙ sym (total-sorted (words a)) ∙ ap (total_of ring env) e ∙ total-sorted (words b) ∙ sym (total-words b)
