-- Lemmas: places of the first record that passes, and tables of them.
use Rattle.std.proofs.Common.{◌≡◌, ◌≢◌, ℕ, zero, suc, ◌<◌, ◌==◌, Bool, true, false, ◌&&◌, ◌||◌, cond, List, [], ◌∷◌, ◌++◌, length, Option, Some, None, is_some, get_or, refl, sym, ap, subst, ◌∙◌, inl, inr, arith}
use Rattle.std.proofs.lemmas.Bool.{eq-eqb, eqb-true, false_from_ne_true}
use Rattle.std.specs.Option.{option_or, option_map}
use Rattle.std.specs.List.{list_any}
use Rattle.std.specs.declared.cmp.Ordering.{Ordering}
use Rattle.lane_records.specs.declared.record.Record.{Record}
use Rattle.legal_journals.specs.History.{Mem}
use Rattle.legal_journals.specs.Tables.{at, without}
use Rattle.legal_journals.specs.Places.{place_of, HasPlaces}

map_or : (a b : Option ℕ) → option_map suc (option_or a b) ≡ option_or (option_map suc a) (option_map suc b)
map_or None b = refl
map_or (Some n) b = refl

map_cond : (t : Bool) (n : ℕ) → option_map suc (cond t (Some n) None) ≡ cond t (Some (suc n)) None
map_cond true n = refl
map_cond false n = refl

by_last : (t : Bool) (o last : Option ℕ) → cond t (Some 0) (option_map suc (option_or o last)) ≡ option_or (cond t (Some 0) (option_map suc o)) (option_map suc last)
by_last true o last = refl
by_last false o last = map_or o last

-- one more behind the others
pub place_of-push : {A : Type 0} (test : A → Bool) (xs : List A) (x : A) → place_of test (xs ++ x ∷ []) ≡ option_or (place_of test xs) (cond (test x) (Some (length xs)) None)
place_of-push test [] x = refl
place_of-push {A} test (y ∷ xs) x =
    ap (λ o. cond (test y) (Some 0) (option_map suc o)) (place_of-push test xs x)
    ∙ by_last (test y) (place_of test xs) (cond (test x) (Some (length xs)) None)
    ∙ ap (option_or (cond (test y) (Some 0) (option_map suc (place_of test xs)))) (map_cond (test x) (length xs))

-- the place is one of the list's
pub place_of-within : {A : Type 0} (test : A → Bool) (xs : List A) (n : ℕ) → place_of test xs ≡ Some n → n < length xs
place_of-within test [] n e = absurd cc
place_of-within {A} test (x ∷ xs) n e = by_test (test x) (place_of test xs) (place_of-within test xs) e where
  by_test : (t : Bool) (o : Option ℕ) → ((m : ℕ) → o ≡ Some m → m < length xs) → cond t (Some 0) (option_map suc o) ≡ Some n → n < suc (length xs)
  by_test true o rest e = let same : 0 ≡ n = cc in omega arith
  by_test false None rest e = absurd cc
  by_test false (Some m) rest e = let lt = rest m refl in let same : suc m ≡ n = cc in omega arith

some_test : (t : Bool) (o : Option ℕ) → is_some (cond t (Some 0) (option_map suc o)) ≡ (t || is_some o)
some_test true o = refl
some_test false None = refl
some_test false (Some m) = refl

-- there is one where one passes
pub place_of-any : {A : Type 0} (test : A → Bool) (xs : List A) → is_some (place_of test xs) ≡ list_any test xs
place_of-any test [] = refl
place_of-any test (x ∷ xs) = some_test (test x) (place_of test xs) ∙ ap (λ b. test x || b) (place_of-any test xs)

-- ---- tables

or-none : (o : Option ℕ) → o ≡ option_or o None
or-none None = refl
or-none (Some n) = refl

module _ {K : Type 0} (cmp : K → K → Ordering) (test : K → Record → Bool) where
  -- the place behind the records is new
  pub fresh : (entries : List (K × ℕ)) (records : List Record) → HasPlaces cmp test entries records → (q : K) → at cmp q entries ≢ Some (length records)
  fresh entries records h q e = let lt = place_of-within (test q) records (length records) (sym (h q) ∙ e) in absurd (omega arith)

  -- a record that has no key here
  pub no_more : (entries : List (K × ℕ)) (records : List Record) (x : Record) → ((q : K) → test q x ≡ false) → HasPlaces cmp test entries records → HasPlaces cmp test entries (records ++ x ∷ [])
  no_more entries records x none h q =
      h q ∙ or-none (place_of (test q) records) ∙ ap (λ t. option_or (place_of (test q) records) (cond t (Some (length records)) None)) (sym (none q))
      ∙ sym (place_of-push (test q) records x)

  -- and without it
  pub no_less : (entries : List (K × ℕ)) (records : List Record) (x : Record) → ((q : K) → test q x ≡ false) → HasPlaces cmp test entries (records ++ x ∷ []) → HasPlaces cmp test entries records
  no_less entries records x none h q =
      h q ∙ place_of-push (test q) records x ∙ ap (λ t. option_or (place_of (test q) records) (cond t (Some (length records)) None)) (none q)
      ∙ sym (or-none (place_of (test q) records))

  -- a record whose keys are entered
  pub one_more : (old new : List (K × ℕ)) (records : List Record) (x : Record) (place : ℕ) → place ≡ length records
      → ((q : K) → at cmp q new ≡ option_or (at cmp q old) (cond (test q x) (Some place) None)) → HasPlaces cmp test old records → HasPlaces cmp test new (records ++ x ∷ [])
  one_more old new records x place is enters h q =
      enters q ∙ ap (λ had. option_or had (cond (test q x) (Some place) None)) (h q)
      ∙ ap (λ n. option_or (place_of (test q) records) (cond (test q x) (Some n) None)) is ∙ sym (place_of-push (test q) records x)

  -- a record whose keys are taken out
  pub one_less : (old new : List (K × ℕ)) (records : List Record) (x : Record) (place : ℕ) → place ≡ length records
      → ((q : K) → at cmp q new ≡ without place (test q x) (at cmp q old)) → HasPlaces cmp test old (records ++ x ∷ []) → HasPlaces cmp test new records
  one_less old new records x place is leaves h q =
      leaves q ∙ ap (without place (test q x)) (h q ∙ place_of-push (test q) records x) ∙ by_rest (place_of (test q) records) refl (test q x)
    where
      here : (length records == place) ≡ true
      here = eq-eqb (length records) place (sym is)

      other : (m : ℕ) → place_of (test q) records ≡ Some m → (m == place) ≡ false
      other m e = false_from_ne_true (m == place) (λ t. let lt = place_of-within (test q) records m e in let same = eqb-true m place t in absurd (omega arith))

      with_false : (t b : Bool) (o : Option ℕ) → b ≡ false → cond (t && b) None o ≡ o
      with_false true b o e = ap (λ c. cond c None o) e
      with_false false b o e = refl

      by_rest : (o : Option ℕ) → place_of (test q) records ≡ o → (t : Bool) → without place t (option_or o (cond t (Some (length records)) None)) ≡ o
      by_rest None e true = ap (λ b. cond b None (Some (length records))) here
      by_rest None e false = refl
      by_rest (Some m) e t = with_false t (m == place) (Some m) (other m e)

-- the one at the place passes
pub place_of-passes : {A : Type 0} (test : A → Bool) (xs : List A) (n : ℕ) (d : A) → place_of test xs ≡ Some n → test (get_or xs n d) ≡ true
place_of-passes test [] n d e = absurd cc
place_of-passes {A} test (x ∷ xs) n d e = by_test (test x) refl (place_of test xs) (λ m. place_of-passes test xs m d) e where
  by_test : (t : Bool) → test x ≡ t → (o : Option ℕ) → ((m : ℕ) → o ≡ Some m → test (get_or xs m d) ≡ true) → cond t (Some 0) (option_map suc o) ≡ Some n → test (get_or (x ∷ xs) n d) ≡ true
  by_test true is o rest e = let same : 0 ≡ n = cc in subst (λ (k : ℕ). test (get_or (x ∷ xs) k d) ≡ true) same is
  by_test false is None rest e = absurd cc
  by_test false is (Some m) rest e = let same : suc m ≡ n = cc in subst (λ (k : ℕ). test (get_or (x ∷ xs) k d) ≡ true) same (rest m refl)

pub Mem-get : {A : Type 0} (xs : List A) (n : ℕ) (d : A) → n < length xs → Mem (get_or xs n d) xs
Mem-get [] n d lt = absurd (omega arith)
Mem-get (x ∷ xs) zero d lt = inl refl
Mem-get (x ∷ xs) (suc n) d lt = inr (Mem-get xs n d (omega arith))

pub none_passes : {A : Type 0} (test : A → Bool) (xs : List A) → place_of test xs ≡ None → list_any test xs ≡ false
none_passes test xs e = sym (place_of-any test xs) ∙ ap is_some e
