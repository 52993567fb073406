-- Lemmas: entering the reports of items one after the other, and taking them out.
use Rattle.std.proofs.Common.{◌≡◌, ◌≢◌, ℕ, ◌+◌, ◌<◌, ◌≤◌, ◌==◌, Bool, true, false, ◌&&◌, ◌||◌, cond, List, [], ◌∷◌, ◌++◌, length, get_or, take, drop, Option, Some, None, bytes_eq, refl, sym, ap, ◌∙◌}
use Rattle.std.proofs.lemmas.Bool.{eq-eqb, eqb-true, false_from_ne_true, or_left, and_parts, and_from}
use Rattle.std.proofs.lemmas.List.{take_more, take_all, take-append-drop}
use Rattle.std.proofs.lemmas.List.Folds.{list_any-append}
use Rattle.std.specs.Option.{option_or}
use Rattle.std.specs.Ordering.{is_eq}
use Rattle.std.specs.List.{list_any}
use Rattle.dap_messages.specs.declared.item.Tagged.{Tagged}
use Rattle.legal_journals.specs.Reports.{Report, report_order, among}
use Rattle.legal_journals.specs.Tables.{without}
use Rattle.legal_journals.proofs.Keys.{report-ties}

-- the test of an item
abbrev is_one : {B : Type 0} → (B → Bool) → Report → Tagged B → Bool
is_one marked q x = bytes_eq x.id q.1 && marked x.body

or-false : (a : Bool) → (a || false) ≡ a
or-false true = refl
or-false false = refl

spread : (a b c : Bool) → (a && (b || c)) ≡ (a && b || a && c)
spread true b c = refl
spread false b c = refl

and-false : (a : Bool) → (a && false) ≡ false
and-false true = refl
and-false false = refl

pub and-true : (a : Bool) → (a && true) ≡ a
and-true true = refl
and-true false = refl

module _ {B : Type 0} (marked : B → Bool) (n : List ℕ) (xs : List (Tagged B)) where
  -- one item more
  more : (i : ℕ) (x : Tagged B) (q : Report) → i < length xs → x ≡ get_or xs i x
      → among marked n (take (i + 1) xs) q ≡ (among marked n (take i xs) q || bytes_eq n q.0 && is_one marked q x)
  more i x q lt is =
      ap (λ ys. bytes_eq n q.0 && list_any (is_one marked q) ys) (take_more xs i x lt ∙ ap (λ y. take i xs ++ y ∷ []) (sym is))
      ∙ ap (λ b. bytes_eq n q.0 && b)
      (list_any-append (is_one marked q) (take i xs) (x ∷ []) ∙ ap (λ b. list_any (is_one marked q) (take i xs) || b) (or-false (is_one marked q x)))
      ∙ spread (bytes_eq n q.0) (list_any (is_one marked q) (take i xs)) (is_one marked q x)

  -- one that is marked
  pub more_marked : (i : ℕ) (x : Tagged B) (q : Report) → i < length xs → x ≡ get_or xs i x → marked x.body ≡ true
      → among marked n (take (i + 1) xs) q ≡ (among marked n (take i xs) q || is_eq (report_order (n, x.id) q))
  more_marked i x q lt is m =
      more i x q lt is
      ∙ ap (λ b. among marked n (take i xs) q || b)
      (ap (λ b. bytes_eq n q.0 && b) (ap (λ b. bytes_eq x.id q.1 && b) m ∙ and-true (bytes_eq x.id q.1)) ∙ sym (report-ties (n, x.id) q))

  -- one that is not
  pub more_unmarked : (i : ℕ) (x : Tagged B) (q : Report) → i < length xs → x ≡ get_or xs i x → marked x.body ≡ false
      → among marked n (take (i + 1) xs) q ≡ among marked n (take i xs) q
  more_unmarked i x q lt is m =
      more i x q lt is
      ∙ ap (λ b. among marked n (take i xs) q || b)
      (ap (λ b. bytes_eq n q.0 && b) (ap (λ b. bytes_eq x.id q.1 && b) m ∙ and-false (bytes_eq x.id q.1)) ∙ and-false (bytes_eq n q.0))
      ∙ or-false (among marked n (take i xs) q)

  -- all of them
  pub whole : (i : ℕ) (q : Report) → length xs ≤ i → among marked n (take i xs) q ≡ among marked n xs q
  whole i q le = ap (λ ys. among marked n ys q) (take_all i xs le)

  -- those of a beginning
  pub of_all : (i : ℕ) (q : Report) → among marked n (take i xs) q ≡ true → among marked n xs q ≡ true
  of_all i q e =
      let parts = and_parts (bytes_eq n q.0) (list_any (is_one marked q) (take i xs)) e in
      and_from (bytes_eq n q.0) (list_any (is_one marked q) xs) parts.0
      (ap (list_any (is_one marked q)) (sym (take-append-drop i xs)) ∙ list_any-append (is_one marked q) (take i xs) (drop i xs)
      ∙ or_left (list_any (is_one marked q) (take i xs)) (list_any (is_one marked q) (drop i xs)) parts.1)

-- ---- what a key has

pub none_among : (had : Option ℕ) (place : ℕ) → had ≡ option_or had (cond false (Some place) None)
none_among None place = refl
none_among (Some n) place = refl

pub entered_more : (had : Option ℕ) (place : ℕ) (m t : Bool) → option_or (option_or had (cond m (Some place) None)) (cond t (Some place) None) ≡ option_or had (cond (m || t) (Some place) None)
entered_more None place true t = refl
entered_more None place false t = refl
entered_more (Some n) place m t = refl

pub left_more : (had : Option ℕ) (place : ℕ) (m t : Bool) → without place t (without place m had) ≡ without place (m || t) had
left_more None place true true = refl
left_more None place true false = refl
left_more None place false true = refl
left_more None place false false = refl
left_more (Some n) place true t = by_place (n == place) refl where
  by_place : (b : Bool) → (n == place) ≡ b → without place t (cond b None (Some n)) ≡ cond b None (Some n)
  by_place true e = by_t t where
    by_t : (t : Bool) → without place t None ≡ None
    by_t true = refl
    by_t false = refl
  by_place false e = by_t t where
    by_t : (t : Bool) → without place t (Some n) ≡ Some n
    by_t true = ap (λ b. cond b None (Some n)) e
    by_t false = refl
left_more (Some n) place false t = refl

-- entered and taken out again
pub undone : (had : Option ℕ) (place : ℕ) (m all : Bool) → (m ≡ true → all ≡ true) → (had ≢ Some place) → without place all (option_or had (cond m (Some place) None)) ≡ had
undone None place true all some new =
    ap (λ b. without place b (Some place)) (some refl) ∙ ap (λ b. cond b None (Some place)) (eq-eqb place place refl)
undone None place false true some new = refl
undone None place false false some new = refl
undone (Some n) place m all some new =
    let other : (n == place) ≡ false = false_from_ne_true (n == place) (λ t. new (ap (λ (k : ℕ). let o : Option ℕ = Some k in o) (eqb-true n place t))) in
    ap (λ b. cond (all && b) None (Some n)) other ∙ ap (λ b. cond b None (Some n)) (and-false all)

pub left_none : (a : Bool) (place : ℕ) (had : Option ℕ) → had ≡ without place (a && false) had
left_none true place had = refl
left_none false place had = refl

pub entered_none : (a : Bool) (place : ℕ) (had : Option ℕ) → had ≡ option_or had (cond (a && false) (Some place) None)
entered_none true place had = none_among had place
entered_none false place had = none_among had place
