-- Lemmas: what the first Open tells, where each names as many lanes.
use Rattle.std.proofs.Common.{◌≡◌, ℕ, ◌+◌, ◌≤◌, nat_lt, nat_le, Bool, true, ◌&&◌, ◌||◌, cond, List, [], ◌∷◌, Option, Some, None, is_some, count_by, refl, sym, ap, ◌∙◌, inl, inr, arith}
use Rattle.std.proofs.lemmas.Bool.{lt-ltb, le-leb}
use Rattle.std.specs.Option.{option_or}
use Rattle.std.specs.Cmp.{both_ways}
use Rattle.std.specs.List.{list_any, list_all}
use Rattle.lane_records.specs.declared.record.Record.{Record}
use Rattle.legal_journals.specs.History.{Mem, first, lanes_in}
use Rattle.legal_journals.specs.HistoryTests.{is_open, is_none_but, puts_into, is_of_lane}
use Rattle.legal_journals.proofs.Members.{any_tells, any_told, all_tells, all_told}
use Rattle.legal_journals.specs.Places.{HaveOneNumber}
use Rattle.legal_journals.proofs.Counts.{count-cons}

-- the first value is of one that stands in the list
pub first_member : {A B : Type 0} (f : A → Option B) (xs : List A) (b : B) → first f xs ≡ Some b → (x : A) × Mem x xs × (f x ≡ Some b)
first_member f [] b e = absurd cc
first_member {A} {B} f (x ∷ xs) b e = by_here (first_member f xs b) (f x) refl e where
  by_here : (first f xs ≡ Some b → (z : A) × Mem z xs × (f z ≡ Some b)) → (o : Option B) → f x ≡ o → option_or o (first f xs) ≡ Some b → (z : A) × Mem z (x ∷ xs) × (f z ≡ Some b)
  by_here rest None is e = let found = rest e in (found.0, inr found.1, found.2)
  by_here rest (Some c) is e = (x, inl refl, is ∙ e)

or-open : (o : Option ℕ) (n : ℕ) → nat_lt 0 (cond (is_some o) 1 0 + n) ≡ (is_some o || nat_lt 0 n)
or-open None n = ap (nat_lt 0) (let z : 0 + n ≡ n = omega arith in z)
or-open (Some l) n = lt-ltb 0 (1 + n) (omega arith)

pub any_open : (records : List Record) → list_any is_open records ≡ nat_lt 0 (count_by is_open records)
any_open [] = refl
any_open (x ∷ records) =
    ap (λ b. is_open x || b) (any_open records) ∙ sym (or-open (lanes_in x) (count_by is_open records)) ∙ ap (nat_lt 0) (sym (count-cons is_open x records))

pub none_but : (lanes : ℕ) (records : List Record) → HaveOneNumber records → list_all (λ x. is_none_but lanes (lanes_in x)) records ≡ is_none_but lanes (first lanes_in records)
none_but lanes records one =
    both_ways (list_all (λ x. is_none_but lanes (lanes_in x)) records) (is_none_but lanes (first lanes_in records))
    (λ e. by_first e (first lanes_in records) refl)
    (λ e. all_told (λ x. is_none_but lanes (lanes_in x)) records (λ x m. by_lanes e x m (lanes_in x) refl))
  where
    by_first : list_all (λ x. is_none_but lanes (lanes_in x)) records ≡ true → (o : Option ℕ) → first lanes_in records ≡ o → is_none_but lanes o ≡ true
    by_first e None is = refl
    by_first e (Some n) is =
        let found = first_member lanes_in records n is in
        ap (is_none_but lanes) (sym found.2) ∙ all_tells (λ x. is_none_but lanes (lanes_in x)) records e found.0 found.1

    by_lanes : is_none_but lanes (first lanes_in records) ≡ true → (x : Record) → Mem x records → (o : Option ℕ) → lanes_in x ≡ o → is_none_but lanes o ≡ true
    by_lanes e x m None is = refl
    by_lanes e x m (Some n) is = ap (is_none_but lanes) (sym (one x n m is)) ∙ e

pub of_lane : (lane : ℕ) (id : List ℕ) (records : List Record) → HaveOneNumber records → is_of_lane lane id records ≡ puts_into lane id (first lanes_in records)
of_lane lane id records one =
    both_ways (is_of_lane lane id records) (puts_into lane id (first lanes_in records))
    (λ e. let found = any_tells (λ (x : Record). puts_into lane id (lanes_in x)) records e in by_lanes found.0 found.1 (lanes_in found.0) refl found.2)
    (λ e. by_first (first lanes_in records) refl e)
  where
    by_lanes : (x : Record) → Mem x records → (o : Option ℕ) → lanes_in x ≡ o → puts_into lane id o ≡ true → puts_into lane id (first lanes_in records) ≡ true
    by_lanes x m None is e = absurd cc
    by_lanes x m (Some n) is e = ap (puts_into lane id) (one x n m is) ∙ e

    by_first : (o : Option ℕ) → first lanes_in records ≡ o → puts_into lane id o ≡ true → is_of_lane lane id records ≡ true
    by_first None is e = absurd cc
    by_first (Some n) is e =
        let found = first_member lanes_in records n is in
        any_told (λ (x : Record). puts_into lane id (lanes_in x)) records found.0 found.1 (ap (puts_into lane id) found.2 ∙ e)

pub within : (lanes : ℕ) (rest : Bool) → 1 ≤ lanes → lanes ≤ 16 → (nat_le 1 lanes && nat_le lanes 16 && rest) ≡ rest
within lanes rest one few = ap (λ b. b && nat_le lanes 16 && rest) (le-leb 1 lanes one) ∙ ap (λ b. b && rest) (le-leb lanes 16 few)

pub first_none : {A B : Type 0} (f : A → Option B) (xs : List A) → first f xs ≡ None → (x : A) → Mem x xs → f x ≡ None
first_none f [] e x m = elim m [ ]
first_none {A} {B} f (y ∷ xs) e x m = by_here (first_none f xs) (f y) refl e m where
  by_here : (first f xs ≡ None → (x : A) → Mem x xs → f x ≡ None) → (o : Option B) → f y ≡ o → option_or o (first f xs) ≡ None → Mem x (y ∷ xs) → f x ≡ None
  by_here rest None is e (inl i) = ap f i ∙ is
  by_here rest None is e (inr m) = rest e x m
  by_here rest (Some b) is e m = absurd cc
