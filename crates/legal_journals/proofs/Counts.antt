-- Lemmas: the counts of records, with one more and without it.
use Rattle.std.proofs.Common.{◌≡◌, ℕ, zero, suc, ◌+◌, ◌-◌, ◌≤◌, ◌==◌, Bool, true, false, ◌&&◌, cond, List, [], ◌∷◌, ◌++◌, length, Option, Some, None, is_some, refl, sym, ap, ◌∙◌, count_by, arith}
use Rattle.std.proofs.lemmas.Bool.{eqb-true}
use Rattle.std.proofs.lemmas.List.{length-append}
use Rattle.std.proofs.lemmas.List.Sums.{sum_by-cons}
use Rattle.std.specs.Option.{option_or}
use Rattle.lane_records.specs.declared.format.Format.{Format}
use Rattle.lane_records.specs.declared.format.Format.TheVariants.{One, Two}
use Rattle.dap_messages.specs.declared.report.Report.{Report}
use Rattle.lane_records.specs.declared.record.Record.{Record}
use Rattle.lane_records.specs.declared.record.Record.TheVariants.{Accept}
use Rattle.legal_journals.specs.declared.opens.Opens.{Opens}
use Rattle.legal_journals.specs.History.{first, lanes_in, format_in}
use Rattle.legal_journals.specs.HistoryTests.{is_open, is_up_to, has_format}
use Rattle.legal_journals.specs.Places.{is_two, opens_two, AreOpens}

or_none : {B : Type 0} (o : Option B) → option_or o None ≡ o
or_none None = refl
or_none (Some n) = refl

or_assoc : {B : Type 0} (a b c : Option B) → option_or a (option_or b c) ≡ option_or (option_or a b) c
or_assoc None b c = refl
or_assoc (Some n) b c = refl

pub first-push : {A B : Type 0} (f : A → Option B) (xs : List A) (x : A) → first f (xs ++ x ∷ []) ≡ option_or (first f xs) (f x)
first-push f [] x = or_none (f x)
first-push f (y ∷ xs) x = ap (option_or (f y)) (first-push f xs x) ∙ or_assoc (f y) (first f xs) (f x)

pub count-cons : (test : Record → Bool) (x : Record) (records : List Record) → count_by test (x ∷ records) ≡ cond (test x) 1 0 + count_by test records
count-cons test x records = sum_by-cons (λ (x : Record). cond (test x) 1 0) x records

pub count-push : (test : Record → Bool) (records : List Record) (x : Record) → count_by test (records ++ x ∷ []) ≡ count_by test records + cond (test x) 1 0
count-push test [] x = let c = count-cons test x [] in omega arith
count-push test (y ∷ records) x = let a = count-cons test y (records ++ x ∷ []) in let b = count-cons test y records in let c = count-push test records x in omega arith

-- where there is no Open, none names lanes
no_lanes : (records : List Record) → count_by is_open records ≡ 0 → first lanes_in records ≡ None
no_lanes [] e = refl
no_lanes (y ∷ records) e = by_lanes (no_lanes records) (lanes_in y) (sym (count-cons is_open y records) ∙ e) where
  by_lanes : (count_by is_open records ≡ 0 → first lanes_in records ≡ None) → (o : Option ℕ) → cond (is_some o) 1 0 + count_by is_open records ≡ 0 → option_or o (first lanes_in records) ≡ None
  by_lanes rest None z = rest (omega arith)
  by_lanes rest (Some n) z = absurd (omega arith)

none_open : (records : List Record) → first lanes_in records ≡ None → count_by is_open records ≡ 0
none_open [] e = refl
none_open (y ∷ records) e = count-cons is_open y records ∙ by_lanes (none_open records) (lanes_in y) e where
  by_lanes : (first lanes_in records ≡ None → count_by is_open records ≡ 0) → (o : Option ℕ) → option_or o (first lanes_in records) ≡ None → cond (is_some o) 1 0 + count_by is_open records ≡ 0
  by_lanes rest None e = let z = rest e in omega arith
  by_lanes rest (Some n) e = absurd cc

some_lanes : (records : List Record) (x : Record) → 1 ≤ count_by is_open records → first lanes_in (records ++ x ∷ []) ≡ first lanes_in records
some_lanes records x le = first-push lanes_in records x ∙ by_first (first lanes_in records) refl where
  by_first : (o : Option ℕ) → first lanes_in records ≡ o → option_or o (lanes_in x) ≡ o
  by_first None e = let z = none_open records e in absurd (omega arith)
  by_first (Some n) e = refl

-- ---- one record more, and without it

pub one_more : (o p : Opens) (records : List Record) (x : Record) → p.count ≡ o.count + 1 → p.opens ≡ o.opens + cond (is_open x) 1 0 → p.twos ≡ o.twos + cond (opens_two x) 1 0
    → p.lanes ≡ option_or o.lanes (lanes_in x) → AreOpens o records → AreOpens p (records ++ x ∷ [])
one_more o p records x count opens twos lanes h = record {
  count = count ∙ ap (λ m. m + 1) h.count ∙ sym (length-append records (x ∷ []));
  opens = opens ∙ ap (λ m. m + cond (is_open x) 1 0) h.opens ∙ sym (count-push is_open records x);
  twos = twos ∙ ap (λ m. m + cond (opens_two x) 1 0) h.twos ∙ sym (count-push opens_two records x);
  lanes = lanes ∙ ap (λ l. option_or l (lanes_in x)) h.lanes ∙ sym (first-push lanes_in records x);
}

-- what was added is taken off again
less : (n m k : ℕ) → n ≡ m + k → n - k ≡ m
less n m k e = omega arith

pub one_less : (o p : Opens) (records : List Record) (x : Record) → p.count ≡ o.count - 1 → p.opens ≡ o.opens - cond (is_open x) 1 0 → p.twos ≡ o.twos - cond (opens_two x) 1 0
    → (p.opens ≡ 0 → p.lanes ≡ None) → (1 ≤ p.opens → p.lanes ≡ o.lanes) → AreOpens o (records ++ x ∷ []) → AreOpens p records
one_less o p records x count opens twos none some h =
    let left : p.opens ≡ count_by is_open records = opens ∙ less o.opens (count_by is_open records) (cond (is_open x) 1 0) (h.opens ∙ count-push is_open records x) in record {
      count = count ∙ less o.count (length records) 1 (h.count ∙ length-append records (x ∷ []));
      opens = left;
      twos = twos ∙ less o.twos (count_by opens_two records) (cond (opens_two x) 1 0) (h.twos ∙ count-push opens_two records x);
      lanes = by_count p.opens refl left;
    }
  where
    by_count : (n : ℕ) → p.opens ≡ n → n ≡ count_by is_open records → p.lanes ≡ first lanes_in records
    by_count zero e left = none e ∙ sym (no_lanes records (sym left))
    by_count (suc n) e left =
        let one : 1 ≤ count_by is_open records = omega arith in
        some (omega arith) ∙ h.lanes ∙ some_lanes records x one

-- without an Accept
pub accept_less : (o : Opens) (records : List Record) (r : Report) (n : ℕ) → n ≡ o.count - 1 → AreOpens o (records ++ Accept r ∷ [])
    → AreOpens (record { count = n; opens = o.opens; twos = o.twos; lanes = o.lanes }) records
accept_less o records r n count h = record {
  count = count ∙ less o.count (length records) 1 (h.count ∙ length-append records (Accept r ∷ []));
  opens = (let c = count-push is_open records (Accept r) in let e = h.opens in omega (arith, c, e));
  twos = (let c = count-push opens_two records (Accept r) in let e = h.twos in omega (arith, c, e));
  lanes = h.lanes ∙ first-push lanes_in records (Accept r) ∙ or_none (first lanes_in records);
}

-- ---- formats

up_to_two : (o : Option Format) → is_up_to Two o ≡ true
up_to_two None = refl
up_to_two (Some One) = refl
up_to_two (Some Two) = refl

pub any_format : (records : List Record) → has_format Two records ≡ true
any_format [] = refl
any_format (x ∷ records) = ap (λ b. b && has_format Two records) (up_to_two (format_in x)) ∙ any_format records

none_zero : (b : Bool) (n : ℕ) → (1 + n == 0) ≡ b → false ≡ b
none_zero false n e = refl
none_zero true n e = absurd (let z = eqb-true (1 + n) 0 e in omega arith)

one_format : (o : Option Format) (n : ℕ) (b : Bool) → b ≡ (n == 0) → (is_up_to One o && b) ≡ (cond (is_two o) 1 0 + n == 0)
one_format None n b e = e ∙ ap (λ m. m == 0) (let z : n ≡ 0 + n = omega arith in z)
one_format (Some One) n b e = e ∙ ap (λ m. m == 0) (let z : n ≡ 0 + n = omega arith in z)
one_format (Some Two) n b e = none_zero (1 + n == 0) n refl

-- format 1 where no Open is of format 2
pub no_twos : (records : List Record) → has_format One records ≡ (count_by opens_two records == 0)
no_twos [] = refl
no_twos (x ∷ records) = one_format (format_in x) (count_by opens_two records) (has_format One records) (no_twos records) ∙ ap (λ m. m == 0) (sym (count-cons opens_two x records))
