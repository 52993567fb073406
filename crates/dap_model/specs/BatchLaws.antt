-- The reports of a batch, one bucket after the other.
use Rattle.std.proofs.Common.{◌≡◌, ℕ, zero, suc, ◌+◌, ◌<◌, ◌≤◌, List, [], ◌∷◌, ◌++◌, map, nat_eq, Bool, cond, true, false, ◌&&◌, ◌||◌, refl, sym, ap, subst, ◌∙◌, arith, Option, Some, None, is_none, length, length-append}
use Rattle.std.specs.Prelude.{filter, IsPermutation}
use Rattle.std.proofs.lemmas.Bool.{eqb-true, ne_eqb, or_from, or_parts}
use Rattle.std.proofs.lemmas.List.Elements.{All-weaker, All-cons, All-head, All-nil, All-tail}
use Rattle.std.proofs.lemmas.List.Sorted.{IsPermutation-append_right, IsPermutation-cons, IsPermutation-middle, IsPermutation-refl, IsPermutation-sym, IsPermutation-trans, length_permutation}
use Rattle.std.specs.List.{flat_map, list_any, range_with_len, All, sum_by}
use Rattle.std.specs.Str.{bytes_eq}
use Rattle.dap_bytes.specs.SpanLaws.{bucket_at-same, held_at}
use Rattle.dap_bytes.specs.Spans.{bucket_at, buckets_of, holds_bucket}
use Rattle.dap_bytes.specs.declared.span.Span.{Span}
use Rattle.dap_batch.specs.Group.{batch_start}
use Rattle.dap_messages.specs.declared.report.Report.{Report}
use Rattle.dap_tasks.specs.Task.{PlainTask}
use Rattle.dap_model.specs.Collections.{HoldsReportsOnce, in_batch}
use Rattle.dap_model.specs.State.{State, in_bucket, batch_contents, batch_rejected, content_of, contents_in, rejected_in}
use Rattle.vdaf_api.specs.Functions.{Functions}
use Rattle.vdaf_api.specs.declared.kind.Kind.{Kind}
use Rattle.std.specs.Option.{option_to_list}
use Rattle.std.proofs.lemmas.List.Sums.{count_by-le-length, length-filter, sum_by-cons}

-- ---- lists

-- where no element passes, each fails
pub none_pass : {X : Type 0} (p : X → Bool) (xs : List X) → list_any p xs ≡ false → All (λ x. p x ≡ false) xs
none_pass {X} p [] e = All-nil (λ x. p x ≡ false)
none_pass {X} p (y ∷ ys) e =
    let parts = or_parts (p y) (list_any p ys) e in
    All-cons (λ x. p x ≡ false) y ys parts.0 (none_pass p ys parts.1)

-- what is joined of equal parts is equal
pub flat_map-agree : {X Y : Type 0} (f g : X → List Y) (xs : List X) → All (λ x. f x ≡ g x) xs → flat_map f xs ≡ flat_map g xs
flat_map-agree {X} f g [] h = refl
flat_map-agree {X} f g (x ∷ xs) h =
    ap (λ l. l ++ flat_map f xs) (All-head (λ x. f x ≡ g x) x xs h) ∙ ap (λ l. g x ++ l) (flat_map-agree f g xs (All-tail (λ x. f x ≡ g x) x xs h))

-- ---- the buckets of a batch

-- a batch holds its start
pub holds-start : (span : Span) (precision : ℕ) → 1 ≤ span.buckets → holds_bucket span precision span.start ≡ true
holds-start span precision some =
    let first : bucket_at span precision 0 ≡ span.start = omega arith in
    subst (λ n. holds_bucket span precision n ≡ true) first (held_at span precision 0 some)

-- no number stands twice
abbrev Differ : List ℕ → Type 0
Differ [] = Unit {0}
Differ (n ∷ more) = (list_any (nat_eq n) more ≡ false) × Differ more

module _ (span : Span) (precision : ℕ) (some : 0 < precision) where
  none-later : (i k n : ℕ) → i < k → list_any (nat_eq (bucket_at span precision i)) (map (bucket_at span precision) (range_with_len k n)) ≡ false
  none-later i k zero below = refl
  none-later i k (suc n) below =
      or_from _ _ (ne_eqb (bucket_at span precision i) (bucket_at span precision k) (λ same. omega (arith, below, bucket_at-same span precision i k some same)))
      (none-later i (k + 1) n (omega (arith, below)))

  buckets-differ : (k n : ℕ) → Differ (map (bucket_at span precision) (range_with_len k n))
  buckets-differ k zero = tt
  buckets-differ k (suc n) = (none-later k (k + 1) n (omega arith), buckets-differ (k + 1) n)

-- ---- one more report

-- a report that is put in front of what one bucket has
module _ (r : Report) (bucket : ℕ) (others : ℕ → List Report) where
  abbrev joined : ℕ → List Report
  joined start = cond (nat_eq bucket start) (r ∷ others start) (others start)

  untouched : (starts : List ℕ) → list_any (nat_eq bucket) starts ≡ false → flat_map joined starts ≡ flat_map others starts
  untouched starts none =
      flat_map-agree joined others starts
      (All-weaker (λ start. nat_eq bucket start ≡ false) (λ start. joined start ≡ others start) (λ start e. ap (λ b. cond b (r ∷ others start) (others start)) e) starts
      (none_pass (nat_eq bucket) starts none))

  one-more : (starts : List ℕ) → Differ starts → list_any (nat_eq bucket) starts ≡ true → IsPermutation (r ∷ flat_map others starts) (flat_map joined starts)
  one-more [] d e = absurd cc
  one-more (start ∷ more) d e = go (nat_eq bucket start) refl e (λ held. one-more more d.1 held)
    where
      rest : List Report
      rest = flat_map others more

      go : (b : Bool) → nat_eq bucket start ≡ b → (b || list_any (nat_eq bucket) more) ≡ true
          → (list_any (nat_eq bucket) more ≡ true → IsPermutation (r ∷ rest) (flat_map joined more))
          → IsPermutation (r ∷ (others start ++ rest)) (cond b (r ∷ others start) (others start) ++ flat_map joined more)
      go true is h later =
          let none : list_any (nat_eq bucket) more ≡ false = ap (λ (n : ℕ). list_any (nat_eq n) more) (eqb-true bucket start is) ∙ d.0 in
          subst (λ l. IsPermutation (r ∷ (others start ++ rest)) (r ∷ others start ++ l)) (sym (untouched more none)) (IsPermutation-refl (r ∷ (others start ++ rest)))
      go false is h later =
          IsPermutation-trans (r ∷ (others start ++ rest)) (others start ++ r ∷ rest) (others start ++ flat_map joined more)
          (IsPermutation-sym (others start ++ r ∷ rest) (r ∷ (others start ++ rest)) (IsPermutation-middle (others start) r rest))
          (IsPermutation-append_right (others start) (r ∷ rest) (flat_map joined more) (later h))

-- ---- the law

module _ (t : PlainTask) (span : Span) (some : 0 < t.precision) where
  abbrev starts : List ℕ
  starts = buckets_of span t.precision

  nothing : (more : List ℕ) → flat_map {X = ℕ} {A = Report} (λ start. []) more ≡ []
  nothing [] = refl
  nothing (start ∷ more) = nothing more

  held-once : (rs : List Report) → IsPermutation (filter (in_batch t span) rs) (flat_map (λ start. filter (in_bucket t start) rs) starts)
  held-once [] = subst (IsPermutation []) (sym (nothing starts)) (IsPermutation-refl [])
  held-once (r ∷ more) = go (bytes_eq r.name t.name) (holds_bucket span t.precision bucket) refl (held-once more)
    where
      bucket : ℕ
      bucket = batch_start r.time t.precision

      kept : List Report
      kept = filter (in_batch t span) more

      others : ℕ → List Report
      others start = filter (in_bucket t start) more

      go : (own held : Bool) → holds_bucket span t.precision bucket ≡ held → IsPermutation kept (flat_map others starts)
          → IsPermutation (cond (own && held) (r ∷ kept) kept) (flat_map (λ start. cond (own && nat_eq bucket start) (r ∷ others start) (others start)) starts)
      go false held e rest = rest
      go true false e rest = subst (IsPermutation kept) (sym (untouched r bucket others starts e)) rest
      go true true e rest =
          IsPermutation-trans (r ∷ kept) (r ∷ flat_map others starts) (flat_map (joined r bucket others) starts)
          (IsPermutation-cons r kept (flat_map others starts) rest) (one-more r bucket others starts (buckets-differ span t.precision some 0 span.buckets) e)

module _ (f : Kind → Functions) (t : PlainTask) where
  -- each report of a bucket has a content or is rejected
  each_once-bucket : (start : ℕ) → (reports : List Report) → length (contents_in f t start reports) + rejected_in f t start reports ≡ length (filter (in_bucket t start) reports)
  each_once-bucket start [] = refl
  each_once-bucket start (r ∷ more) = go (in_bucket t start r) (content_of f t r) (each_once-bucket start more)
    where
      go : (b : Bool) (o : Option (List ℕ)) → length (contents_in f t start more) + rejected_in f t start more ≡ length (filter (in_bucket t start) more)
          → length (cond b (option_to_list o) [] ++ contents_in f t start more) + (cond (b && is_none o) 1 0 + rejected_in f t start more)
          ≡ length (cond b (r ∷ filter (in_bucket t start) more) (filter (in_bucket t start) more))
      go false o h = omega (arith, h)
      go true None h = omega (arith, h)
      go true (Some x) h = omega (arith, h)

  each_once-buckets : (reports : List Report) (starts : List ℕ)
      → length (flat_map (λ start. contents_in f t start reports) starts) + sum_by (λ start. rejected_in f t start reports) starts
      ≡ length (flat_map (λ start. filter (in_bucket t start) reports) starts)
  each_once-buckets reports [] = refl
  each_once-buckets reports (start ∷ more) =
      omega (
        arith,
        each_once-bucket start reports,
        each_once-buckets reports more,
        sum_by-cons (λ start. rejected_in f t start reports) start more,
        length-append (filter (in_bucket t start) reports) (flat_map (λ start. filter (in_bucket t start) reports) more),
        length-append (contents_in f t start reports) (flat_map (λ start. contents_in f t start reports) more),
      )

  -- likewise of a batch
  pub each_once-batch : (span : Span) (reports : List Report)
      → length (batch_contents f t span reports) + batch_rejected f t span reports ≡ length (flat_map (λ start. filter (in_bucket t start) reports) (buckets_of span t.precision))
  each_once-batch span reports = each_once-buckets reports (buckets_of span t.precision)

  -- a batch has no more reports than there are
  pub batch-few : (span : Span) (reports : List Report) → 0 < t.precision → length (batch_contents f t span reports) + batch_rejected f t span reports ≤ length reports
  batch-few span reports some =
      omega (
        arith,
        each_once-batch span reports,
        length-filter (in_batch t span) reports,
        count_by-le-length (in_batch t span) reports,
        length_permutation (filter (in_batch t span) reports) (flat_map (λ start. filter (in_bucket t start) reports) (buckets_of span t.precision)) (held-once t span some reports),
      )

pub holds-once : (s : State) (t : PlainTask) (span : Span) → 0 < t.precision → HoldsReportsOnce s t span
holds-once s t span some = held-once t span some s.accepted
