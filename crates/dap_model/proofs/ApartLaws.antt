-- The collected batches of a task share no bucket.
use Rattle.std.proofs.Common.{◌≡◌, ◌⊎◌, ℕ, ◌+◌, ◌≤◌, List, [], ◌∷◌, ◌++◌, nat_eq, nat_le, Bool, true, false, Option, Some, None, refl, sym, ap, subst, ◌∙◌, inl, inr, arith}
use Rattle.std.proofs.lemmas.Bool.{both_ways, eq-eqb}
use Rattle.std.proofs.lemmas.List.Elements.{All-contains, All-contains_itself, All-head, All-nil, All-push, All-tail, All-weaker}
use Rattle.std.specs.List.{All, Contains, find}
use Rattle.std.specs.Option.{option_map_or}
use Rattle.dap_bytes.specs.SpanLaws.{shares_bucket-comm, shares_bucket-from}
use Rattle.dap_bytes.specs.Spans.{buckets_of, holds_bucket, passes_start, shares_bucket}
use Rattle.dap_bytes.specs.declared.span.Span.{Span}
use Rattle.vdaf_api.specs.Functions.{Functions}
use Rattle.vdaf_api.specs.declared.kind.Kind.{Kind}
use Rattle.dap_tasks.specs.Task.{PlainTask, has_name}
use Rattle.dap_tasks.specs.declared.cause.Cause.TheVariants as cause
use Rattle.dap_script.specs.Spelling.{IsInRange}
use Rattle.dap_script.specs.declared.line.Line.{Line}
use Rattle.dap_script.specs.declared.line.Line.TheVariants as line
use Rattle.dap_model.proofs.ChangeLaws.{changes_named, found_name}
use Rattle.dap_model.proofs.CollectLaws.{none-sharing, tests}
use Rattle.dap_model.specs.BatchLaws.{holds-start}
use Rattle.dap_model.proofs.ListLemmas.{any_from, contains_cases}
use Rattle.dap_model.specs.Apart.{AreApart, HoldsCollected, IsApart, ShareNoBucket}
use Rattle.dap_model.specs.Changes.{ChangesNamed}
use Rattle.dap_model.specs.Collections.{IsFirstOverlap, WasCollected}
use Rattle.dap_model.specs.Run.{state_after}
use Rattle.dap_model.specs.State.{Batch, State, earliest, is_collected, sharing, task_named}
use Rattle.dap_model.specs.Step.{collect_of, refused, reports_with_content, step}

-- ---- batches that share no bucket

module _ (tasks : List PlainTask) where
  ShareNoBucket-push : (xs : List Batch) (b : Batch) → ShareNoBucket tasks xs → 1 ≤ b.span.buckets → All (λ x. AreApart tasks x b) xs → ShareNoBucket tasks (xs ++ b ∷ [])
  ShareNoBucket-push [] b h some apart = (some, All-nil (AreApart tasks b), tt)
  ShareNoBucket-push (x ∷ xs) b h some apart =
      (h.0, All-push (AreApart tasks x) xs b h.1 (All-head (λ x. AreApart tasks x b) x xs apart), ShareNoBucket-push xs b h.2 some (All-tail (λ x. AreApart tasks x b) x xs apart))

  -- each has a bucket
  has-bucket : (xs : List Batch) → ShareNoBucket tasks xs → (b : Batch) → Contains xs b → 1 ≤ b.span.buckets
  has-bucket [] h b c = absurd (omega (arith, c.1))
  has-bucket (x ∷ more) h b c = elim (contains_cases x more b c) [
    | inl same ↦ subst (λ (b : Batch). 1 ≤ b.span.buckets) same h.0
    | inr in_more ↦ has-bucket more h.2 b in_more
  ]

  module _ (t : PlainTask) (known : task_named tasks t.name ≡ Some t) where
    abbrev as_batch : Span → Batch
    as_batch span = record { task = t.name; span = span }

    -- two that share a bucket are one
    pub only-one : (xs : List Batch) → ShareNoBucket tasks xs → (a b : Span) → Contains xs (as_batch a) → Contains xs (as_batch b) → shares_bucket a b t.precision ≡ true → a ≡ b
    only-one [] h a b in_a in_b shared = absurd (omega (arith, in_a.1))
    only-one (x ∷ more) h a b in_a in_b shared =
        go (contains_cases x more (as_batch a) in_a) (contains_cases x more (as_batch b) in_b) (λ later_a later_b. only-one more h.2 a b later_a later_b shared)
      where
        -- the first batch and a later one
        apart : (first later : Span) → x ≡ as_batch first → Contains more (as_batch later) → shares_bucket first later t.precision ≡ false
        apart first later same in_more = subst (λ (x : Batch). AreApart tasks x (as_batch later)) same (All-contains (AreApart tasks x) more (as_batch later) h.1 in_more) t known refl

        go : (x ≡ as_batch a) ⊎ Contains more (as_batch a) → (x ≡ as_batch b) ⊎ Contains more (as_batch b)
            → (Contains more (as_batch a) → Contains more (as_batch b) → a ≡ b) → a ≡ b
        go (inl same_a) (inl same_b) both = ap (λ (b : Batch). b.span) (sym same_a ∙ same_b)
        go (inl same_a) (inr later_b) both = absurd (both_ways (shares_bucket a b t.precision) (apart a b same_a later_b) shared)
        go (inr later_a) (inl same_b) both = absurd (both_ways (shares_bucket a b t.precision) (shares_bucket-comm a b t.precision ∙ apart b a same_b later_a) shared)
        go (inr later_a) (inr later_b) both = both later_a later_b

-- ---- a collection

module _ (f : Kind → Functions) (s : State) (k : ℕ) (span : Span) (some : 1 ≤ span.buckets) (h : IsApart s) where
  collect-apart : (t : PlainTask) → task_named s.tasks t.name ≡ Some t → IsApart (collect_of f s k span t).0
  collect-apart t known =
      go (passes_start span t.precision) (is_collected s.collected t.name span) (earliest (sharing t span s.collected)) refl (nat_le t.min (reports_with_content f s t span))
    where
      go : (passes was : Bool) (other : Option Span) → earliest (sharing t span s.collected) ≡ other → (enough : Bool) → IsApart (tests f s k span t passes was other enough).0
      go false was other e enough = h
      go true true other e enough = h
      go true false (Some o) e enough = h
      go true false None e false = h
      go true false None e true =
          ShareNoBucket-push s.tasks s.collected (record { task = t.name; span = span }) h some
          (All-weaker (Contains s.collected) (λ x. AreApart s.tasks x (record { task = t.name; span = span }))
          (λ x c other is own.
          let both : Some other ≡ Some t = sym is ∙ ap (λ (n : List ℕ). find (has_name n) s.tasks) (sym own) ∙ known in
          let same : other ≡ t = cc in
          ap (λ (p : PlainTask). shares_bucket x.span span p.precision) same ∙ none-sharing t span s.collected e x c (sym own))
          s.collected (All-contains_itself s.collected))

  collect-kept : (name : List ℕ) → IsApart (step f s k (line.Collect name span)).0
  collect-kept name = go (find (has_name name) s.tasks) refl
    where
      go : (o : Option PlainTask) → find (has_name name) s.tasks ≡ o → IsApart (option_map_or (collect_of f s k span) o (refused s k cause.Task)).0
      go None e = h
      go (Some t) e = collect-apart t (ap (λ (n : List ℕ). find (has_name n) s.tasks) (found_name name s.tasks t e) ∙ e)

-- ---- lines

-- the tasks and the collected batches alone matter
left-apart : (s after : State) → IsApart s → after.tasks ≡ s.tasks → after.collected ≡ s.collected → IsApart after
left-apart s after h tasks collected =
    subst (λ (ts : List PlainTask). ShareNoBucket ts after.collected) (sym tasks) (subst (ShareNoBucket s.tasks) (sym collected) h)

pub apart-kept : (f : Kind → Functions) (s : State) (k : ℕ) (l : Line) → IsInRange l → IsApart s → IsApart (step f s k l).0
apart-kept f s k line.Blank range h = h
apart-kept f s k (line.Task name kind min precision expires) range h = h
apart-kept f s k (line.Now t) range h = left-apart s (step f s k (line.Now t)).0 h refl refl
apart-kept f s k (line.Measure name id time value seed) range h = go (changes_named f s k (line.Measure name id time value seed))
  where
    after : State
    after = (step f s k (line.Measure name id time value seed)).0

    go : ChangesNamed s (step f s k (line.Measure name id time value seed)).0 (line.Measure name id time value seed) → IsApart (step f s k (line.Measure name id time value seed)).0
    go (inl e) = subst IsApart (sym e) h
    go (inr adds) = left-apart s after h (ap (λ (x : State). x.tasks) adds.grown) (ap (λ (x : State). x.collected) adds.grown)
apart-kept f s k (line.Upload bytes) range h = go (changes_named f s k (line.Upload bytes))
  where
    after : State
    after = (step f s k (line.Upload bytes)).0

    go : ChangesNamed s (step f s k (line.Upload bytes)).0 (line.Upload bytes) → IsApart (step f s k (line.Upload bytes)).0
    go (inl e) = subst IsApart (sym e) h
    go (inr adds) = left-apart s after h (ap (λ (x : State). x.tasks) adds.grown) (ap (λ (x : State). x.collected) adds.grown)
apart-kept f s k (line.Collect name span) range h = collect-kept f s k span range.2.0 h name
apart-kept f s k (line.Restart node) range h = h

pub run-apart : (f : Kind → Functions) (s : State) (k : ℕ) (lines : List Line) → All IsInRange lines → IsApart s → IsApart (state_after f s k lines)
run-apart f s k [] range h = h
run-apart f s k (l ∷ more) range h =
    run-apart f (step f s k l).0 (k + 1) more (All-tail IsInRange l more range) (apart-kept f s k l (All-head IsInRange l more range) h)

-- ---- what follows

module _ (s : State) (t : PlainTask) (h : IsApart s) (known : task_named s.tasks t.name ≡ Some t) where
  held : (span : Span) (bucket : ℕ) → Contains (buckets_of span t.precision) bucket → holds_bucket span t.precision bucket ≡ true
  held span bucket c = any_from (nat_eq bucket) (buckets_of span t.precision) bucket c (eq-eqb bucket bucket refl)

  pub one-holds : (a b : Span) (bucket : ℕ) → HoldsCollected s t a bucket → HoldsCollected s t b bucket → a ≡ b
  one-holds a b bucket in_a in_b =
      only-one s.tasks t known s.collected h a b in_a.collected in_b.collected
      (shares_bucket-from a b t.precision (bucket, held a bucket in_a.holds, held b bucket in_b.holds))

  start-held : (a : Span) → WasCollected s t.name a → holds_bucket a t.precision a.start ≡ true
  start-held a c = holds-start a t.precision (has-bucket s.tasks s.collected h (record { task = t.name; span = a }) c)

  -- two collected batches that start together are one
  together : (a b : Span) → WasCollected s t.name a → WasCollected s t.name b → a.start ≡ b.start → a ≡ b
  together a b in_a in_b same =
      only-one s.tasks t known s.collected h a b in_a in_b
      (shares_bucket-from a b t.precision (a.start, start-held a in_a, subst (λ n. holds_bucket b t.precision n ≡ true) (sym same) (start-held b in_b)))

  pub one-first : (span one other : Span) → IsFirstOverlap s t.name t.precision span one → IsFirstOverlap s t.name t.precision span other → one ≡ other
  one-first span one other a b =
      together one other a.overlaps.collected b.overlaps.collected (omega (arith, a.first other b.overlaps, b.first one a.overlaps))
