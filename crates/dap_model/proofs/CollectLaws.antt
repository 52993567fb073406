-- What a collection comes to.
use Rattle.std.proofs.Common.{◌≡◌, ◌⊎◌, ℕ, ◌≤◌, List, [], ◌∷◌, ◌++◌, length, nat_le, not, Bool, cond, true, false, filter, Option, Some, None, refl, sym, ap, subst, ◌∙◌, inl, inr, arith, map}
use Rattle.std.proofs.lemmas.Bool.{false_from_ne_true, le-leb, leb-true, and_from, and_parts, both_ways, leb-false, lt-leb}
use Rattle.std.specs.List.{cons_option, find, All, Contains, flat_map}
use Rattle.std.specs.Option.{option_map_or, option_to_list}
use Rattle.vdaf_api.specs.Functions.{Functions}
use Rattle.vdaf_api.specs.Totals.{total_numbers}
use Rattle.vdaf_api.specs.declared.kind.Kind.{Kind}
use Rattle.dap_messages.specs.declared.report.Report.{Report}
use Rattle.dap_tasks.specs.Task.{PlainTask, has_name}
use Rattle.dap_tasks.specs.declared.cause.Cause.TheVariants as cause
use Rattle.dap_script.specs.declared.line.Line.TheVariants as line
use Rattle.dap_model.proofs.ChangeLaws.{found_name}
use Rattle.dap_model.specs.BatchLaws.{each_once-batch}
use Rattle.dap_model.specs.Collections.{CollectsByTheFirstCause, batch_reports, vectors_of, CollectsOf, IsFirstOverlap, IsFree, Overlaps, PrintsCounts, contents_counted, CollectsTo}
use Rattle.dap_model.specs.State.{State, content_of, contents_in, in_bucket, is_collected, Batch, batch_contents, batch_rejected, earlier, earliest, shares_with, sharing, with_collected}
use Rattle.dap_model.specs.Step.{Outcome, collect_of, collection_of, refused, step, reports_with_content}
use Rattle.dap_model.specs.declared.printed.Printed.TheVariants.{Small, Overlap}
use Rattle.std.proofs.lemmas.List.Elements.{All-cons, All-contains, All-nil, All-weaker, Contains-append_right, filter_map-append}
use Rattle.dap_bytes.specs.Spans.{buckets_of, passes_start, shares_bucket}
use Rattle.std.specs.Str.{bytes_eq}
use Rattle.std.proofs.lemmas.Slice.Eq.{bytes_eq-Decides}
use Rattle.dap_model.proofs.OfferLaws.{collected_not, collected_is}
use Rattle.dap_model.proofs.ListLemmas.{contains_cases, contains_first}
use Rattle.dap_seal.specs.Reports.{content_numbers_of}
use Rattle.dap_bytes.specs.declared.span.Span.{Span}

module _ (f : Kind → Functions) (t : PlainTask) (start : ℕ) where
  -- the contents of a bucket are the vectors of its reports
  contents-are : (reports : List Report) → contents_in f t start reports ≡ vectors_of f t (filter (in_bucket t start) reports)
  contents-are [] = refl
  contents-are (r ∷ more) = go (in_bucket t start r) (content_of f t r) refl (contents-are more)
    where
      go : (b : Bool) (o : Option (List ℕ)) → content_of f t r ≡ o → contents_in f t start more ≡ vectors_of f t (filter (in_bucket t start) more)
          → cond b (option_to_list o) [] ++ contents_in f t start more ≡ vectors_of f t (cond b (r ∷ filter (in_bucket t start) more) (filter (in_bucket t start) more))
      go false o e h = h
      go true None e h = h ∙ sym (ap (λ c. cons_option c (vectors_of f t (filter (in_bucket t start) more))) e)
      go true (Some x) e h = ap (λ c. x ∷ c) h ∙ sym (ap (λ c. cons_option c (vectors_of f t (filter (in_bucket t start) more))) e)

-- likewise one bucket after the other
module _ (f : Kind → Functions) (t : PlainTask) (reports : List Report) where
  abbrev own : ℕ → List Report
  own start = filter (in_bucket t start) reports

  all-contents-are : (starts : List ℕ) → flat_map (λ start. contents_in f t start reports) starts ≡ vectors_of f t (flat_map own starts)
  all-contents-are [] = refl
  all-contents-are (start ∷ more) =
      ap (λ l. l ++ flat_map (λ start. contents_in f t start reports) more) (contents-are f t start reports)
      ∙ ap (λ l. vectors_of f t (own start) ++ l) (all-contents-are more)
      ∙ sym (filter_map-append (content_numbers_of (f t.kind) t) (own start) (flat_map own more))

-- ---- the collected batches that share a bucket with one

module _ (t : PlainTask) (span : Span) where
  abbrev as_batch : Span → Batch
  as_batch o = record { task = t.name; span = o }

  pub sharing-in : (collected : List Batch) (o : Span) → Contains (sharing t span collected) o → Contains collected (as_batch o) × (shares_bucket o span t.precision ≡ true)
  sharing-in [] o c = absurd (omega (arith, c.1))
  sharing-in (b ∷ more) o c =
      go (λ in_more. let rest = sharing-in more o in_more in (Contains-append_right (b ∷ []) more (as_batch o) rest.0, rest.1)) (shares_with t span b) refl c
    where
      go : (Contains (sharing t span more) o → Contains (b ∷ more) (as_batch o) × (shares_bucket o span t.precision ≡ true))
          → (x : Bool) → shares_with t span b ≡ x → Contains (map (λ (b : Batch). b.span) (cond x (b ∷ filter (shares_with t span) more) (filter (shares_with t span) more))) o
          → Contains (b ∷ more) (as_batch o) × (shares_bucket o span t.precision ≡ true)
      go later false e h = later h
      go later true e h = elim (contains_cases b.span (sharing t span more) o h) [
        | inl same ↦
            let parts = and_parts (bytes_eq b.task t.name) (shares_bucket b.span span t.precision) e in
            let task : b.task ≡ t.name = (bytes_eq-Decides b.task t.name).0 parts.0 in
            let is : b ≡ as_batch o = λ i. record { task = task i; span = same i } in
            (subst (Contains (b ∷ more)) is (contains_first b more), ap (λ (x : Span). shares_bucket x span t.precision) (sym same) ∙ parts.1)
        | inr in_more ↦ later in_more
      ]

  pub sharing-from : (collected : List Batch) (o : Span) → Contains collected (as_batch o) → shares_bucket o span t.precision ≡ true → Contains (sharing t span collected) o
  sharing-from [] o c shared = absurd (omega (arith, c.1))
  sharing-from (b ∷ more) o c shared =
      go (λ in_more. sharing-from more o in_more shared) (shares_with t span b) refl (contains_cases b more (as_batch o) c)
    where
      own : b ≡ as_batch o → shares_with t span b ≡ true
      own same = ap (shares_with t span) same ∙ and_from _ _ ((bytes_eq-Decides t.name t.name).1 refl) shared

      go : (Contains more (as_batch o) → Contains (sharing t span more) o) → (x : Bool) → shares_with t span b ≡ x → (b ≡ as_batch o) ⊎ Contains more (as_batch o)
          → Contains (map (λ (b : Batch). b.span) (cond x (b ∷ filter (shares_with t span) more) (filter (shares_with t span) more))) o
      go later false e (inl same) = absurd (both_ways (shares_with t span b) e (own same))
      go later false e (inr in_more) = later in_more
      go later true e (inl same) = subst (Contains (b.span ∷ sharing t span more)) (ap (λ (x : Batch). x.span) same) (contains_first b.span (sharing t span more))
      go later true e (inr in_more) = Contains-append_right (b.span ∷ []) (sharing t span more) o (later in_more)

-- ---- the one that starts first

record Earliest (spans : List Span) (o : Span) : Type 0 where
  among : Contains spans o
  first : All (λ x. o.start ≤ x.start) spans

earliest-none : (spans : List Span) → earliest spans ≡ None → spans ≡ []
earliest-none [] e = refl
earliest-none (a ∷ more) e = absurd cc

earliest-some : (a : Span) (more : List Span) → Earliest (a ∷ more) (option_map_or (earlier a) (earliest more) a)
earliest-some a [] = record { among = contains_first a []; first = All-cons (λ x. a.start ≤ x.start) a [] (omega arith) (All-nil (λ x. a.start ≤ x.start)) }
earliest-some a (b ∷ more) = go (option_map_or (earlier b) (earliest more) b) (earliest-some b more) (nat_le a.start (option_map_or (earlier b) (earliest more) b).start) refl
  where
    go : (o : Span) → Earliest (b ∷ more) o → (x : Bool) → nat_le a.start o.start ≡ x → Earliest (a ∷ b ∷ more) (cond x a o)
    go o h true e = record {
      among = contains_first a (b ∷ more);
      first = All-cons (λ x. a.start ≤ x.start) a (b ∷ more) (omega arith)
          (All-weaker (λ x. o.start ≤ x.start) (λ x. a.start ≤ x.start) (λ x le. omega (arith, le, leb-true a.start o.start e)) (b ∷ more) h.first);
    }
    go o h false e = record {
      among = Contains-append_right (a ∷ []) (b ∷ more) o h.among;
      first = All-cons (λ x. o.start ≤ x.start) a (b ∷ more) (omega (arith, leb-false a.start o.start e)) h.first;
    }

-- where none starts first, none shares a bucket
pub none-sharing : (t : PlainTask) (span : Span) (collected : List Batch) → earliest (sharing t span collected) ≡ None
    → (x : Batch) → Contains collected x → x.task ≡ t.name → shares_bucket x.span span t.precision ≡ false
none-sharing t span collected e x c own =
    let is : x ≡ record { task = t.name; span = x.span } = λ i. record { task = own i; span = x.span } in
    let empty : sharing t span collected ≡ [] = earliest-none (sharing t span collected) e in
    false_from_ne_true (shares_bucket x.span span t.precision) (λ shared.
    let there : Contains [] x.span = subst (λ l. Contains l x.span) empty (sharing-from t span collected x.span (subst (Contains collected) is c) shared) in
    omega (arith, there.1))

module _ (s : State) (t : PlainTask) (span : Span) where
  pub none-overlap : ((other : Span) → Overlaps s t.name t.precision span other → ⊥) → earliest (sharing t span s.collected) ≡ None
  none-overlap none = go (sharing t span s.collected) refl
    where
      go : (spans : List Span) → sharing t span s.collected ≡ spans → earliest spans ≡ None
      go [] e = refl
      go (o ∷ more) e =
          let in_them = sharing-in t span s.collected o (subst (λ l. Contains l o) (sym e) (contains_first o more)) in
          absurd (none o (record { collected = in_them.0; shared = in_them.1 }))

  pub first-overlap : (other : Span) → Overlaps s t.name t.precision span other
      → (first : Span) × IsFirstOverlap s t.name t.precision span first × (earliest (sharing t span s.collected) ≡ Some first)
  first-overlap other over = go (sharing t span s.collected) refl (sharing-from t span s.collected other over.collected over.shared)
    where
      go : (spans : List Span) → sharing t span s.collected ≡ spans → Contains spans other
          → (first : Span) × IsFirstOverlap s t.name t.precision span first × (earliest spans ≡ Some first)
      go [] e c = absurd (omega (arith, c.1))
      go (a ∷ more) e c =
          let o : Span = option_map_or (earlier a) (earliest more) a in
          let is : Earliest (a ∷ more) o = earliest-some a more in
          let in_them = sharing-in t span s.collected o (subst (λ l. Contains l o) (sym e) is.among) in (
            o,
            record {
              overlaps = record { collected = in_them.0; shared = in_them.1 };
              first = λ another also.
                  All-contains (λ x. o.start ≤ x.start) (a ∷ more) another is.first
                  (subst (λ l. Contains l another) e (sharing-from t span s.collected another also.collected also.shared));
            },
            refl,
          )

  -- the one that is earliest is the first that overlaps
  pub earliest-is : (o : Span) → earliest (sharing t span s.collected) ≡ Some o → IsFirstOverlap s t.name t.precision span o
  earliest-is o e = go (sharing t span s.collected) refl e
    where
      go : (spans : List Span) → sharing t span s.collected ≡ spans → earliest spans ≡ Some o → IsFirstOverlap s t.name t.precision span o
      go [] is h = absurd cc
      go (a ∷ more) is h =
          let first : Span = option_map_or (earlier a) (earliest more) a in
          let some : Earliest (a ∷ more) first = earliest-some a more in
          let same : first ≡ o = cc in
          let in_them = sharing-in t span s.collected first (subst (λ l. Contains l first) (sym is) some.among) in
          subst (IsFirstOverlap s t.name t.precision span) same
          (record {
            overlaps = record { collected = in_them.0; shared = in_them.1 };
            first = λ another also.
                All-contains (λ x. first.start ≤ x.start) (a ∷ more) another some.first
                (subst (λ l. Contains l another) is (sharing-from t span s.collected another also.collected also.shared));
          })

-- ---- the law

module _ (f : Kind → Functions) (s : State) (k : ℕ) (span : Span) where
  -- a collection of a task's batch, by its tests
  abbrev pub tests : PlainTask → Bool → Bool → Option Span → Bool → Outcome
  tests t passes was other enough =
      cond (not passes) (refused s k cause.Start) (cond was (s, collection_of f s t span ∷ [])
      (option_map_or (λ o. (s, Overlap k o ∷ [])) other (cond enough (with_collected s t.name span, collection_of f s t span ∷ [])
      (s, Small t.name span (reports_with_content f s t span) ∷ []))))

  module _ (t : PlainTask) where
    vectors : batch_contents f t span s.accepted ≡ vectors_of f t (batch_reports s t span)
    vectors = all-contents-are f t s.accepted (buckets_of span t.precision)

    number : reports_with_content f s t span ≡ contents_counted f s t span
    number = ap (λ (c : List (List ℕ)). length c) vectors

    abbrev passed : Bool
    passed = passes_start span t.precision

    abbrev was : Bool
    was = is_collected s.collected t.name span

    abbrev other : Option Span
    other = earliest (sharing t span s.collected)

    abbrev enough : Bool
    enough = nat_le t.min (reports_with_content f s t span)

    prints : PrintsCounts f s t t.name span (collection_of f s t span ∷ [])
    prints = record {
      what = record {
        reports = reports_with_content f s t span;
        rejected = batch_rejected f t span s.accepted;
        answer = (f t.kind).answer (total_numbers (f t.kind).space (batch_contents f t span s.accepted));
      };
      counted = record {
        with_content = number;
        each_once = each_once-batch f t span s.accepted;
        answer = ap (λ c. (f t.kind).answer (total_numbers (f t.kind).space c)) vectors;
      };
      is = refl;
    }

    free : IsFree s t.name t.precision span → (was ≡ false) × (other ≡ None)
    free h = (collected_not s.collected t.name span h.open_, none-overlap s t span h.apart)

    collects : CollectsOf f s k t t.name span (collect_of f s k span t)
    collects = record {
      start = λ off. λ i. tests t (off i) was other enough;
      again = λ on closed.
          subst (CollectsTo f s s t t.name span) (sym (λ i. tests t (on i) (collected_is s.collected t.name span closed i) other enough))
          (record { printed = prints; state = refl });
      overlap = λ on open_ o over.
          let first = first-overlap s t span o over in
          (first.0, first.1, λ i. tests t (on i) (collected_not s.collected t.name span open_ i) (first.2 i) enough);
      full = λ on is_free many.
          let is = free is_free in
          subst (CollectsTo f s (with_collected s t.name span) t t.name span)
          (sym (λ i. tests t (on i) (is.0 i) (is.1 i) (le-leb t.min (reports_with_content f s t span) (omega (arith, many, number)) i)))
          (record { printed = prints; state = refl });
      few = λ on is_free less.
          let is = free is_free in
          (λ i. tests t (on i) (is.0 i) (is.1 i) (lt-leb t.min (reports_with_content f s t span) (omega (arith, less, number)) i))
          ∙ ap (λ (n : ℕ). (s, Small t.name span n ∷ [])) number;
    }

  module _ (name : List ℕ) where
    abbrev found : Option PlainTask → Outcome
    found o = option_map_or (collect_of f s k span) o (refused s k cause.Task)

    pub collect-first_cause : CollectsByTheFirstCause f s k name span (step f s k (line.Collect name span))
    collect-first_cause = record {
      unknown = λ none. ap found none;
      known = λ t known.
          subst (λ (n : List ℕ). CollectsOf f s k t n span (found (find (has_name name) s.tasks))) (found_name name s.tasks t known)
          (subst (CollectsOf f s k t t.name span) (sym (ap found known)) (collects t));
    }
