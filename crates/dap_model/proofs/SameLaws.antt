-- States that are the same print the same, and move to such states.
use Rattle.std.proofs.Common.{◌≡◌, ◌⊎◌, ◌↔◌, ℕ, ◌+◌, ◌-◌, List, [], ◌∷◌, ◌++◌, length, take, nat_le, not, Bool, cond, true, false, ◌&&◌, is_none, is_some, Option, Some, None, refl, sym, ap, subst, ◌∙◌, inl, inr, arith, append_assoc}
use Rattle.std.specs.Prelude.{IsPermutation}
use Rattle.std.specs.List.{All, Contains, find, flat_map, list_any, sum_by}
use Rattle.std.specs.Option.{option_map_or, option_to_list}
use Rattle.std.proofs.lemmas.List.Elements.{All-head, All-tail}
use Rattle.std.proofs.lemmas.List.Sorted.{IsPermutation-append_comm, IsPermutation-append_left, IsPermutation-append_right, IsPermutation-refl, IsPermutation-trans, length_permutation}
use Rattle.std.proofs.lemmas.List.Sums.{sum_by-cons}
use Rattle.dap_bytes.specs.Spans.{buckets_of, passes_start, shares_bucket}
use Rattle.dap_bytes.specs.declared.span.Span.{Span}
use Rattle.field_laws.proofs.WholeSumLaws.{sum_of-permutation}
use Rattle.vdaf_api.specs.Functions.{Functions}
use Rattle.vdaf_api.specs.Totals.{total_numbers}
use Rattle.vdaf_api.specs.declared.answer.Collected.{Collected as Counts}
use Rattle.vdaf_api.specs.declared.kind.Kind.{Kind}
use Rattle.dap_batch.specs.Group.{batch_start}
use Rattle.dap_messages.specs.Messages.{report}
use Rattle.dap_messages.specs.Reports.{known_in}
use Rattle.dap_messages.specs.declared.report.Report.{Report}
use Rattle.dap_seal.specs.Reports.{honest_report}
use Rattle.dap_tasks.specs.Judged.{judged}
use Rattle.dap_tasks.specs.Task.{PlainTask, has_name}
use Rattle.dap_tasks.specs.declared.cause.Cause.{Cause}
use Rattle.dap_tasks.specs.declared.cause.Cause.TheVariants as cause
use Rattle.dap_tasks.specs.declared.cause.Judged.{Judged}
use Rattle.dap_tasks.specs.declared.cause.Judged.TheVariants.{Again, Barred, Added}
use Rattle.dap_script.proofs.WordLaws.{All-left}
use Rattle.dap_script.specs.Spelling.{IsInRange}
use Rattle.dap_script.specs.declared.line.Line.{Line}
use Rattle.dap_script.specs.declared.line.Line.TheVariants as line
use Rattle.dap_model.proofs.ApartLaws.{apart-kept, one-first}
use Rattle.dap_model.proofs.ChangeLaws.{found_name}
use Rattle.dap_model.proofs.CollectLaws.{earliest-is, none-overlap, none-sharing, tests}
use Rattle.dap_model.proofs.Fronts.{Begins, told-lines}
use Rattle.dap_model.proofs.OfferLaws.{bytes_known, known_bytes, unknown_bytes}
use Rattle.dap_model.proofs.OnceLaws.{distinct_kept}
use Rattle.dap_model.proofs.SameLists.{any-same, in_any_order, same-push}
use Rattle.dap_model.specs.Apart.{IsApart}
use Rattle.dap_model.specs.Changes.{AreDistinct}
use Rattle.dap_model.specs.Collections.{IsFirstOverlap, Overlaps}
use Rattle.dap_model.specs.Limits.{full_from, full_line_of, passed_after, passed_in, text_before, whole_segments}
use Rattle.dap_model.specs.Offers.{IsKnown}
use Rattle.dap_model.specs.Printed.{text_of}
use Rattle.dap_model.specs.Run.{model_text, opening_of, printed_from, state_after}
use Rattle.dap_model.specs.SameStates.{HaveSame, IsValid, SameOutcome, SameState}
use Rattle.dap_model.specs.State.{Batch, State, batch_contents, batch_rejected, content_of, contents_in, earliest, has_bucket, in_bucket, is_batch, is_closed, is_collected, names_of, rejected_in, sharing, task_named}
use Rattle.dap_model.specs.Step.{Outcome, after_judgement, collect_of, collection_of, judgement, measure_of, name_in, offered, raised, refused, report_in, reports_with_content, step, upload_named, upload_of, upload_to}
use Rattle.dap_model.specs.declared.limits.Limits.{Limits}
use Rattle.dap_model.specs.declared.printed.Printed.{Printed}
use Rattle.dap_model.specs.declared.printed.Printed.TheVariants.{Collected, Overlap, Small}

-- ---- the contents of a batch

-- both parts in another order
both_parts : {X : Type 0} (xs ys us vs : List X) → IsPermutation xs ys → IsPermutation us vs → IsPermutation (xs ++ us) (ys ++ vs)
both_parts {X} xs ys us vs p q = IsPermutation-trans (xs ++ us) (ys ++ us) (ys ++ vs) (IsPermutation-append_left us xs ys p) (IsPermutation-append_right ys us vs q)

module _ (f : Kind → Functions) (t : PlainTask) where
  -- a bucket has the same contents, in another order, and as many rejected reports
  record InOrder (start : ℕ) (xs ys : List Report) : Type 0 where
    contents : IsPermutation (contents_in f t start xs) (contents_in f t start ys)
    rejected : rejected_in f t start ys ≡ rejected_in f t start xs

  abbrev own : ℕ → Report → List (List ℕ)
  own start r = cond (in_bucket t start r) (option_to_list (content_of f t r)) []

  abbrev bad : ℕ → Report → ℕ
  bad start r = cond (in_bucket t start r && is_none (content_of f t r)) 1 0

  in-order : (start : ℕ) (xs ys : List Report) → AreDistinct xs → AreDistinct ys → HaveSame xs ys → InOrder start xs ys
  in-order start =
      in_any_order (InOrder start)
      (λ xs. record { contents = IsPermutation-refl (contents_in f t start xs); rejected = refl })
      (λ x xs ys h. record {
        contents = IsPermutation-append_right (own start x) (contents_in f t start xs) (contents_in f t start ys) h.contents;
        rejected = ap (λ (n : ℕ). bad start x + n) h.rejected;
      })
      (λ x y xs. record {
        contents = turn (own start x) (own start y) (contents_in f t start xs);
        rejected = swap_added (bad start x) (bad start y) (rejected_in f t start xs);
      })
      (λ xs ys zs h k. record {
        contents = IsPermutation-trans (contents_in f t start xs) (contents_in f t start ys) (contents_in f t start zs) h.contents k.contents;
        rejected = k.rejected ∙ h.rejected;
      })
    where
      turn : (a b c : List (List ℕ)) → IsPermutation (a ++ (b ++ c)) (b ++ (a ++ c))
      turn a b c =
          subst (IsPermutation (a ++ (b ++ c))) (append_assoc b a c)
          (subst (λ l. IsPermutation l ((b ++ a) ++ c)) (append_assoc a b c) (IsPermutation-append_left c (a ++ b) (b ++ a) (IsPermutation-append_comm a b)))

      swap_added : (a b c : ℕ) → b + (a + c) ≡ a + (b + c)
      swap_added a b c = omega arith

  module _ (xs ys : List Report) (each : (start : ℕ) → InOrder start xs ys) where
    all-contents : (starts : List ℕ) → IsPermutation (flat_map (λ start. contents_in f t start xs) starts) (flat_map (λ start. contents_in f t start ys) starts)
    all-contents [] = IsPermutation-refl []
    all-contents (start ∷ more) =
        both_parts (contents_in f t start xs) (contents_in f t start ys) (flat_map (λ start. contents_in f t start xs) more) (flat_map (λ start. contents_in f t start ys) more)
        (each start).contents (all-contents more)

    all-rejected : (starts : List ℕ) → sum_by (λ start. rejected_in f t start ys) starts ≡ sum_by (λ start. rejected_in f t start xs) starts
    all-rejected [] = refl
    all-rejected (start ∷ more) =
        omega (
          arith,
          (each start).rejected,
          all-rejected more,
          sum_by-cons (λ start. rejected_in f t start xs) start more,
          sum_by-cons (λ start. rejected_in f t start ys) start more,
        )

-- ---- what lines read of a state

module _ (f : Kind → Functions) (a b : State) (va : IsValid a) (vb : IsValid b) (h : SameState a b) where
  known-same : (name id : List ℕ) → known_in b.accepted name id ≡ known_in a.accepted name id
  known-same name id = go (known_in a.accepted name id) refl
    where
      into : (bytes : List ℕ) → IsKnown a name id bytes → IsKnown b name id bytes
      into bytes k = record { known = k.known; accepted = (h.accepted k.known).0 k.accepted; of_task = k.of_task; of_id = k.of_id; spelled = k.spelled }

      from : (bytes : List ℕ) → IsKnown b name id bytes → IsKnown a name id bytes
      from bytes k = record { known = k.known; accepted = (h.accepted k.known).1 k.accepted; of_task = k.of_task; of_id = k.of_id; spelled = k.spelled }

      go : (o : Option (List ℕ)) → known_in a.accepted name id ≡ o → known_in b.accepted name id ≡ o
      go (Some bytes) e = known_bytes b vb.distinct name id bytes (into bytes (bytes_known a va.distinct name id bytes e))
      go None e = unknown_bytes b vb.distinct name id (λ bytes k. none bytes (sym e ∙ known_bytes a va.distinct name id bytes (from bytes k)))
        where
          none : (bytes : List ℕ) → (let o : Option (List ℕ) = None in o) ≡ Some bytes → ⊥
          none bytes e = absurd cc

  contents-same : (t : PlainTask) (span : Span) → IsPermutation (batch_contents f t span a.accepted) (batch_contents f t span b.accepted)
  contents-same t span =
      all-contents f t a.accepted b.accepted (λ start. in-order f t start a.accepted b.accepted va.distinct vb.distinct h.accepted) (buckets_of span t.precision)

  number-same : (t : PlainTask) (span : Span) → reports_with_content f b t span ≡ reports_with_content f a t span
  number-same t span = length_permutation (batch_contents f t span a.accepted) (batch_contents f t span b.accepted) (contents-same t span)

  rejected-same : (t : PlainTask) (span : Span) → batch_rejected f t span b.accepted ≡ batch_rejected f t span a.accepted
  rejected-same t span =
      all-rejected f t a.accepted b.accepted (λ start. in-order f t start a.accepted b.accepted va.distinct vb.distinct h.accepted) (buckets_of span t.precision)

  total-same : (t : PlainTask) (span : Span)
      → total_numbers (f t.kind).space (batch_contents f t span b.accepted) ≡ total_numbers (f t.kind).space (batch_contents f t span a.accepted)
  total-same t span =
      sum_of-permutation (f t.kind).space.modulus (f t.kind).space.size (batch_contents f t span a.accepted) (batch_contents f t span b.accepted) (contents-same t span)

  collection-same : (t : PlainTask) (span : Span) → collection_of f b t span ≡ collection_of f a t span
  collection-same t span =
      λ i. Collected t.name span (record { reports = number-same t span i; rejected = rejected-same t span i; answer = (f t.kind).answer (total-same t span i) })

  was-same : (name : List ℕ) (span : Span) → is_collected b.collected name span ≡ is_collected a.collected name span
  was-same name span = any-same (is_batch name span) a.collected b.collected h.collected

  closed-same : (name : List ℕ) (precision bucket : ℕ) → is_closed b.collected name precision bucket ≡ is_closed a.collected name precision bucket
  closed-same name precision bucket = any-same (has_bucket name precision bucket) a.collected b.collected h.collected

  module _ (t : PlainTask) (span : Span) (known : task_named a.tasks t.name ≡ Some t) where
    overlaps-a : (o : Span) → Overlaps b t.name t.precision span o → Overlaps a t.name t.precision span o
    overlaps-a o over = record { collected = (h.collected (record { task = t.name; span = o })).1 over.collected; shared = over.shared }

    overlaps-b : (o : Span) → Overlaps a t.name t.precision span o → Overlaps b t.name t.precision span o
    overlaps-b o over = record { collected = (h.collected (record { task = t.name; span = o })).0 over.collected; shared = over.shared }

    first-a : (o : Span) → IsFirstOverlap b t.name t.precision span o → IsFirstOverlap a t.name t.precision span o
    first-a o is = record { overlaps = overlaps-a o is.overlaps; first = λ other over. is.first other (overlaps-b other over) }

    no-overlap : (s : State) → earliest (sharing t span s.collected) ≡ None → (o : Span) → Overlaps s t.name t.precision span o → ⊥
    no-overlap s none o over = no (sym over.shared ∙ none-sharing t span s.collected none (record { task = t.name; span = o }) over.collected refl)
      where
        no : true ≡ false → ⊥
        no e = absurd cc

    earliest-same : earliest (sharing t span b.collected) ≡ earliest (sharing t span a.collected)
    earliest-same = go (earliest (sharing t span a.collected)) refl (earliest (sharing t span b.collected)) refl
      where
        go : (x : Option Span) → earliest (sharing t span a.collected) ≡ x → (y : Option Span) → earliest (sharing t span b.collected) ≡ y → y ≡ x
        go None e None d = refl
        go None e (Some o) d = absurd (no-overlap a e o (overlaps-a o (earliest-is b t span o d).overlaps))
        go (Some o) e None d = absurd (no-overlap b d o (overlaps-b o (earliest-is a t span o e).overlaps))
        go (Some o) e (Some p) d = ap Some (one-first a t va.apart known span p o (first-a p (earliest-is b t span p d)) (earliest-is a t span o e))

  -- ---- one line

  refused-same : (k : ℕ) (why : Cause) → SameOutcome (refused a k why) (refused b k why)
  refused-same k why = (refl, h)

  judged-same : (k : ℕ) (r : Report) (j : Judged) → SameOutcome (after_judgement a k r j) (after_judgement b k r j)
  judged-same k r Again = (refl, h)
  judged-same k r (Barred why) = (refl, h)
  judged-same k r Added = (
    refl,
    record { tasks = h.tasks; moment = h.moment; accepted = same-push a.accepted b.accepted r h.accepted; collected = h.collected },
  )

  judgement-same : (t : PlainTask) (r : Report) → judgement b t r ≡ judgement a t r
  judgement-same t r =
      λ i. judged (known-same r.name r.id i) (h.moment i) t.expires (closed-same r.name t.precision (batch_start r.time t.precision) i) (report.spell r) r.time

  offered-same : (k : ℕ) (t : PlainTask) (r : Report) → SameOutcome (offered a k t r) (offered b k t r)
  offered-same k t r =
      subst (λ j. SameOutcome (offered a k t r) (after_judgement b k r j)) (sym (judgement-same t r)) (judged-same k r (judgement a t r))

  offer-same : (k : ℕ) (t : PlainTask) (why : Cause) (o : Option Report) → SameOutcome (option_map_or (offered a k t) o (refused a k why)) (option_map_or (offered b k t) o (refused b k why))
  offer-same k t why None = (refl, h)
  offer-same k t why (Some r) = offered-same k t r

  measure-same : (k : ℕ) (id : List ℕ) (time : ℕ) (value seed : List ℕ) (o : Option PlainTask)
      → SameOutcome (option_map_or (measure_of f a k id time value seed) o (refused a k cause.Task)) (option_map_or (measure_of f b k id time value seed) o (refused b k cause.Task))
  measure-same k id time value seed None = (refl, h)
  measure-same k id time value seed (Some t) = offer-same k t cause.Value (honest_report (f t.kind) t id time value seed)

  named-same : (k : ℕ) (bytes : List ℕ) (o : Option PlainTask)
      → SameOutcome (option_map_or (upload_to a k bytes) o (refused a k cause.Task)) (option_map_or (upload_to b k bytes) o (refused b k cause.Task))
  named-same k bytes None = (refl, h)
  named-same k bytes (Some t) = offer-same k t cause.Form (report_in bytes)

  upload-same : (k : ℕ) (bytes : List ℕ) (o : Option (List ℕ))
      → SameOutcome (option_map_or (upload_named a k bytes) o (refused a k cause.Form)) (option_map_or (upload_named b k bytes) o (refused b k cause.Form))
  upload-same k bytes None = (refl, h)
  upload-same k bytes (Some name) =
      subst (λ (ts : List PlainTask). SameOutcome (upload_named a k bytes name) (option_map_or (upload_to b k bytes) (find (has_name name) ts) (refused b k cause.Task))) (sym h.tasks)
      (named-same k bytes (find (has_name name) a.tasks))

  tests-same : (k : ℕ) (t : PlainTask) (span : Span) (passes was : Bool) (other : Option Span) (enough : Bool)
      → SameOutcome (tests f a k span t passes was other enough) (tests f b k span t passes was other enough)
  tests-same k t span false was other enough = (refl, h)
  tests-same k t span true true other enough = (ap (λ (p : Printed). p ∷ []) (collection-same t span), h)
  tests-same k t span true false (Some o) enough = (refl, h)
  tests-same k t span true false None true = (
    ap (λ (p : Printed). p ∷ []) (collection-same t span),
    record { tasks = h.tasks; moment = h.moment; accepted = h.accepted; collected = same-push a.collected b.collected (record { task = t.name; span = span }) h.collected },
  )
  tests-same k t span true false None false = (ap (λ (n : ℕ). Small t.name span n ∷ []) (number-same t span), h)

  collect-same : (k : ℕ) (span : Span) (o : Option PlainTask) → ((t : PlainTask) → o ≡ Some t → task_named a.tasks t.name ≡ Some t)
      → SameOutcome (option_map_or (collect_of f a k span) o (refused a k cause.Task)) (option_map_or (collect_of f b k span) o (refused b k cause.Task))
  collect-same k span None named = (refl, h)
  collect-same k span (Some t) named =
      let passes : Bool = passes_start span t.precision in
      let was : Bool = is_collected a.collected t.name span in
      let other : Option Span = earliest (sharing t span a.collected) in
      let enough : Bool = nat_le t.min (reports_with_content f a t span) in
      let here : collect_of f b k span t ≡ tests f b k span t passes was other enough =
      λ i. tests f b k span t passes (was-same t.name span i) (earliest-same t span (named t refl) i) (nat_le t.min (number-same t span i)) in
      subst (SameOutcome (collect_of f a k span t)) (sym here) (tests-same k t span passes was other enough)

  pub step-same : (k : ℕ) (l : Line) → SameOutcome (step f a k l) (step f b k l)
  step-same k line.Blank = (refl, h)
  step-same k (line.Task name kind min precision expires) = (refl, h)
  step-same k (line.Now t) = (
    refl,
    record { tasks = h.tasks; moment = ap (λ (m : Option ℕ). raised m t) h.moment; accepted = h.accepted; collected = h.collected },
  )
  step-same k (line.Measure name id time value seed) =
      subst (λ (ts : List PlainTask). SameOutcome (step f a k (line.Measure name id time value seed)) (option_map_or (measure_of f b k id time value seed) (find (has_name name) ts) (refused b k cause.Task)))
      (sym h.tasks) (measure-same k id time value seed (find (has_name name) a.tasks))
  step-same k (line.Upload bytes) = upload-same k bytes (name_in bytes)
  step-same k (line.Collect name span) =
      subst (λ (ts : List PlainTask). SameOutcome (step f a k (line.Collect name span)) (option_map_or (collect_of f b k span) (find (has_name name) ts) (refused b k cause.Task)))
      (sym h.tasks)
      (collect-same k span (find (has_name name) a.tasks) (λ t is. ap (λ (n : List ℕ). find (has_name n) a.tasks) (found_name name a.tasks t is) ∙ is))
  step-same k (line.Restart node) = (refl, h)

-- ---- lines

pub valid-kept : (f : Kind → Functions) (s : State) (k : ℕ) (l : Line) → IsInRange l → IsValid s → IsValid (step f s k l).0
valid-kept f s k l range v = record { distinct = distinct_kept f s k l v.distinct; apart = apart-kept f s k l range v.apart }

-- what lines print, and the state behind them
abbrev pub run : (Kind → Functions) → State → ℕ → List Line → Outcome
run f s k lines = (state_after f s k lines, printed_from f s k lines)

pub run-same : (f : Kind → Functions) (a b : State) (k : ℕ) (lines : List Line) → All IsInRange lines → IsValid a → IsValid b → SameState a b
    → SameOutcome (run f a k lines) (run f b k lines)
run-same f a b k [] range va vb h = (refl, h)
run-same f a b k (l ∷ more) range va vb h =
    let here : IsInRange l = All-head IsInRange l more range in
    let one : SameOutcome (step f a k l) (step f b k l) = step-same f a b va vb h k l in
    let rest = run-same f (step f a k l).0 (step f b k l).0 (k + 1) more (All-tail IsInRange l more range)
    (valid-kept f a k l here va) (valid-kept f b k l here vb) one.1 in
    (ap (λ p. p ++ printed_from f (step f b k l).0 (k + 1) more) one.0 ∙ ap (λ p. (step f a k l).1 ++ p) rest.0, rest.1)

-- ---- a script

pub opened-same : (a b : State) (lines : List Line) → SameState a b → SameState (opening_of a lines) (opening_of b lines)
opened-same a b lines h = record {
  tasks = ap (λ (ts : List PlainTask). (opening_of (record a { tasks = ts }) lines).tasks) h.tasks;
  moment = h.moment;
  accepted = h.accepted;
  collected = h.collected;
}

pub text-same : (f : Kind → Functions) (a b : State) (lines : List Line) → All IsInRange lines → IsValid (opening_of a lines) → IsValid (opening_of b lines) → SameState a b
    → model_text f b lines ≡ model_text f a lines
text-same f a b lines range va vb h =
    ap text_of (run-same f (opening_of a lines) (opening_of b lines) 1 lines range va vb (opened-same a b lines h)).0

pub passed-same : (f : Kind → Functions) (limits : Limits) (a b : State) (lines : List Line) → SameState a b → passed_in f limits b lines ≡ passed_in f limits a lines
passed-same f limits a b lines h = ap (λ (ts : List PlainTask). passed_after f limits ts [] lines) (opened-same a b lines h).tasks

pub before-same : (f : Kind → Functions) (a b : State) (lines : List Line) (number : ℕ) → All IsInRange lines → IsValid (opening_of a lines) → IsValid (opening_of b lines)
    → SameState a b → text_before f b lines number ≡ text_before f a lines number
before-same f a b lines number range va vb h =
    let front : Begins (whole_segments (take (number - 1) lines)) lines = told-lines lines number in
    ap text_of (run-same f (opening_of a lines) (opening_of b lines) 1 (whole_segments (take (number - 1) lines))
    (All-left IsInRange (whole_segments (take (number - 1) lines)) front.0 (subst (All IsInRange) front.1 range)) va vb (opened-same a b lines h)).0

pub full-same : (most : ℕ) (a b : State) (lines : List Line) → SameState a b → full_line_of most b lines ≡ full_line_of most a lines
full-same most a b lines h = ap (λ (ts : List PlainTask). full_from most (names_of ts) 0 lines) h.tasks
