-- Each line prints as the line of its number.
use Rattle.std.proofs.Common.{◌≡◌, ℕ, ◌+◌, List, [], ◌∷◌, ◌++◌, length, not, Bool, cond, true, false, Option, Some, None, sym, ap, ◌∙◌, inl, inr, arith, append_assoc}
use Rattle.std.specs.List.{find, Contains}
use Rattle.std.specs.Option.{option_map_or}
use Rattle.vdaf_api.specs.Functions.{Functions}
use Rattle.vdaf_api.specs.declared.kind.Kind.{Kind}
use Rattle.dap_messages.specs.declared.report.Report.{Report}
use Rattle.dap_seal.specs.Reports.{honest_report}
use Rattle.dap_tasks.specs.Task.{PlainTask, has_name}
use Rattle.dap_tasks.specs.declared.cause.Cause.{Cause}
use Rattle.dap_tasks.specs.declared.cause.Cause.TheVariants as cause
use Rattle.dap_tasks.specs.declared.cause.Judged.{Judged}
use Rattle.dap_tasks.specs.declared.cause.Judged.TheVariants.{Again, Barred, Added}
use Rattle.dap_script.specs.declared.line.Line.{Line}
use Rattle.dap_script.specs.declared.line.Line.TheVariants as line
use Rattle.dap_model.specs.Numbers.{AreOfLine, PrintsByItsNumber, in_its_place}
use Rattle.dap_model.specs.Printed.{text_of}
use Rattle.dap_model.specs.Run.{opening_of, printed_from, state_after}
use Rattle.dap_model.specs.State.{State, earliest, is_collected, sharing, with_collected}
use Rattle.dap_model.specs.Step.{Outcome, after_judgement, collect_of, collection_of, measure_of, name_in, offered, refused, report_in, step, upload_named, upload_to, judgement, reports_with_content}
use Rattle.dap_model.specs.declared.printed.Printed.{Printed}
use Rattle.dap_model.specs.declared.printed.Printed.TheVariants.{Refused, Small, Overlap}
use Rattle.dap_bytes.specs.declared.span.Span.{Span}
use Rattle.dap_model.proofs.ListLemmas.{contains_cases}
use Rattle.std.specs.Prelude.{nat_le}
use Rattle.dap_bytes.specs.Spans.{passes_start}

-- ---- one line

module _ (f : Kind → Functions) (s : State) (k : ℕ) where
  none-of : AreOfLine k []
  none-of = record { refused = λ n why c. absurd (omega (arith, c.1)); overlaps = λ n other c. absurd (omega (arith, c.1)) }

  alone : (p q : Printed) → Contains (p ∷ []) q → p ≡ q
  alone p q c = elim (contains_cases p [] q c) [
    | inl e ↦ e
    | inr none ↦ absurd (omega (arith, none.1))
  ]

  one-of : (p : Printed) → ((n : ℕ) (why : Cause) → p ≡ Refused n why → n ≡ k) → ((n : ℕ) (other : Span) → p ≡ Overlap n other → n ≡ k) → AreOfLine k (p ∷ [])
  one-of p own both = record { refused = λ n why c. own n why (alone p (Refused n why) c); overlaps = λ n other c. both n other (alone p (Overlap n other) c) }

  refusal-of : (why : Cause) → AreOfLine k (refused s k why).1
  refusal-of why = one-of (Refused k why) (λ n other e. cc) (λ n other e. absurd cc)

  judgement-of : (r : Report) (j : Judged) → AreOfLine k (after_judgement s k r j).1
  judgement-of r Again = none-of
  judgement-of r (Barred why) = refusal-of why
  judgement-of r Added = none-of

  offer-of : (t : PlainTask) (why : Cause) (o : Option Report) → AreOfLine k (option_map_or (offered s k t) o (refused s k why)).1
  offer-of t why None = refusal-of why
  offer-of t why (Some r) = judgement-of r (judgement s t r)

  measure-of : (id : List ℕ) (time : ℕ) (value seed : List ℕ) (o : Option PlainTask) → AreOfLine k (option_map_or (measure_of f s k id time value seed) o (refused s k cause.Task)).1
  measure-of id time value seed None = refusal-of cause.Task
  measure-of id time value seed (Some t) = offer-of t cause.Value (honest_report (f t.kind) t id time value seed)

  named-of : (bytes : List ℕ) (o : Option PlainTask) → AreOfLine k (option_map_or (upload_to s k bytes) o (refused s k cause.Task)).1
  named-of bytes None = refusal-of cause.Task
  named-of bytes (Some t) = offer-of t cause.Form (report_in bytes)

  upload-of : (bytes : List ℕ) (o : Option (List ℕ)) → AreOfLine k (option_map_or (upload_named s k bytes) o (refused s k cause.Form)).1
  upload-of bytes None = refusal-of cause.Form
  upload-of bytes (Some name) = named-of bytes (find (has_name name) s.tasks)

  collection : (t : PlainTask) (span : Span) → AreOfLine k (collection_of f s t span ∷ [])
  collection t span = one-of (collection_of f s t span) (λ n why e. absurd cc) (λ n other e. absurd cc)

  few : (t : PlainTask) (span : Span) → AreOfLine k (Small t.name span (reports_with_content f s t span) ∷ [])
  few t span = one-of (Small t.name span (reports_with_content f s t span)) (λ n why e. absurd cc) (λ n other e. absurd cc)

  tests-of : (span : Span) (t : PlainTask) (late was : Bool) (other : Option Span) (enough : Bool)
      → AreOfLine k (let o : Outcome = cond late (refused s k cause.Start) (cond was (s, collection_of f s t span ∷ [])
      (option_map_or (λ o. (s, Overlap k o ∷ [])) other (cond enough (with_collected s t.name span, collection_of f s t span ∷ [])
      (s, Small t.name span (reports_with_content f s t span) ∷ [])))) in o.1)
  tests-of span t true was other enough = refusal-of cause.Start
  tests-of span t false true other enough = collection t span
  tests-of span t false false (Some o) enough = one-of (Overlap k o) (λ n why e. absurd cc) (λ n other e. cc)
  tests-of span t false false None true = collection t span
  tests-of span t false false None false = few t span

  collect-of : (span : Span) (o : Option PlainTask) → AreOfLine k (option_map_or (collect_of f s k span) o (refused s k cause.Task)).1
  collect-of span None = refusal-of cause.Task
  collect-of span (Some t) =
      tests-of span t (not (passes_start span t.precision)) (is_collected s.collected t.name span) (earliest (sharing t span s.collected))
      (nat_le t.min (reports_with_content f s t span))

  line-of : (l : Line) → AreOfLine k (step f s k l).1
  line-of line.Blank = none-of
  line-of (line.Task name kind min precision expires) = none-of
  line-of (line.Now t) = none-of
  line-of (line.Measure name id time value seed) = measure-of id time value seed (find (has_name name) s.tasks)
  line-of (line.Upload bytes) = upload-of bytes (name_in bytes)
  line-of (line.Collect name span) = collect-of span (find (has_name name) s.tasks)
  line-of (line.Restart node) = none-of

-- ---- a script

-- what lines print around the one of number n
printed-around : (f : Kind → Functions) (s : State) (k n : ℕ) (before : List Line) (l : Line) (behind : List Line) → k + length before ≡ n
    → printed_from f s k (before ++ l ∷ behind)
    ≡ printed_from f s k before ++ (step f (state_after f s k before) n l).1 ++ printed_from f (step f (state_after f s k before) n l).0 (n + 1) behind
printed-around f s k n [] l behind e =
    let here : k ≡ n = omega (arith, e) in
    ap (λ (m : ℕ). (step f s m l).1 ++ printed_from f (step f s m l).0 (m + 1) behind) here
printed-around f s k n (x ∷ before) l behind e =
    let after : State = (step f s k x).0 in
    let own : Outcome = step f (state_after f after (k + 1) before) n l in
    let front : List Printed = printed_from f after (k + 1) before in
    let last : List Printed = printed_from f own.0 (n + 1) behind in
    ap (λ p. (step f s k x).1 ++ p) (printed-around f after (k + 1) n before l behind (omega (arith, e)))
    ∙ sym (append_assoc (step f s k x).1 (front ++ own.1) last)
    ∙ ap (λ p. p ++ last) (sym (append_assoc (step f s k x).1 front own.1))

pub prints-by_number : (f : Kind → Functions) (opened : State) (before : List Line) (l : Line) (behind : List Line) → PrintsByItsNumber f opened before l behind
prints-by_number f opened before l behind =
    let first : State = opening_of opened (before ++ l ∷ behind) in
    let own : Outcome = in_its_place f first before l in
    let next : length before + 1 + 1 ≡ length before + 2 = omega arith in
    record {
      text = ap text_of (printed-around f first 1 (length before + 1) before l behind (omega arith)
          ∙ ap (λ (m : ℕ). printed_from f first 1 before ++ own.1 ++ printed_from f own.0 m behind) next);
      numbered = line-of f (state_after f first 1 before) (length before + 1) l;
    }
