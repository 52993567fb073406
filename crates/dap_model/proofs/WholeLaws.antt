-- A batch of honest fair reports is printed in whole numbers.
use Rattle.std.proofs.Common.{◌≡◌, ℕ, ◌+◌, ◌≤◌, List, [], ◌∷◌, ◌++◌, length, filter_map, Option, Some, None, refl, ap, subst, ◌∙◌, inl, inr, arith, append_assoc}
use Rattle.std.specs.List.{cons_option}
use Rattle.std.specs.Option.{option_to_list}
use Rattle.std.proofs.lemmas.List.{length-append}
use Rattle.std.proofs.lemmas.List.Elements.{All-cons, All-nil}
use Rattle.dap_bytes.specs.declared.span.Span.{Span}
use Rattle.field_laws.proofs.WholeSumLaws.{sum_of-below}
use Rattle.field_laws.specs.WholeSums.{HaveEntries, whole_sum}
use Rattle.vdaf_api.specs.Functions.{Functions}
use Rattle.vdaf_api.specs.Kind.{IsKind}
use Rattle.vdaf_api.specs.Promises.{FunctionLaws}
use Rattle.vdaf_api.specs.Totals.{total_numbers}
use Rattle.vdaf_api.specs.declared.kind.Kind.{Kind}
use Rattle.dap_messages.specs.declared.report.Report.{Report}
use Rattle.dap_tasks.specs.Task.{PlainTask}
use Rattle.dap_script.specs.declared.line.Line.{Line}
use Rattle.dap_script.specs.declared.line.Line.TheVariants as line
use Rattle.dap_model.proofs.ChangeLaws.{changes_named}
use Rattle.dap_model.proofs.HonestLaws.{honest-batch}
use Rattle.dap_model.proofs.NumberLaws.{prints-by_number}
use Rattle.dap_model.proofs.OfferingLaws.{counts-judged}
use Rattle.dap_model.proofs.UploadedLaws.{tasks_kept}
use Rattle.dap_model.specs.Changes.{AddsReport, AddsUpload, ChangesNamed}
use Rattle.dap_model.specs.Limits.{report_offered, reports_offered}
use Rattle.dap_model.specs.Numbers.{in_its_place}
use Rattle.dap_model.specs.Printed.{text_of}
use Rattle.dap_model.specs.Run.{opening_of, printed_from, state_after}
use Rattle.dap_model.specs.State.{State}
use Rattle.dap_model.specs.Step.{Outcome, step}
use Rattle.dap_model.specs.WholeLines.{IsHonestBatch, PrintsWithin, StayBelow, state_before, whole_line}
use Rattle.dap_model.specs.declared.printed.Printed.{Printed}
use Rattle.dap_model.specs.declared.printed.Printed.TheVariants.{Collected}

module _ (g : Functions) (laws : FunctionLaws g) where
  -- each vector has an entry at each place
  have-entries : (ms : List (List ℕ)) → HaveEntries g.space.size (filter_map g.encoding ms)
  have-entries [] = All-nil (λ v. length v ≡ g.space.size)
  have-entries (m ∷ ms) = go (g.encoding m) refl (have-entries ms)
    where
      go : (o : Option (List ℕ)) → g.encoding m ≡ o → HaveEntries g.space.size (filter_map g.encoding ms) → HaveEntries g.space.size (cons_option o (filter_map g.encoding ms))
      go None e h = h
      go (Some v) e h = All-cons (λ v. length v ≡ g.space.size) v (filter_map g.encoding ms) (laws.encoding m v e).0 h

module _ (f : Kind → Functions) (laws : (k : Kind) → IsKind k → FunctionLaws (f k)) where
  pub whole-collection : (s : State) (k : ℕ) (name : List ℕ) (span : Span) (t : PlainTask) (ms : List (List ℕ)) → IsHonestBatch f s t name span ms → StayBelow f t ms
      → (step f s k (line.Collect name span)).1 ≡ whole_line f t name span ms ∷ []
  whole-collection s k name span t ms h below =
      let g : Functions = f t.kind in
      let own : FunctionLaws g = laws t.kind h.range.0.kind_ranges in
      let vectors : List (List ℕ) = filter_map g.encoding ms in
      let total : total_numbers g.space vectors ≡ whole_sum g.space.size vectors = sum_of-below g.space.modulus g.space.size vectors (have-entries g own ms) below in
      honest-batch f t own h.key_bytes s k name span ms h.carried h.known h.passes h.due
      ∙ ap (λ (v : List ℕ). Collected name span (record { reports = length ms; rejected = 0; answer = g.answer v }) ∷ []) total

  pub whole-script : (opened : State) (before : List Line) (name : List ℕ) (span : Span) (behind : List Line) (t : PlainTask) (ms : List (List ℕ))
      → IsHonestBatch f (state_before f opened before (line.Collect name span) behind) t name span ms → StayBelow f t ms
      → PrintsWithin f opened before name span behind (whole_line f t name span ms)
  whole-script opened before name span behind t ms h below =
      let l : Line = line.Collect name span in
      let first : State = opening_of opened (before ++ l ∷ behind) in
      let own : Outcome = in_its_place f first before l in
      let printed : own.1 ≡ whole_line f t name span ms ∷ [] =
      whole-collection (state_before f opened before l behind) (length before + 1) name span t ms h below in
      record {
        text = (prints-by_number f opened before l behind).text
            ∙ ap (λ (p : List Printed). text_of (printed_from f first 1 before ++ p ++ printed_from f own.0 (length before + 2) behind)) printed
            ∙ ap text_of (append_assoc (printed_from f first 1 before) (whole_line f t name span ms ∷ []) (printed_from f own.0 (length before + 2) behind));
      }

-- ---- as many reports as are offered

-- a line accepts at most one report
one-more : (s after : State) (l : Line) → ChangesNamed s after l → length after.accepted ≤ length s.accepted + 1
one-more s after line.Blank e = omega (arith, ap (λ (x : State). length x.accepted) e)
one-more s after (line.Task name kind min precision expires) e = omega (arith, ap (λ (x : State). length x.accepted) e)
one-more s after (line.Now t) e = omega (arith, ap (λ (x : State). length x.accepted) e)
one-more s after (line.Measure name id time value seed) (inl e) = omega (arith, ap (λ (x : State). length x.accepted) e)
one-more s after (line.Measure name id time value seed) (inr adds) =
    omega (arith, ap (λ (x : State). length x.accepted) adds.grown, length-append s.accepted (adds.report ∷ []))
one-more s after (line.Upload bytes) (inl e) = omega (arith, ap (λ (x : State). length x.accepted) e)
one-more s after (line.Upload bytes) (inr adds) =
    omega (arith, ap (λ (x : State). length x.accepted) adds.grown, length-append s.accepted (adds.report ∷ []))
one-more s after (line.Collect name span) (inl e) = omega (arith, ap (λ (x : State). length x.accepted) e)
one-more s after (line.Collect name span) (inr adds) = omega (arith, ap (λ (x : State). length x.accepted) adds)
one-more s after (line.Restart node) e = omega (arith, ap (λ (x : State). length x.accepted) e)

step-few : (f : Kind → Functions) (s : State) (k : ℕ) (l : Line) → length (step f s k l).0.accepted ≤ length s.accepted + length (option_to_list (report_offered f s.tasks l))
step-few f s k l = go (report_offered f s.tasks l) refl
  where
    go : (o : Option Report) → report_offered f s.tasks l ≡ o → length (step f s k l).0.accepted ≤ length s.accepted + length (option_to_list o)
    go None e = omega (arith, ap (λ (rs : List Report). length rs) ((counts-judged f s k l).nothing e))
    go (Some r) e = one-more s (step f s k l).0 l (changes_named f s k l)

pub accepted-few : (f : Kind → Functions) (s : State) (k : ℕ) (lines : List Line) → length (state_after f s k lines).accepted ≤ length s.accepted + length (reports_offered f s.tasks lines)
accepted-few f s k [] = omega arith
accepted-few f s k (l ∷ more) =
    let after : State = (step f s k l).0 in
    let kept : after.tasks ≡ s.tasks = tasks_kept s after l (changes_named f s k l) in
    let rest : length (state_after f after (k + 1) more).accepted ≤ length after.accepted + length (reports_offered f s.tasks more) =
    subst (λ (ts : List PlainTask). length (state_after f after (k + 1) more).accepted ≤ length after.accepted + length (reports_offered f ts more)) kept (accepted-few f after (k + 1) more) in
    omega (arith, rest, step-few f s k l, length-append (option_to_list (report_offered f s.tasks l)) (reports_offered f s.tasks more))
