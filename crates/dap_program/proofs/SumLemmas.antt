-- What a script prints where it collects a batch of honest fair reports.
use Rattle.std.proofs.Common.{◌≡◌, ℕ, ◌+◌, ◌<◌, ◌≤◌, List, [], ◌∷◌, ◌++◌, length, true, is_some, Option, Some, None, Result, Ok, Err, lit≤, refl, sym, ap, subst, ◌∙◌, arith, append_assoc}
use Rattle.std.proofs.Math.Seq.{take-length}
use Rattle.std.proofs.lemmas.List.{length-append}
use Rattle.std.proofs.lemmas.List.Concat.{flat_map-append}
use Rattle.std.proofs.lemmas.List.Elements.{All-weaker}
use Rattle.std.specs.List.{All}
use Rattle.dap_bytes.specs.declared.span.Span.{Span}
use Rattle.prio3_kinds.specs.KindLaws.{kind_laws}
use Rattle.prio3_kinds.specs.Kinds.{functions_of_kind, is_measurement}
use Rattle.prio3_kinds.specs.WholeNumbers.{COUNTS_END, whole_answer}
use Rattle.prio3_kinds.proofs.Itself.{of_kind}
use Rattle.prio3_kinds.proofs.WholeAnswers.{whole-numbers}
use Rattle.dap_tasks.specs.Task.{PlainTask}
use Rattle.dap_script.specs.Script.{script_beside}
use Rattle.dap_script.specs.declared.line.Line.{Line}
use Rattle.dap_script.specs.declared.line.Line.TheVariants as line
use Rattle.dap_model.proofs.HonestLaws.{honest-batch, length-carried, measured-carried}
use Rattle.dap_model.proofs.NumberLaws.{prints-by_number}
use Rattle.dap_model.proofs.PassLaws.{offers-append, passed-exact}
use Rattle.dap_model.proofs.WholeLaws.{accepted-few}
use Rattle.dap_model.specs.BatchLaws.{batch-few, each_once-batch}
use Rattle.dap_model.specs.Collections.{batch_reports}
use Rattle.dap_model.specs.Honest.{CarryEach, honest_line}
use Rattle.dap_model.specs.Limits.{Passed, passed_in, reports_offered}
use Rattle.dap_model.specs.Numbers.{in_its_place}
use Rattle.dap_model.specs.Passes.{AreWithin}
use Rattle.dap_model.specs.Printed.{spelling, text_of}
use Rattle.dap_model.specs.Run.{model_text, opening_of, printed_from}
use Rattle.dap_model.specs.State.{State, names_of, opening}
use Rattle.dap_model.specs.Step.{Outcome, step}
use Rattle.dap_model.specs.WholeLines.{IsHonestBatch}
use Rattle.dap_model.specs.declared.printed.Printed.{Printed}
use Rattle.dap_model.specs.declared.printed.Printed.TheVariants.{Collected}
use Rattle.dap_program.proofs.LineLemmas.{lines_read, stopped}
use Rattle.dap_program.specs.Headline.{Reads, lines_outcome, output_of, run_limits, run_outcome, script_outcome, status_of}
use Rattle.dap_program.specs.Lines.{lines_run}
use Rattle.dap_program.specs.WholeSums.{HasLine, printed_before, reached, sum_line}
use Rattle.dap_program.specs.Work.{Scripted}
use Rattle.dap_program.specs.declared.status.Status.{Status}
use Rattle.dap_program.specs.declared.status.Status.TheVariants.{Done, Limit}

-- ---- a script that is done

-- the model's text of these lines, with which no limit is passed
record IsText (given : List PlainTask) (lines : List Line) (text : List ℕ) : Type 0 where
  is : text ≡ model_text functions_of_kind (opening given) lines
  within : passed_in functions_of_kind run_limits (opening given) lines ≡ None

run_done : (given : List PlainTask) (lines : List Line) (passed : Option Passed) → passed_in functions_of_kind run_limits (opening given) lines ≡ passed
    → (run_outcome given lines passed).status ≡ Done → IsText given lines (run_outcome given lines passed).text
run_done given lines None e h = record { is = refl; within = e }
run_done given lines (Some p) e h = absurd cc

no_lines : (given : List PlainTask) (script : List ℕ) → lines_run given script ≡ Err Done → ⊥
no_lines given script e = stopped given script Done e (record {
  bytes = λ long same. absurd cc;
  lines = λ longer same. absurd cc;
  refused = λ n read same. absurd cc;
  later = λ lines n read is same. absurd cc;
  full = λ lines n read is same. absurd cc;
})

lines_done : (given : List PlainTask) (script : List ℕ) (lines : List Line) (planned : Result (List Line) Status) → lines_run given script ≡ planned
    → script_beside (names_of given) script ≡ Ok lines → (lines_outcome given planned).status ≡ Done → IsText given lines (lines_outcome given planned).text
lines_done given script lines (Err status) e read h = absurd (no_lines given script (e ∙ ap Err h))
lines_done given script lines (Ok found) e read h =
    let both : (let x : Result (List Line) ℕ = Ok found in x) ≡ Ok lines = sym (lines_read given script found e) ∙ read in
    let same : found ≡ lines = cc in
    subst (λ (l : List Line). IsText given l (lines_outcome given (Ok found)).text) same
    (run_done given found (passed_in functions_of_kind run_limits (opening given) found) refl h)

script_done : (file : Option (List ℕ)) (script : List ℕ) (r : Reads file script) → status_of (Scripted file script) ≡ Done → IsText r.given r.lines (output_of (Scripted file script))
script_done file script r =
    subst (λ t. (script_outcome t script).status ≡ Done → IsText r.given r.lines (script_outcome t script).text) (sym r.tasks_read)
    (λ h. lines_done r.given script r.lines (lines_run r.given script) refl r.script_read h)

-- ---- the line

module _ (given : List PlainTask) (before : List Line) (name : List ℕ) (span : Span) (behind : List Line) where
  abbrev own : Line
  own = line.Collect name span

  abbrev lines : List Line
  lines = before ++ own ∷ behind

  abbrev first : State
  first = opening_of (opening given) lines

  abbrev here : State
  here = reached given before name span behind

  -- fewer reports are accepted than may be offered
  accepted-within : passed_in functions_of_kind run_limits (opening given) lines ≡ None → length here.accepted ≤ run_limits.reports
  accepted-within none =
      let all : AreWithin run_limits (reports_offered functions_of_kind first.tasks lines) =
      subst (λ (l : List Line). AreWithin run_limits (reports_offered functions_of_kind first.tasks l)) (take-length lines)
      ((passed-exact functions_of_kind run_limits (opening given) lines).none none) in
      omega (
        arith,
        all.few,
        accepted-few functions_of_kind first 1 before,
        ap (λ rs. length rs) (offers-append functions_of_kind run_limits first.tasks before (own ∷ behind)),
        length-append (reports_offered functions_of_kind first.tasks before) (reports_offered functions_of_kind first.tasks (own ∷ behind)),
      )

  module _ (t : PlainTask) (ms : List (List ℕ)) (h : IsHonestBatch functions_of_kind here t name span ms) where
    few : length here.accepted ≤ run_limits.reports → length ms < COUNTS_END
    few within =
        let room : run_limits.reports + 1 ≤ COUNTS_END = lit≤ tt in
        omega (
          arith,
          within,
          room,
          length-carried functions_of_kind t (kind_laws t.kind h.range.0.kind_ranges) h.key_bytes ms (batch_reports here t span) h.carried,
          each_once-batch functions_of_kind t span here.accepted,
          batch-few functions_of_kind t span here.accepted h.range.0.some_time,
        )

    printed : length here.accepted ≤ run_limits.reports → (in_its_place functions_of_kind first before own).1 ≡ sum_line t name span ms ∷ []
    printed within =
        let measured : All (λ m. is_measurement t.kind m ≡ true) ms =
        All-weaker (λ m. (v : List ℕ) × ((functions_of_kind t.kind).encoding m ≡ Some v)) (λ m. is_measurement t.kind m ≡ true) (λ m v. sym (of_kind t.kind m) ∙ ap (λ (o : Option (List ℕ)). is_some o) v.1) ms
        (measured-carried functions_of_kind t (kind_laws t.kind h.range.0.kind_ranges) h.key_bytes ms (batch_reports here t span) h.carried) in
        honest-batch functions_of_kind t (kind_laws t.kind h.range.0.kind_ranges) h.key_bytes here (length before + 1) name span ms h.carried h.known h.passes h.due
        ∙ ap (λ a. Collected name span (record { reports = length ms; rejected = 0; answer = a }) ∷ []) (whole-numbers t.kind ms h.range.0.kind_ranges measured (few within))

    has-line : (text : List ℕ) → IsText given lines text → HasLine text (printed_before given before name span behind) (sum_line t name span ms)
    has-line text done =
        let after : List Printed = printed_from functions_of_kind (in_its_place functions_of_kind first before own).0 (length before + 2) behind in
        record {
          rest = text_of after;
          is = done.is ∙ (prints-by_number functions_of_kind (opening given) before own behind).text
              ∙ ap (λ (p : List Printed). text_of (printed_before given before name span behind ++ p ++ after)) (printed (accepted-within done.within))
              ∙ ap text_of (append_assoc (printed_before given before name span behind) (sum_line t name span ms ∷ []) after)
              ∙ flat_map-append spelling (printed_before given before name span behind) (sum_line t name span ms ∷ after)
              ∙ sym (append_assoc (text_of (printed_before given before name span behind)) (spelling (sum_line t name span ms)) (text_of after));
        }

pub sums-printed : (file : Option (List ℕ)) (script : List ℕ) (r : Reads file script) (before : List Line) (name : List ℕ) (span : Span) (behind : List Line) (t : PlainTask) (ms : List (List ℕ))
    → r.lines ≡ before ++ line.Collect name span ∷ behind → status_of (Scripted file script) ≡ Done
    → IsHonestBatch functions_of_kind (reached r.given before name span behind) t name span ms
    → HasLine (output_of (Scripted file script)) (printed_before r.given before name span behind) (sum_line t name span ms)
sums-printed file script r before name span behind t ms are done h =
    has-line r.given before name span behind t ms h (output_of (Scripted file script))
    (subst (λ (l : List Line). IsText r.given l (output_of (Scripted file script))) are (script_done file script r done))
