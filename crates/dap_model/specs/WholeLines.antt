-- A batch of honest fair reports in whole numbers, in any state and behind any lines.
use Rattle.std.specs.Prelude.{◌≡◌, ◌⊎◌, ◌<◌, ◌≤◌, ℕ, ◌+◌, List, ◌∷◌, ◌++◌, length, filter_map, true, Some}
use Rattle.dap_bytes.specs.Spans.{passes_start}
use Rattle.dap_bytes.specs.declared.span.Span.{Span}
use Rattle.field_laws.specs.WholeSums.{entry_sum, whole_sum}
use Rattle.vdaf_api.specs.Functions.{Functions}
use Rattle.vdaf_api.specs.declared.kind.Kind.{Kind}
use Rattle.dap_tasks.specs.Task.{IsTask, PlainTask}
use Rattle.dap_script.specs.declared.line.Line.{Line}
use Rattle.dap_script.specs.declared.line.Line.TheVariants as line
use Rattle.dap_model.specs.Collections.{IsFree, WasCollected, batch_reports}
use Rattle.dap_model.specs.Honest.{CarryEach}
use Rattle.dap_model.specs.Numbers.{in_its_place}
use Rattle.dap_model.specs.Printed.{text_of}
use Rattle.dap_model.specs.Run.{model_text, opening_of, printed_from, state_after}
use Rattle.dap_model.specs.State.{State, task_named}
use Rattle.dap_model.specs.declared.printed.Printed.{Printed}
use Rattle.dap_model.specs.declared.printed.Printed.TheVariants.{Collected}

-- In this state a collection of the task's batch prints its counts, and its accepted reports are honest and fair: they
-- carry these measurements.
pub record IsHonestBatch (f : Kind → Functions) (s : State) (t : PlainTask)
    (name : List ℕ) (span : Span) (measurements : List (List ℕ)) : Type 0 where
  pub range : IsTask t
  pub key_bytes : length t.verify ≡ 16
  pub known : task_named s.tasks name ≡ Some t
  pub passes : passes_start span t.precision ≡ true
  pub due : WasCollected s name span ⊎ (IsFree s name t.precision span × (t.min ≤ length measurements))
  pub carried : CarryEach f t measurements (batch_reports s t span)

-- at no place the entries of the measurements' vectors have a sum that reaches the modulus
abbrev pub StayBelow : (Kind → Functions) → PlainTask → List (List ℕ) → Type 0
StayBelow f t measurements =
    (place : ℕ) → place < (f t.kind).space.size
    → entry_sum (filter_map (f t.kind).encoding measurements) place < (f t.kind).space.modulus

-- The batch has a report for each of these measurements and none that is rejected, and its answer is that of the sum of
-- their vectors in whole numbers, entry by entry.
abbrev pub whole_line : (Kind → Functions) → PlainTask → List ℕ → Span → List (List ℕ) → Printed
whole_line f t name span measurements =
    let total = whole_sum (f t.kind).space.size (filter_map (f t.kind).encoding measurements) in
    Collected name span (record { reports = length measurements; rejected = 0; answer = (f t.kind).answer total })

-- the state before the line behind these, in a script that begins in this state
abbrev pub state_before : (Kind → Functions) → State → List Line → Line → List Line → State
state_before f opened before l behind = state_after f (opening_of opened (before ++ l ∷ behind)) 1 before

-- A script prints this line where it collects the batch, between what the lines before and behind print.
pub record PrintsWithin (f : Kind → Functions) (opened : State) (before : List Line)
    (name : List ℕ) (span : Span) (behind : List Line) (printed : Printed) : Type 0 where
  pub text : (let first = opening_of opened (before ++ line.Collect name span ∷ behind) in
      let after = (in_its_place f first before (line.Collect name span)).0 in
      model_text f opened (before ++ line.Collect name span ∷ behind)
      ≡ text_of (printed_from f first 1 before ++ printed ∷ printed_from f after (length before + 2) behind))
