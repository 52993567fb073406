-- Each line of a script prints as the line of its number, counted from 1.
use Rattle.std.specs.Prelude.{◌≡◌, ◌+◌, ℕ, List, ◌∷◌, ◌++◌, length}
use Rattle.std.specs.List.{Contains}
use Rattle.dap_bytes.specs.declared.span.Span.{Span}
use Rattle.vdaf_api.specs.Functions.{Functions}
use Rattle.vdaf_api.specs.declared.kind.Kind.{Kind}
use Rattle.dap_tasks.specs.declared.cause.Cause.{Cause}
use Rattle.dap_script.specs.declared.line.Line.{Line}
use Rattle.dap_model.specs.Printed.{text_of}
use Rattle.dap_model.specs.Run.{model_text, opening_of, printed_from, state_after}
use Rattle.dap_model.specs.State.{State}
use Rattle.dap_model.specs.Step.{Outcome, step}
use Rattle.dap_model.specs.declared.printed.Printed.{Printed}
use Rattle.dap_model.specs.declared.printed.Printed.TheVariants.{Refused, Overlap}

-- A refusal among the printed lines is that of the line of this number.
pub record AreOfLine (number : ℕ) (printed : List Printed) : Type 0 where
  pub refused : (n : ℕ) (why : Cause) → Contains printed (Refused n why) → n ≡ number
  pub overlaps : (n : ℕ) (other : Span) → Contains printed (Overlap n other) → n ≡ number

-- what the line behind these does in the script, as the line of its number
abbrev pub in_its_place : (Kind → Functions) → State → List Line → Line → Outcome
in_its_place f first before l = step f (state_after f first 1 before) (length before + 1) l

-- what these lines print, then what the line behind them prints as the line of its number, then what the lines behind
-- it print
abbrev pub printed_around : (Kind → Functions) → State → List Line → Line → List Line → List Printed
printed_around f first before l behind =
    let own = in_its_place f first before l in
    printed_from f first 1 before ++ own.1 ++ printed_from f own.0 (length before + 2) behind

-- The script prints what the lines before this one print, then what this one prints as the line of its number, then
-- what the lines behind it print.
pub record PrintsByItsNumber (f : Kind → Functions) (opened : State)
    (before : List Line) (l : Line) (behind : List Line) : Type 0 where
  pub text : (let first = opening_of opened (before ++ l ∷ behind) in
      model_text f opened (before ++ l ∷ behind) ≡ text_of (printed_around f first before l behind))
  pub numbered : (let first = opening_of opened (before ++ l ∷ behind) in
      AreOfLine (length before + 1) (in_its_place f first before l).1)
