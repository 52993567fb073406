-- The whole segments of lines.
use Rattle.std.specs.Prelude.{◌≡◌, ◌⊎◌, ◌+◌, ◌-◌, ℕ, List, [], ◌∷◌, ◌++◌, length, take, true, false}
use Rattle.std.specs.List.{list_any}
use Rattle.vdaf_api.specs.Functions.{Functions}
use Rattle.vdaf_api.specs.declared.kind.Kind.{Kind}
use Rattle.dap_script.specs.declared.line.Line.{Line}
use Rattle.dap_model.specs.Limits.{ends_segment}
use Rattle.dap_model.specs.Printed.{text_of}
use Rattle.dap_model.specs.Run.{model_text, opening_of, printed_from, state_after}
use Rattle.dap_model.specs.State.{State}

-- the last of the lines ends a segment
pub record EndsSegment (lines : List Line) : Type 0 where
  pub before : List Line
  pub last : Line
  pub joined : lines ≡ before ++ last ∷ []
  pub ends : ends_segment last ≡ true

-- The first of the lines are whole segments: there are none, or the last of them ends a segment; and no line behind
-- them does.
pub record AreWholeSegments (lines first : List Line) : Type 0 where
  pub rest : List Line
  pub front : lines ≡ first ++ rest
  pub whole : (first ≡ []) ⊎ EndsSegment first
  pub open_end : list_any ends_segment rest ≡ false

-- The text is told before the line of this number: the whole segments of the lines before it print it, from the
-- state in which the script begins. The script prints it first, and then what its other lines print, which follow on these
-- segments.
pub record TellsWholeSegments (f : Kind → Functions) (opened : State)
    (lines : List Line) (number : ℕ) (text : List ℕ) : Type 0 where
  pub first : List Line
  pub rest : List Line
  pub script : lines ≡ first ++ rest
  pub whole : AreWholeSegments (take (number - 1) lines) first
  pub told : text ≡ text_of (printed_from f (opening_of opened lines) 1 first)
  pub then_others : (let after = state_after f (opening_of opened lines) 1 first in
      model_text f opened lines ≡ text ++ text_of (printed_from f after (length first + 1) rest))
