-- A work, and what it comes to.
use Rattle.std.specs.Prelude.{◌≡◌, ℕ, List, [], ◌∷◌, Option, Some, None, Result, Ok}
use Rattle.vdaf_api.specs.declared.kind.Kind.{Kind}
use Rattle.vdaf_api.specs.Functions.{Functions}
use Rattle.dap_tasks.specs.Task.{PlainTask}
use Rattle.dap_messages.specs.declared.body.Half.{Half}
use Rattle.dap_messages.specs.declared.body.Step.{Step}
use Rattle.dap_messages.specs.declared.item.Tagged.{Tagged}
use Rattle.dap_messages.specs.declared.message.Message.{Message}
use Rattle.dap_messages.specs.declared.message.Message.TheVariants.{InitReq, ContReq}
use Rattle.dap_messages.specs.Grammar.{whole}
use Rattle.dap_messages.specs.Messages.{message}
use Rattle.lane_records.specs.declared.outcome.Outcome.{Outcome}
use Rattle.helper_lane.specs.declared.made.Made.{Made}
use Rattle.helper_lane.specs.declared.made.Made.TheVariants.{Steps, Outcomes}
use Rattle.helper_lane.specs.declared.work.HelperWork.{HelperWork}
use Rattle.helper_lane.specs.Input.{Input}
use Rattle.helper_lane.specs.Reply.{first_steps, prepared_outcome}

-- the input that a work holds
abbrev pub input_of : HelperWork → Input
input_of w = record { task = w.task; message = w.message; started = w.started }

-- the outcomes by steps and items alone, report by report
abbrev pub prepared_outcomes : (Kind → Functions) → PlainTask → List ℕ → List (Tagged Half) → List (Tagged Step) → List (Tagged Outcome)
prepared_outcomes f t n [] xs = []
prepared_outcomes f t n (h ∷ hs) [] = []
prepared_outcomes f t n (h ∷ hs) (x ∷ xs) = record { id = h.id; body = prepared_outcome f t n h x.body } ∷ prepared_outcomes f t n hs xs

-- for the message that an input's bytes spell: the helper's first steps, or what the leader's items come to
abbrev pub Makes : (Kind → Functions) → PlainTask → Option (List (Tagged Half)) → Result Message ℕ → Made → Type 0
Makes f t None (Ok (InitReq j n hs)) (Steps xs) = xs ≡ first_steps f t n hs
Makes f t (Some hs) (Ok (ContReq j xs)) (Outcomes outs) = outs ≡ prepared_outcomes f t t.name hs xs
Makes f t _ _ _ = ⊥

-- this is what the input comes to
abbrev pub IsMade : (Kind → Functions) → Input → Made → Type 0
IsMade f w made = Makes f w.task w.started (whole message w.message) made
