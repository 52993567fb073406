-- What a lane hands out to be worked out for a message.
use Rattle.std.specs.Prelude.{ℕ, List, Bool, true, false, IsTrue, Option, Some, None, Result, Ok, Err}
use Rattle.std.specs.List.{find}
use Rattle.std.specs.Option.{option_map}
use Rattle.std.specs.Str.{bytes_eq}
use Rattle.dap_tasks.specs.Task.{PlainTask, has_name}
use Rattle.dap_messages.specs.declared.body.Half.{Half}
use Rattle.dap_messages.specs.declared.item.Tagged.{Tagged}
use Rattle.dap_messages.specs.declared.message.Message.{Message}
use Rattle.dap_messages.specs.declared.message.Message.TheVariants.{InitReq, ContReq}
use Rattle.dap_messages.specs.Grammar.{whole}
use Rattle.dap_messages.specs.Messages.{message}
use Rattle.lane_records.specs.declared.record.Record.{Record}
use Rattle.legal_journals.specs.History.{first}
use Rattle.helper_lane.specs.Reply.{Env, Started, start_if}

-- the whole input: the task, the message, and for a ContReq the halves of its job's Start
pub record Input : Type 0 where
  pub task : PlainTask
  pub message : List ℕ
  pub started : Option (List (Tagged Half))

-- the message is an InitReq of the task, or a ContReq where a job was started with halves
abbrev pub is_input : PlainTask → Option (List (Tagged Half)) → Result Message ℕ → Bool
is_input t None (Ok (InitReq j n hs)) = bytes_eq n t.name
is_input t (Some halves) (Ok (ContReq j xs)) = true
is_input t _ _ = false

-- so it is with the message of these bytes
abbrev pub IsInput : PlainTask → List ℕ → Option (List (Tagged Half)) → Type 0
IsInput t b started = IsTrue (is_input t started (whole message b))

-- the input of an InitReq under its task
abbrev pub init_input : List ℕ → PlainTask → Input
init_input b t = record { task = t; message = b; started = None }

-- the input of a ContReq under its job's task, with the halves of the Start
abbrev pub cont_input : List ℕ → List (Tagged Half) → PlainTask → Input
cont_input b hs t = record { task = t; message = b; started = Some hs }

-- the input of a ContReq, by what its job's Start says, if there is one
abbrev pub started_input : Env → List ℕ → Option Started → Option Input
started_input env b None = None
started_input env b (Some s) = option_map (cont_input b s.halves) (find (has_name s.name) env.tasks)

-- the input of the message that the bytes spell
abbrev pub input_to : Env → List Record → List ℕ → Result Message ℕ → Option Input
input_to env l b (Ok (InitReq j n hs)) = option_map (init_input b) (find (has_name n) env.tasks)
input_to env l b (Ok (ContReq j xs)) = started_input env b (first (start_if j) l)
input_to env l b (Ok _) = None
input_to env l b (Err at) = None

-- the input that a lane with these records, the newest first, hands out for a message
abbrev pub input_for : Env → List Record → List ℕ → Option Input
input_for env l b = input_to env l b (whole message b)
