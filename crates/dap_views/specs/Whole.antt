-- A request as a whole message.
use Rattle.std.specs.Prelude.{ℕ, ◌==◌, Bool, false, ◌&&◌, List, [], ◌∷◌, Result, Ok, Err, if◌then◌else◌}
use Rattle.std.specs.Str.{bytes_eq}
use Rattle.dap_messages.specs.declared.job.JobNo.{JobNo}
use Rattle.dap_messages.specs.declared.message.Message.{Message}
use Rattle.dap_messages.specs.declared.message.Message.TheVariants.{InitReq}
use Rattle.dap_messages.specs.Grammar.{whole}
use Rattle.dap_messages.specs.Jobs.{is_same_job}
use Rattle.dap_messages.specs.Messages.{message}

-- the message that a request's bytes spell, or the place of the first fault, which is 0 where the first byte isn't 01
abbrev pub request_in : List ℕ → Result Message ℕ
request_in [] = Err 0
request_in (first ∷ rest) = if first == 1 then whole message (first ∷ rest) else Err 0

-- it is a request of this job and name
abbrev pub is_headed : JobNo → List ℕ → Result Message ℕ → Bool
is_headed job name (Ok (InitReq j n parts)) = is_same_job j job && bytes_eq n name
is_headed job name _ = false

-- the bytes spell a request of this job and name
abbrev pub spells_request : List ℕ → JobNo → List ℕ → Bool
spells_request input job name = is_headed job name (request_in input)
