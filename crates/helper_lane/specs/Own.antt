-- The own steps of a helper's lane, and what its type keeps.
use Rattle.std.specs.Prelude.{◌≡◌, ℕ, ◌≤◌, List, [], ◌∷◌, ◌++◌, length, reverse, Bool, true, false, Some, Ok, Contains}
use Rattle.std.specs.List.{find}
use Rattle.dap_bytes.specs.declared.node.Node.TheVariants.{Helper}
use Rattle.dap_bytes.specs.declared.part.Part.TheVariants.{Lane}
use Rattle.dap_messages.specs.declared.job.JobNo.{JobNo}
use Rattle.dap_messages.specs.declared.body.Half.{Half}
use Rattle.dap_messages.specs.declared.item.Tagged.{Tagged}
use Rattle.dap_messages.specs.declared.message.Message.{Message}
use Rattle.dap_messages.specs.declared.message.Message.TheVariants.{InitResp, ContResp}
use Rattle.dap_messages.specs.Grammar.{whole}
use Rattle.dap_messages.specs.Messages.{message}
use Rattle.dap_tasks.specs.Task.{PlainTask, has_name}
use Rattle.lane_records.specs.declared.outcome.Outcome.{Outcome}
use Rattle.lane_records.specs.declared.closed.Closed.{Closed}
use Rattle.lane_records.specs.declared.format.Format.TheVariants.{Two}
use Rattle.lane_records.specs.declared.record.Record.{Record}
use Rattle.lane_records.specs.declared.record.Record.TheVariants.{HelperOpen, Start, Commit, HelperClose}
use Rattle.legal_journals.specs.History.{Mem, lanes_in}
use Rattle.legal_journals.specs.Legal.{May}
use Rattle.part_journal.specs.Pages.{Pages}
use Rattle.helper_lane.specs.Reply.{Env, Reacts, first_steps, told_outcomes, reply}
use Rattle.helper_lane.specs.Replies.{KnowsLanes, IsLegalHere}

-- ---- own steps

-- the records and the block in hand, the newest first, and whether the Open of this incarnation stands
pub record Own : Type 0 where
  pub l : List Record
  pub block : List Record
  pub up : Bool

-- what a lane does of itself
pub data OwnStep : Type 0 where
  -- it begins an Open, the Open ends, another append ends, it is stopped
  Opens Opened Ends : OwnStep
  Stops : Bool → OwnStep
  -- it begins the record that a message asks for, or a Close
  Takes : List ℕ → Record → Message → OwnStep
  Closes : List ℕ → ℕ → Closed → OwnStep
  -- it sends a reply
  Says : Message → OwnStep

-- a message that may be sent rests on a record
abbrev pub Justified : Env → List Record → Message → Type 0
Justified env l (InitResp j xs) = (n : List ℕ) × (hs : List (Tagged Half)) × (t : PlainTask) × Mem (Start j n hs) l × (find (has_name n) env.tasks ≡ Some t) × (xs ≡ first_steps env.functions t n hs)
Justified env l (ContResp j xs) = (outs : List (Tagged Outcome)) × Mem (Commit j outs) l × (xs ≡ told_outcomes outs)
Justified env l _ = ⊥

-- the Open that the lane appends
abbrev pub opener_of : Env → Record
opener_of env = HelperOpen Two env.lanes env.lane

-- the own step may be taken, where these messages were heard
abbrev pub StepMay : Env → (List ℕ → Type 0) → Own → OwnStep → Type 0
StepMay env heard w Opens = (w.up ≡ false) × (w.block ≡ [])
StepMay env heard w Opened = (w.up ≡ false) × (w.block ≡ opener_of env ∷ [])
StepMay env heard w Ends = w.up ≡ true
StepMay env heard w (Stops kept) = Unit {0}
StepMay env heard w (Takes b x m) = (w.up ≡ true) × (w.block ≡ []) × heard b × (reply env w.l b ≡ Reacts (Some x) m)
StepMay env heard w (Closes n s c) = (w.up ≡ true) × (w.block ≡ []) × May Helper (Lane env.lane) (HelperClose n s c) w.l
StepMay env heard w (Says m) = (w.up ≡ true) × (w.block ≡ []) × Justified env w.l m

-- the block and the records, or the records alone
abbrev pub kept_or : {A : Type 0} → Bool → List A → List A → List A
kept_or true block old = block ++ old
kept_or false block old = old

-- what the own step leaves
abbrev pub step : Env → Own → OwnStep → Own
step env w Opens = record w { block = opener_of env ∷ w.block }
step env w Opened = record w { l = w.block ++ w.l; block = []; up = true }
step env w Ends = record w { l = w.block ++ w.l; block = [] }
step env w (Stops kept) = record w { l = kept_or kept w.block w.l; block = []; up = false }
step env w (Takes b x m) = record w { block = x ∷ w.block }
step env w (Closes n s c) = record w { block = HelperClose n s c ∷ w.block }
step env w (Says m) = w

-- what it sends
abbrev pub says : OwnStep → List Message
says Opens = []
says Opened = []
says Ends = []
says (Stops kept) = []
says (Takes b x m) = []
says (Closes n s c) = []
says (Says m) = m ∷ []

-- from one state to another by a list of own steps, and what they send in order
abbrev pub OwnSteps : Env → (List ℕ → Type 0) → Own → List OwnStep → Own → List Message → Type 0
OwnSteps env heard w [] w' sent = (w ≡ w') × (sent ≡ [])
OwnSteps env heard w (s ∷ steps) w' sent = StepMay env heard w s × ((later : List Message) × OwnSteps env heard (step env w s) steps w' later × (sent ≡ says s ++ later))

-- ---- what stands in the records

-- the record is a Start or a Commit
abbrev pub is_answer : Record → Bool
is_answer (Start j n hs) = true
is_answer (Commit j outs) = true
is_answer _ = false

-- a Start or Commit is what a message asked for that was heard, by the records before it
abbrev pub RestsOn : Env → (List ℕ → Type 0) → Record → List Record → Type 0
RestsOn env heard x old = is_answer x ≡ true → (b : List ℕ) × (m : Message) × heard b × (reply env old b ≡ Reacts (Some x) m)

-- each one but the first so many
abbrev pub AllRest : Env → (List ℕ → Type 0) → ℕ → List Record → Type 0
AllRest env heard opening [] = Unit {0}
AllRest env heard opening (x ∷ old) = (opening ≤ length old → RestsOn env heard x old) × AllRest env heard opening old

-- each Open names the lane's number of lanes
abbrev pub OpensAre : Env → List Record → Type 0
OpensAre env l = (x : Record) (n : ℕ) → Mem x l → lanes_in x ≡ Some n → n ≡ env.lanes

-- each message that was sent rests on a record
abbrev pub AllJustified : Env → List (List ℕ) → List Record → Type 0
AllJustified env sent l = (b : List ℕ) → Contains sent b → (m : Message) × (whole message b ≡ Ok m) × Justified env l m

-- each Start's name is that of a task
abbrev pub NamesAreKnown : Env → List Record → Type 0
NamesAreKnown env l = (j : JobNo) (n : List ℕ) (hs : List (Tagged Half)) → Mem (Start j n hs) l → (t : PlainTask) × (find (has_name n) env.tasks ≡ Some t)

-- what a lane keeps of its records, the newest first
pub record Facts (env : Env) (heard : List ℕ → Type 0) (opening : ℕ) (sent : List (List ℕ)) (l : List Record) : Type 0 where
  pub legal : IsLegalHere env l
  pub lanes : OpensAre env l
  pub named : NamesAreKnown env l
  pub rests : AllRest env heard opening l
  pub justified : AllJustified env sent l

-- of the records, and of the records with the block in hand
pub record Keeps (env : Env) (heard : List ℕ → Type 0) (opening : ℕ) (sent : List (List ℕ)) (p : Pages Record) : Type 0 where
  pub knows : p.opened ≡ true → KnowsLanes env (reverse p.records)
  pub without : Facts env heard opening sent (reverse p.records)
  pub with : Facts env heard opening sent (reverse (p.records ++ p.block))

-- a journal's pages as the own steps see them
abbrev pub own : Pages Record → Own
own p = record { l = reverse p.records; block = reverse p.block; up = p.opened }

-- whatever was kept before is kept after these own steps, which send nothing
abbrev pub Goes : Env → (List ℕ → Type 0) → Pages Record → Pages Record → Type 0
Goes env heard p q = (opening : ℕ) (sent : List (List ℕ)) → Keeps env heard opening sent p
    → Keeps env heard opening sent q × ((steps : List OwnStep) × OwnSteps env heard (own p) steps (own q) [])
