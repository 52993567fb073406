-- What holds of every reply.
use Rattle.std.specs.Prelude.{◌≡◌, ℕ, ◌≤◌, ◌<◌, IsTrue, List, ◌∷◌, Option, Some, None}
use Rattle.std.specs.List.{All, find}
use Rattle.dap_bytes.specs.declared.node.Node.TheVariants.{Helper}
use Rattle.dap_bytes.specs.declared.part.Part.TheVariants.{Lane}
use Rattle.vdaf_api.specs.declared.kind.Kind.{Kind}
use Rattle.vdaf_api.specs.Kind.{IsKind}
use Rattle.vdaf_api.specs.Promises.{FunctionLaws}
use Rattle.dap_tasks.specs.Task.{PlainTask, has_name}
use Rattle.dap_messages.specs.declared.message.Message.{Message}
use Rattle.dap_messages.specs.Messages.{message}
use Rattle.lane_records.specs.declared.place.TheConstants.{MOST_LANES}
use Rattle.lane_records.specs.declared.record.Record.{Record}
use Rattle.legal_journals.specs.History.{Mem, lanes_in}
use Rattle.legal_journals.specs.Legal.{May, IsLegal}
use Rattle.helper_lane.specs.Reply.{Env, Reacts, reply, quiet}

-- the functions keep their laws, and the tasks are of kinds
pub record IsEnv (env : Env) : Type 0 where
  pub laws : (k : Kind) → IsKind k → FunctionLaws (env.functions k)
  pub kinds : (n : List ℕ) (t : PlainTask) → find (has_name n) env.tasks ≡ Some t → IsKind t.kind
  pub some_lane : 1 ≤ env.lanes
  pub few_lanes : env.lanes ≤ MOST_LANES
  pub own_lane : env.lane < env.lanes

-- an Open names the lanes
abbrev pub KnowsLanes : Env → List Record → Type 0
KnowsLanes env l = (x : Record) × Mem x l × (lanes_in x ≡ Some env.lanes)

-- each number is a byte
abbrev pub AreBytes : List ℕ → Type 0
AreBytes b = All (λ c. c < 256) b

-- the records are legal in the lane's journal
abbrev pub IsLegalHere : Env → List Record → Type 0
IsLegalHere env l = IsLegal Helper (Lane env.lane) l

-- a record that a reply asks for may follow
abbrev pub RecordsAreAllowed : Env → Type 0
RecordsAreAllowed env = (l : List Record) (b : List ℕ) (x : Record) (m : Message) → AreBytes b → IsLegalHere env l → KnowsLanes env l
    → reply env l b ≡ Reacts (Some x) m → May Helper (Lane env.lane) x l

-- a reply has a spelling
abbrev pub RepliesAreSpelled : Env → Type 0
RepliesAreSpelled env = (l : List Record) (b : List ℕ) (o : Option Record) (m : Message) → AreBytes b → IsLegalHere env l
    → reply env l b ≡ Reacts o m → IsTrue (message.allowed m)

-- the message once more, behind the record that it asked for, gets the same reply and asks for none
abbrev pub RepeatsGetTheReply : Env → Type 0
RepeatsGetTheReply env = (l : List Record) (b : List ℕ) (x : Record) (m : Message) → reply env l b ≡ Reacts (Some x) m → reply env (x ∷ l) b ≡ Reacts None m

-- Opens change no reply
abbrev pub OpensChangeNothing : Env → Type 0
OpensChangeNothing env = (l : List Record) (b : List ℕ) → reply env (quiet l) b ≡ reply env l b
