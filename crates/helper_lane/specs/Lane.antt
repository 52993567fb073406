-- A helper's lane as its callers see it, and what its type keeps.
use Rattle.std.specs.Prelude.{◌≡◌, ◌⊎◌, ℕ, ◌≤◌, ◌<◌, List, [], ◌++◌, length, map, reverse, Bool, true, false, Option, IsTrue, Contains}
use mathlib.Core.List.{IsPrefix}
use Rattle.dap_bytes.specs.declared.node.Node.TheVariants.{Helper}
use Rattle.dap_bytes.specs.declared.part.Part.TheVariants.{Lane}
use Rattle.vdaf_api.specs.declared.kind.Kind.{Kind}
use Rattle.vdaf_api.specs.Functions.{Functions}
use Rattle.dap_messages.specs.declared.message.Message.{Message}
use Rattle.dap_messages.specs.Messages.{message}
use Rattle.dap_tasks.specs.Task.{PlainTask}
use Rattle.dap_wire.specs.Calls.{SameEnd}
use Rattle.dap_wire.specs.Link.{Link, IsCarried}
use Rattle.lane_records.specs.declared.place.Place.{Place}
use Rattle.lane_records.specs.declared.place.TheConstants.{MOST_LANES}
use Rattle.lane_records.specs.declared.format.Format.TheVariants.{Two}
use Rattle.lane_records.specs.declared.record.Record.{Record}
use Rattle.lane_records.specs.declared.record.Record.TheVariants.{HelperOpen}
use Rattle.legal_journals.specs.Legal.{IsLegalJournal}
use Rattle.lane_records.specs.Records.{record_}
use Rattle.part_journal.specs.Came.{Came}
use Rattle.part_journal.specs.Pages.{Pages, first_pages, reopening, IsBack}
use Rattle.part_journal.specs.Part.{IsOf, PartView, SameOpening}
use Rattle.report_journal.specs.Log.{LogView}
use Rattle.helper_lane.specs.Reply.{Env}
use Rattle.helper_lane.specs.Replies.{IsEnv}
use Rattle.helper_lane.specs.Ready.{Ready}
use Rattle.helper_lane.specs.Refusals.{env_of}
use Rattle.helper_lane.specs.Own.{OwnStep, OwnSteps, OpensAre, NamesAreKnown, Keeps, own, opener_of}

-- Its journal, the known tasks, its place, its end of the link, the messages in hand, the oldest first, whether it takes calls, and whether the call that left it down answered `Stopped`.
pub record HelperView (D T : Type 0) : Type 0 where
  pub part : PartView D Record
  pub tasks : List PlainTask
  pub place : Place
  pub link : Link T
  pub hand : List (List ℕ)
  pub up : Bool
  pub stopped : Bool

-- 1 to `MOST_LANES` lanes, and one of them
pub record IsPlace (place : Place) : Type 0 where
  pub some_lane : 1 ≤ place.lanes
  pub few_lanes : place.lanes ≤ MOST_LANES
  pub own_lane : place.lane < place.lanes

-- a legal journal of the lane, the oldest record first, whose Opens name as many lanes as it has, and whose Starts name its tasks
pub record IsJournalOf (env : Env) (records : List Record) : Type 0 where
  pub legal : IsLegalJournal Helper (Lane env.lane) records
  pub lanes : OpensAre env (reverse records)
  pub named : NamesAreKnown env (reverse records)

-- the journal takes blocks, with none in hand and an Open behind the last restart, and the lane isn't stopped
pub record IsAwake {D : Type 0} (part : PartView D Record) (stopped : Bool) : Type 0 where
  pub up : IsTrue part.up
  pub block : part.pages.block ≡ []
  pub opened : part.pages.opened ≡ true
  pub calm : stopped ≡ false

-- since the opening a restart has failed, or as many stops have come as may come
abbrev pub IsHalted : {D : Type 0} → PartView D Record → Type 0
IsHalted part = IsTrue part.dead ⊎ (part.left ≡ 0)

-- the Open that the lane at this place appends
abbrev pub opener_at : Place → Record
opener_at place = HelperOpen Two place.lanes place.lane

module _ {D : Type 0} where
  -- an opening over these records: an Open stands behind them, and some more where the disk has stopped
  pub record Begins (place : Place) (xs : List Record) (part : PartView D Record) : Type 0 where
    pub opening : part.opening ≡ length xs
    pub back : IsBack (opener_at place) (reopening (opener_at place) (first_pages xs)) part.pages

  -- a refused opening over these records: the log has them and some Opens, and nothing or an Open is in hand
  abbrev pub StaysOf : Place → List Record → LogView D → Type 0
  StaysOf place xs log = (q : Pages Record) × Came (opener_at place) (first_pages xs) q × IsOf record_.spell q log

module _ {D T : Type 0} where
  -- what the lane is made with, where this is each kind's function
  abbrev pub env : (Kind → Functions) → HelperView D T → Env
  env f v = env_of f v.place v.tasks

  -- the lane's records, the newest first
  abbrev pub records : HelperView D T → List Record
  records v = reverse v.part.pages.records

  -- each message in hand was handed on, and is a request that the lane answers
  abbrev pub HandIsReady : (Kind → Functions) → (T → Option (List (List ℕ))) → HelperView D T → Type 0
  HandIsReady f carried v = (b : List ℕ) → Contains v.hand b → IsCarried carried v.link b × Ready (env f v) (records v) b

  -- what its type keeps
  pub record IsHelper (f : Kind → Functions) (carried : T → Option (List (List ℕ))) (v : HelperView D T) : Type 0 where
    pub made : IsEnv (env f v)
    pub opener : v.part.opener ≡ opener_of (env f v)
    pub keeps : Keeps (env f v) (IsCarried carried v.link) v.part.opening v.link.sent v.part.pages
    pub hand : HandIsReady f carried v
    pub awake : IsTrue v.up → IsAwake v.part v.stopped
    pub halted : IsTrue v.stopped → IsHalted v.part

  -- the same lane, of whose link and messages in hand nothing is said
  pub record SameLane (v w : HelperView D T) : Type 0 where
    pub part : w.part ≡ v.part
    pub tasks : w.tasks ≡ v.tasks
    pub place : w.place ≡ v.place
    pub up : w.up ≡ v.up
    pub stopped : w.stopped ≡ v.stopped

  -- own steps, and what they send
  abbrev pub Steps : (Kind → Functions) → (T → Option (List (List ℕ))) → HelperView D T → HelperView D T → Type 0
  Steps f carried v w = (steps : List OwnStep) × (says : List Message) × OwnSteps (env f v) (IsCarried carried w.link) (own v.part.pages) steps (own w.part.pages) says
      × (w.link.sent ≡ v.link.sent ++ map message.spell says)

  -- tasks, place, opening and rings are the same; records, what was sent and what was received have grown at their ends, and no count has fallen
  pub record Grows (downs deads : D → ℕ) (drops : T → ℕ) (v w : HelperView D T) : Type 0 where
    pub tasks : w.tasks ≡ v.tasks
    pub place : w.place ≡ v.place
    pub opening : SameOpening v.part w.part
    pub end : SameEnd v.link w.link
    pub records : IsPrefix v.part.pages.records w.part.pages.records
    pub sent : IsPrefix v.link.sent w.link.sent
    pub received : IsPrefix v.link.received w.link.received
    pub stops : downs v.part.disk ≤ downs w.part.disk
    pub deaths : deads v.part.disk ≤ deads w.part.disk
    pub lost : drops v.link.fates ≤ drops w.link.fates
