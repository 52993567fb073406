-- A leader's lane as its callers see it, what its type keeps, and what its calls do.
use Rattle.std.specs.Prelude.{◌≡◌, ◌⊎◌, ℕ, ◌+◌, ◌-◌, ◌≤◌, ◌<◌, List, [], ◌++◌, length, take, drop, Bool, false, IsTrue, Some}
use Rattle.dap_bytes.specs.Causes.{Rose, RoseBy}
use Rattle.dap_tasks.specs.Task.{PlainTask}
use Rattle.dap_tasks.specs.declared.cause.Answer.{Answer}
use Rattle.dap_wire.specs.Link.{Link}
use Rattle.dap_wire.specs.Uploads.{Taking}
use Rattle.dap_wire.specs.declared.upload.Upload.{Upload}
use Rattle.lane_records.specs.declared.place.Place.{Place}
use Rattle.lane_records.specs.declared.record.Record.{Record}
use Rattle.lane_records.specs.Records.{record_}
use Rattle.legal_journals.specs.History.{Mem}
use Rattle.part_journal.specs.Came.{IsIdle}
use Rattle.part_journal.specs.declared.fault.TheConstants.{MOST_STOPS}
use Rattle.part_journal.specs.Pages.{Pages, first_pages, reopening, IsBack, Opening}
use Rattle.part_journal.specs.Part.{PartView, IsOf}
use Rattle.report_journal.specs.Log.{LogView}
use Rattle.leader_lane.specs.declared.catalog.Catalog.{Catalog}
use Rattle.leader_lane.specs.Book.{BookView, judged_by_block, no_book}
use Rattle.leader_lane.specs.Catalog.{ListsBy}
use Rattle.leader_lane.specs.Judge.{Env, reports_in, closes_in, Judges, SinceStart}
use Rattle.leader_lane.specs.Own.{Steps, own}
use Rattle.leader_lane.specs.Sound.{IsPlace, opener_of, Sound}
use Rattle.leader_lane.specs.declared.pumped.TheConstants.{MOST_IN_HAND}

-- what the log of a refused opening has: the records that it had and the Opens that count, by own steps of the lane, and perhaps an Open in hand
abbrev pub IsHandedBack : {D : Type 0} → Env → List Record → LogView D → Type 0
IsHandedBack env records log =
    (q : Pages Record) × Opening (opener_of env.place) (first_pages records) q × IsOf record_.spell q log
    × Steps env (own (first_pages records)) (own q)

-- A lane: its journal, its uploads in hand and answers, its end of the ring of uploads, its end of the link, its tasks, its place, how many records it had at its start point, which is its opening or its last Close, and whether the call that left it down answered `Stopped`.
pub record LaneView (D T : Type 0) : Type 0 where
  pub part : PartView D Record
  pub book : BookView
  pub front : Taking
  pub link : Link T
  pub tasks : List PlainTask
  pub place : Place
  pub start : ℕ
  pub stopped : Bool

-- each upload that was taken is judged or in hand, and of those that are judged the number at the start point is known, behind which they account for the records and the answers
pub record IsSince (env : Env) (start : ℕ) (records : List Record) (taken : List Upload) (book : BookView) : Type 0 where
  pub judged : List Upload
  pub at_start : ℕ
  pub all_taken : taken ≡ judged ++ book.hand
  pub within : at_start ≤ length judged
  pub since : SinceStart env (reports_in (take start records)) (closes_in (take start records)) records (drop at_start judged) book.answers

-- what the type keeps of the pages and the book together: of the records without the block in hand and with it
pub record Keeps (env : Env) (start : ℕ) (p : Pages Record) (taken : List Upload) (book : BookView) : Type 0 where
  pub opened : Mem (opener_of env.place) p.records
  pub sound : Sound env.place (p.records ++ p.block)
  pub block : Judges env p.records (p.records ++ p.block) (judged_by_block book) book.block_answers
  pub idle : IsIdle (opener_of env.place) p
  pub settled : (b : Bool) → p.fate ≡ Some b → (book.in_block ≡ 0) × (book.block_answers ≡ [])
  pub start_within : start ≤ length p.records
  pub since : IsSince env start p.records taken book

-- What a call did with the uploads: those that it took from the ring, and those that it judged, the first of those in hand, each after those before it; what each was told stands behind the kept answers, and the records only grow.
pub record Turned (env : Env) (p q : Pages Record) (taken took : List Upload) (book new : BookView) : Type 0 where
  pub more : List Upload
  pub us : List Upload
  pub told : List Answer
  pub takes : took ≡ taken ++ more
  pub hand : book.hand ++ more ≡ us ++ new.hand
  pub answers : new.answers ≡ book.answers ++ told
  pub judges : Judges env p.records q.records us told
  pub grows : (xs : List Record) × (q.records ≡ p.records ++ xs)

-- The counts of a disk since an opening at which they stood so: each stop that was used up since has come, and a restart has failed where the journal says so.
pub record CountsSince {D : Type 0} (downs deads : D → ℕ) (stops deaths : ℕ) (p : PartView D Record) : Type 0 where
  pub within : p.left ≤ MOST_STOPS
  pub stops_rose : RoseBy (MOST_STOPS - p.left) stops (downs p.disk)
  pub deaths_rose : IsTrue p.dead → Rose deaths (deads p.disk)
  pub deaths_least : deaths ≤ deads p.disk

module _ {D T : Type 0} where
  -- what it judges by
  abbrev pub env : LaneView D T → Env
  env v = record { tasks = v.tasks; place = v.place }

  -- its durable records
  abbrev pub records : LaneView D T → List Record
  records v = v.part.pages.records

  -- where the call that left it down answered `Stopped`, it is down, and a restart has failed or no stop may come any more
  abbrev pub IsStopped : LaneView D T → Type 0
  IsStopped v = IsTrue v.stopped → (v.part.up ≡ false) × (IsTrue v.part.dead ⊎ (v.part.left ≡ 0))

  -- What the type keeps, with the catalog of its records.
  pub record IsLane (c : Catalog) (v : LaneView D T) : Type 0 where
    pub place : IsPlace v.place
    pub opener : v.part.opener ≡ opener_of v.place
    pub keeps : Keeps (env v) v.start v.part.pages v.front.received v.book
    pub lists : ListsBy (opener_of v.place) c v.part.pages v.part.pages.fate
    pub few : length v.book.hand ≤ MOST_IN_HAND
    pub stopped : IsStopped v

  -- the tasks, the place, the opening, the start point and the rings stay, and nothing is sent or received
  pub record Stays (v w : LaneView D T) : Type 0 where
    pub tasks : w.tasks ≡ v.tasks
    pub place : w.place ≡ v.place
    pub opening : w.part.opening ≡ v.part.opening
    pub start : w.start ≡ v.start
    pub ring : w.front.into ≡ v.front.into
    pub link : w.link ≡ v.link

  -- What each call does that takes or judges uploads or restarts, on every answer: the answers account for the uploads, it is a list of own steps, and the counts of the disk go on from the opening.
  pub record Goes (downs deads : D → ℕ) (v w : LaneView D T) : Type 0 where
    pub turned : Turned (env v) v.part.pages w.part.pages v.front.received w.front.received v.book w.book
    pub steps : Steps (env v) (own v.part.pages) (own w.part.pages)
    pub stays : Stays v w
    pub counted : (stops deaths : ℕ) → CountsSince downs deads stops deaths v.part → CountsSince downs deads stops deaths w.part

  -- A lane that was opened over these records: an Open counts behind them, it has no uploads and no answers, and its start point is the opening.
  pub record IsOpened (records : List Record) (v : LaneView D T) : Type 0 where
    pub up : IsTrue v.part.up
    pub back : IsBack (opener_of v.place) (reopening (opener_of v.place) (first_pages records)) v.part.pages
    pub steps : Steps (env v) (own (first_pages records)) (own v.part.pages)
    pub opening : v.part.opening ≡ length records
    pub start : v.start ≡ length records
    pub book : v.book ≡ no_book
    pub stopped : v.stopped ≡ false

  -- Uploads were taken from the ring behind those in hand, until so many are in hand or the ring as read is empty; none where so many were in hand.
  pub record Fills (most : ℕ) (v w : LaneView D T) : Type 0 where
    pub took : (more : List Upload) × (w.book ≡ record v.book { hand = v.book.hand ++ more }) × (w.front.received ≡ v.front.received ++ more)
    pub rest : drop most w.book.hand ≡ drop most v.book.hand
    pub all : length w.book.hand < most → w.front.waiting ≡ []

  -- the first so many uploads in hand are judged, and each has its answer
  pub record IsJudged (n : ℕ) (v w : LaneView D T) : Type 0 where
    pub up : IsTrue w.part.up
    pub hand : w.book.hand ≡ drop n v.book.hand
    pub told : length w.book.answers ≡ length v.book.answers + n

  -- the lane is back from a stop, with the same uploads in hand and answers
  pub record IsBackWith (v w : LaneView D T) : Type 0 where
    pub up : IsTrue w.part.up
    pub fewer : w.part.left < v.part.left
    pub hand : w.book.hand ≡ v.book.hand
    pub answers : w.book.answers ≡ v.book.answers

  -- A call judged n uploads, where it may judge so many at most: those in hand first. With fewer it has emptied hand and ring.
  pub record Pumps (most n : ℕ) (v w : LaneView D T) : Type 0 where
    pub up : IsTrue w.part.up
    pub within : n ≤ most
    pub told : length w.book.answers ≡ length v.book.answers + n
    pub hand : w.book.hand ≡ drop most v.book.hand
    pub all : n < most → w.front.waiting ≡ []

  -- no upload was in hand and the ring as read is empty, and nothing changed
  pub record FindsNone (v w : LaneView D T) : Type 0 where
    pub hand : v.book.hand ≡ []
    pub ring : w.front.waiting ≡ []
    pub received : w.front.received ≡ v.front.received
    pub part : w.part ≡ v.part
    pub book : w.book ≡ v.book
