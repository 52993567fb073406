-- Agreement of all journals of both nodes. Lists of records have the newest first.
use Rattle.std.specs.Prelude.{◌≡◌, ℕ, zero, suc, ◌+◌, ◌<◌, ◌≤◌, List, [], ◌∷◌, ◌++◌, length, map, reverse, if◌then◌else◌, Option, Some, None}
use Rattle.std.specs.List.{filter_map}
use Rattle.std.specs.Str.{bytes_eq}
use Rattle.vdaf_api.specs.Functions.{Functions}
use Rattle.vdaf_api.specs.Totals.{total}
use Rattle.vdaf_api.specs.Vectors.{IsOut}
use Rattle.vdaf_api.specs.declared.keys.SealKeys.{SealKeys}
use Rattle.vdaf_api.specs.declared.kind.Kind.{Kind}
use Rattle.dap_batch.specs.Checksum.{xor_bytes, no_checksum}
use Rattle.dap_bytes.specs.declared.node.Node.TheVariants.{Leader, Helper}
use Rattle.dap_bytes.specs.declared.part.Part.TheVariants.{Lane, Front}
use Rattle.dap_bytes.specs.Spans.{buckets_of}
use Rattle.dap_messages.specs.declared.reply.Reply.TheVariants.{Share}
use Rattle.dap_messages.specs.declared.share.ShareReq.{ShareReq}
use Rattle.dap_messages.specs.declared.share.ShareResp.{ShareResp}
use Rattle.dap_tasks.specs.Task.{PlainTask}
use Rattle.lane_records.specs.declared.batch.Answered.{Answered}
use Rattle.lane_records.specs.declared.closed.Closed.{Closed}
use Rattle.lane_records.specs.declared.format.Format.{Format}
use Rattle.lane_records.specs.declared.record.Record.{Record}
use Rattle.lane_records.specs.declared.record.Record.TheVariants.{LeaderTask, Ask, LeaderAnswer, HelperAnswer, LeaderClose, HelperClose}
use Rattle.lane_records.specs.declared.stored.StoredTask.{StoredTask}
use Rattle.lane_records.specs.Records.{leader_task_of}
use Rattle.legal_journals.specs.History.{Mem, first, lanes_in}
use Rattle.legal_journals.specs.Legal.{IsLegal}
use Rattle.legal_journals.specs.LegalFronts.{last_task}
use Rattle.legal_journals.specs.Told.{leader_told, finished_ids}
use Rattle.dap_agree.specs.Agree.{Batch, Fronts, LanesAgree}
use Rattle.dap_agree.specs.Lists.{total_by}

-- the journals of all parts of both nodes
pub record Journals : Type 0 where
  pub lanes : ℕ
  pub leaders : ℕ → List Record
  pub helpers : ℕ → List Record
  pub front : List Record
  pub helper_front : List Record

-- empty ones
abbrev pub fresh : ℕ → Journals
fresh lanes = record { lanes = lanes; leaders = λ k. []; helpers = λ k. []; front = []; helper_front = [] }

-- ---- whole tasks

-- the task, where it has the name
abbrev pub stored_as : List ℕ → Option StoredTask → Option StoredTask
stored_as n None = None
stored_as n (Some t) = if bytes_eq t.name n then Some t else None

-- the task of this name that the leader's front stored
abbrev pub stored_task : List ℕ → List Record → Option StoredTask
stored_task n front = first (λ x. stored_as n (leader_task_of x)) front

-- the leader's record of a task and the helper's, joined: all of the leader's, with the helper's keys beside its own
abbrev pub whole : StoredTask → StoredTask → PlainTask
whole a b = record {
  name = a.name;
  kind = a.kind;
  min = a.min;
  precision = a.precision;
  expires = a.expires;
  verify = a.verify;
  leader = a.keys;
  helper = b.keys;
}

-- a task as a node's front stores it in a format, with that node's keys
abbrev pub stored_with : Format → SealKeys → PlainTask → StoredTask
stored_with f keys t = record {
  format = f;
  name = t.name;
  kind = t.kind;
  min = t.min;
  precision = t.precision;
  expires = t.expires;
  verify = t.verify;
  keys = keys;
}

-- the whole task, where both are there
abbrev pub joined : Option StoredTask → Option StoredTask → Option PlainTask
joined None b = None
joined (Some a) None = None
joined (Some a) (Some b) = Some (whole a b)

-- the public fields are the same
pub record SamePublic (a b : StoredTask) : Type 0 where
  pub kind : a.kind ≡ b.kind
  pub min : a.min ≡ b.min
  pub precision : a.precision ≡ b.precision
  pub verify : a.verify ≡ b.verify
  pub expires : a.expires ≡ b.expires

-- ---- batches

-- the batch that a record asks for
abbrev pub asked_of : Record → Option Batch
asked_of (Ask n s) = Some (record { name = n; span = s })
asked_of _ = None

-- the batches asked for
abbrev pub asks_of : List Record → List Batch
asks_of front = filter_map asked_of front

-- what the fronts hold: of each name the leader's Task, joined with the helper's last one
abbrev pub fronts_of : List Record → List Record → Fronts
fronts_of front helper_front = record { task = λ n. joined (stored_task n front) (last_task n helper_front); asked = asks_of front }

-- what the fronts of these journals hold
abbrev pub held : Journals → Fronts
held js = fronts_of js.front js.helper_front

-- a bucket in a lane
pub record Cell : Type 0 where
  pub lane : ℕ
  pub start : ℕ

-- these buckets in a lane
abbrev pub row : ℕ → List ℕ → List Cell
row k starts = map (λ s. record { lane = k; start = s }) starts

-- these buckets in the first lanes
abbrev pub cells_to : ℕ → List ℕ → List Cell
cells_to zero starts = []
cells_to (suc k) starts = row k starts ++ cells_to k starts

-- the buckets of a batch in all lanes
abbrev pub cells_of : Journals → PlainTask → Batch → List Cell
cells_of js t b = cells_to js.lanes (buckets_of b.span t.precision)

-- the leader's lanes have the Close of each bucket
abbrev pub LeaderClosed : Journals → List ℕ → List Cell → (Cell → Closed) → Type 0
LeaderClosed js n cs c = (x : Cell) → Mem x cs → Mem (LeaderClose n x.start (c x)) (js.leaders x.lane)

-- and so have the helper's
abbrev pub HelperClosed : Journals → List ℕ → List Cell → (Cell → Closed) → Type 0
HelperClosed js n cs c = (x : Cell) → Mem x cs → Mem (HelperClose n x.start (c x)) (js.helpers x.lane)

-- how many reports these Closes count
abbrev pub count_sum : List Cell → (Cell → Closed) → ℕ
count_sum cs c = total_by (λ a b. a + b) 0 (λ x. (c x).count) cs

-- how many rejected ones
abbrev pub rejected_sum : List Cell → (Cell → Closed) → ℕ
rejected_sum cs c = total_by (λ a b. a + b) 0 (λ x. (c x).rejected) cs

-- the exclusive or of their checksums
abbrev pub checksum_sum : List Cell → (Cell → Closed) → List ℕ
checksum_sum cs c = total_by xor_bytes no_checksum (λ x. (c x).checksum) cs

-- the sum of their shares
abbrev pub share_sum : (Kind → Functions) → PlainTask → List Cell → (Cell → Closed) → List ℕ
share_sum f t cs c = total (f t.kind).space (map (λ x. (c x).share) cs)

-- how many reports a leader's lane finished of a bucket
abbrev pub finished_count : PlainTask → List ℕ → ℕ → List Record → ℕ
finished_count t n s l = length (finished_ids (leader_told t.precision n s l))

-- and all of them of these buckets
abbrev pub finished_in_all : Journals → PlainTask → List ℕ → List Cell → ℕ
finished_in_all js t n cs = total_by (λ a b. a + b) 0 (λ (x : Cell). finished_count t n x.start (js.leaders x.lane)) cs

-- the helper's front answered for the batch with these numbers
abbrev pub HasAnswered : Batch → ℕ → List ℕ → List ℕ → List Record → Type 0
HasAnswered b count checksum share helper_front =
    (q : ShareReq) × (a : ShareResp) × Mem (HelperAnswer q a) helper_front
    × (q.name ≡ b.name) × (q.span ≡ b.span) × (q.count ≡ count) × (q.checksum ≡ checksum) × (a.reply ≡ Share share)

-- ---- the rows

-- a leader's Task: the helper's last Task of the name has the same public fields
abbrev pub TaskFits : Journals → StoredTask → Type 0
TaskFits js t = (u : StoredTask) × (last_task t.name js.helper_front ≡ Some u) × SamePublic t u

-- an Ask: the leader's lanes finished at least the minimum of reports over its batch's buckets
abbrev pub AskFits : Journals → Batch → Type 0
AskFits js b = (t : PlainTask) × ((held js).task b.name ≡ Some t) × (t.min ≤ finished_in_all js t b.name (cells_of js t b))

-- a leader's Answer: the fields are the sums of the leader's Closes, and the helper's Answer has these counts and the helper's share
abbrev pub LeaderAnswerFits : (Kind → Functions) → Journals → Batch → Answered → Type 0
LeaderAnswerFits f js b a =
    (t : PlainTask) × ((held js).task b.name ≡ Some t)
    × ((c : Cell → Closed) × LeaderClosed js b.name (cells_of js t b) c
    × (a.count ≡ count_sum (cells_of js t b) c) × (a.rejected ≡ rejected_sum (cells_of js t b) c)
    × (a.leader ≡ share_sum f t (cells_of js t b) c) × IsOut (f t.kind).space a.leader
    × HasAnswered b a.count (checksum_sum (cells_of js t b) c) a.helper js.helper_front)

-- a helper's Answer: count and checksum are the sums of both nodes' Closes, and the share is the sum of the helper's
abbrev pub HelperAnswerFits : (Kind → Functions) → Journals → Batch → ShareReq → ShareResp → Type 0
HelperAnswerFits f js b q a =
    (t : PlainTask) × ((held js).task b.name ≡ Some t)
    × ((c : Cell → Closed) × LeaderClosed js b.name (cells_of js t b) c
    × (q.count ≡ count_sum (cells_of js t b) c) × (q.checksum ≡ checksum_sum (cells_of js t b) c))
    × ((c : Cell → Closed) × HelperClosed js b.name (cells_of js t b) c
    × (q.count ≡ count_sum (cells_of js t b) c) × (q.checksum ≡ checksum_sum (cells_of js t b) c)
    × (a.reply ≡ Share (share_sum f t (cells_of js t b) c)) × IsOut (f t.kind).space (share_sum f t (cells_of js t b) c))

-- the counterpart of a record of the leader's front
abbrev pub FrontFits : (Kind → Functions) → Journals → Record → Type 0
FrontFits f js (LeaderTask t) = TaskFits js t
FrontFits f js (Ask n s) = AskFits js (record { name = n; span = s })
FrontFits f js (LeaderAnswer n s a) = LeaderAnswerFits f js (record { name = n; span = s }) a
FrontFits f js _ = Unit {0}

-- the counterpart of a record of the helper's front
abbrev pub HelperFrontFits : (Kind → Functions) → Journals → Record → Type 0
HelperFrontFits f js (HelperAnswer q a) = HelperAnswerFits f js (record { name = q.name; span = q.span }) q a
HelperFrontFits f js _ = Unit {0}

-- ---- all journals

-- each record of each journal has its counterpart
pub record AllAgree (f : Kind → Functions) (js : Journals) : Type 0 where
  pub lanes : (k : ℕ) → k < js.lanes → LanesAgree f (held js) (js.leaders k) (js.helpers k)
  pub front : (x : Record) → Mem x js.front → FrontFits f js x
  pub helper_front : (x : Record) → Mem x js.helper_front → HelperFrontFits f js x

-- each journal is legal, and the Opens of the leader's lanes name this number of lanes
pub record AllLegal (js : Journals) : Type 0 where
  pub leaders : (k : ℕ) → k < js.lanes → IsLegal Leader (Lane k) (js.leaders k)
  pub helpers : (k : ℕ) → k < js.lanes → IsLegal Helper (Lane k) (js.helpers k)
  pub front : IsLegal Leader Front js.front
  pub helper_front : IsLegal Helper Front js.helper_front
  pub opened : (k : ℕ) → k < js.lanes → (x : Record) (n : ℕ) → Mem x (js.leaders k) → lanes_in x ≡ Some n → n ≡ js.lanes
