-- The records of journals, as a table of their fields.
use Rattle.std.specs.Prelude.{ℕ, ◌-◌, List, Option, Some, None, ◌==◌, if◌then◌else◌}
use Rattle.dap_messages.specs.declared.job.JobNo.{JobNo}
use Rattle.dap_messages.specs.declared.body.Half.{Half}
use Rattle.dap_messages.specs.declared.body.Step.{Step}
use Rattle.dap_messages.specs.declared.item.Tagged.{Tagged}
use Rattle.dap_messages.specs.declared.report.Report.{Report}
use Rattle.dap_messages.specs.Grammar.{Grammar, byte, ◌⊗◌, fixed, variant, name, by_first, items}
use Rattle.dap_messages.specs.Forms.{any_u8, time, job, half, step}
use Rattle.dap_bytes.specs.declared.span.Span.{Span}
use Rattle.dap_messages.specs.declared.extent.Extent.{Extent}
use Rattle.dap_messages.specs.declared.extent.Extent.TheVariants.{Single, Several}
use Rattle.dap_messages.specs.declared.share.ShareReq.{ShareReq}
use Rattle.dap_messages.specs.declared.share.ShareResp.{ShareResp}
use Rattle.dap_messages.specs.Messages.{report}
use Rattle.dap_messages.specs.Shares.{span_as, extent_of, share_req, share_resp}
use Rattle.lane_records.specs.declared.laws.TheConstants.{MOST_RECORD}
use Rattle.lane_records.specs.declared.outcome.Outcome.{Outcome}
use Rattle.lane_records.specs.declared.closed.Closed.{Closed}
use Rattle.lane_records.specs.declared.stored.StoredTask.{StoredTask}
use Rattle.lane_records.specs.declared.batch.Answered.{Answered}
use Rattle.lane_records.specs.declared.record.Record.{Record}
use Rattle.lane_records.specs.declared.record.Record.TheVariants.{LeaderOpen, Accept, Continue, Finish, LeaderClose, HelperOpen, Start, Commit, HelperClose, LeaderFrontOpen, LeaderTask, Ask, LeaderAnswer, HelperFrontOpen, HelperTask, HelperAnswer}
use Rattle.lane_records.specs.Batch.{answered}
use Rattle.lane_records.specs.declared.format.Format.{Format}
use Rattle.lane_records.specs.declared.format.Format.TheVariants.{One, Two}
use Rattle.lane_records.specs.Formats.{by_format, format}
use Rattle.lane_records.specs.Stored.{outcome, closed, stored}

-- ---- fields

-- the format, the number of lanes, the lane
abbrev pub lane_open : Grammar (Format × (ℕ × ℕ))
lane_open = format ⊗ any_u8 ⊗ any_u8

-- the format, the number of lanes
abbrev pub front_open : Grammar (Format × ℕ)
front_open = format ⊗ any_u8

-- a name, and the bytes of a ContReq
abbrev pub continue_fields : Grammar (List ℕ × (JobNo × List (Tagged Step)))
continue_fields = name ⊗ fixed (byte 3 3) 3 (job ⊗ items step)

-- the bytes of an InitReq
abbrev pub start_fields : Grammar (JobNo × (List ℕ × List (Tagged Half)))
start_fields = fixed (byte 1 1) 1 (job ⊗ name ⊗ items half)

-- a job, and each report's outcome
abbrev pub outcomes : Grammar (JobNo × List (Tagged Outcome))
outcomes = job ⊗ items outcome

-- a name and the start of a bucket
abbrev pub bucket : Grammar (List ℕ × ℕ)
bucket = name ⊗ time

-- a bucket, and what a lane had of it
abbrev pub close_fields : Grammar (List ℕ × (ℕ × Closed))
close_fields = name ⊗ time ⊗ closed

-- a name and a batch of the extent
abbrev pub ask_fields : Extent → Grammar (List ℕ × Span)
ask_fields extent = name ⊗ span_as extent

-- a name and a batch of the extent, and what was answered for it
abbrev pub answer_fields : Extent → Grammar (List ℕ × (Span × Answered))
answer_fields extent = name ⊗ span_as extent ⊗ answered

-- the bytes of a ShareReq, and those of a ShareResp
abbrev pub exchange : Grammar (ShareReq × ShareResp)
exchange = share_req ⊗ share_resp

-- the first for a batch of one bucket, the second for any other
abbrev pub by_extent : {A : Type 0} → A → A → Extent → A
by_extent single several Single = single
by_extent single several Several = several

-- ---- records

-- the format, the number of lanes and the lane of a leader lane's Open
abbrev pub leader_open_of : Record → Option (Format × (ℕ × ℕ))
leader_open_of (LeaderOpen f lanes lane) = Some (f, (lanes, lane))
leader_open_of _ = None

-- a leader lane's Open
abbrev pub leader_open : Grammar Record
leader_open = variant (λ p. LeaderOpen p.0 p.1.0 p.1.1) leader_open_of lane_open

-- the report of an Accept
abbrev pub accept_of : Record → Option Report
accept_of (Accept r) = Some r
accept_of _ = None

-- an Accept
abbrev pub accept : Grammar Record
accept = variant Accept accept_of report

-- name, job and steps of a Continue
abbrev pub continue_of : Record → Option (List ℕ × (JobNo × List (Tagged Step)))
continue_of (Continue n j xs) = Some (n, (j, xs))
continue_of _ = None

-- a Continue
abbrev pub continue_ : Grammar Record
continue_ = variant (λ p. Continue p.0 p.1.0 p.1.1) continue_of continue_fields

-- job and outcomes of a Finish
abbrev pub finish_of : Record → Option (JobNo × List (Tagged Outcome))
finish_of (Finish j outs) = Some (j, outs)
finish_of _ = None

-- a Finish
abbrev pub finish : Grammar Record
finish = variant (λ p. Finish p.0 p.1) finish_of outcomes

-- name, start and numbers of a leader lane's Close
abbrev pub leader_close_of : Record → Option (List ℕ × (ℕ × Closed))
leader_close_of (LeaderClose n s c) = Some (n, (s, c))
leader_close_of _ = None

-- a leader lane's Close
abbrev pub leader_close : Grammar Record
leader_close = variant (λ p. LeaderClose p.0 p.1.0 p.1.1) leader_close_of close_fields

-- the format, the number of lanes and the lane of a helper lane's Open
abbrev pub helper_open_of : Record → Option (Format × (ℕ × ℕ))
helper_open_of (HelperOpen f lanes lane) = Some (f, (lanes, lane))
helper_open_of _ = None

-- a helper lane's Open
abbrev pub helper_open : Grammar Record
helper_open = variant (λ p. HelperOpen p.0 p.1.0 p.1.1) helper_open_of lane_open

-- job, name and halves of a Start
abbrev pub start_of : Record → Option (JobNo × (List ℕ × List (Tagged Half)))
start_of (Start j n hs) = Some (j, (n, hs))
start_of _ = None

-- a Start
abbrev pub start : Grammar Record
start = variant (λ p. Start p.0 p.1.0 p.1.1) start_of start_fields

-- job and outcomes of a Commit
abbrev pub commit_of : Record → Option (JobNo × List (Tagged Outcome))
commit_of (Commit j outs) = Some (j, outs)
commit_of _ = None

-- a Commit
abbrev pub commit : Grammar Record
commit = variant (λ p. Commit p.0 p.1) commit_of outcomes

-- name, start and numbers of a helper lane's Close
abbrev pub helper_close_of : Record → Option (List ℕ × (ℕ × Closed))
helper_close_of (HelperClose n s c) = Some (n, (s, c))
helper_close_of _ = None

-- a helper lane's Close
abbrev pub helper_close : Grammar Record
helper_close = variant (λ p. HelperClose p.0 p.1.0 p.1.1) helper_close_of close_fields

-- the format and the number of lanes of the leader's front's Open
abbrev pub leader_front_open_of : Record → Option (Format × ℕ)
leader_front_open_of (LeaderFrontOpen f lanes) = Some (f, lanes)
leader_front_open_of _ = None

-- the Open of the leader's front
abbrev pub leader_front_open : Grammar Record
leader_front_open = variant (λ p. LeaderFrontOpen p.0 p.1) leader_front_open_of front_open

-- the task of the leader's Task
abbrev pub leader_task_of : Record → Option StoredTask
leader_task_of (LeaderTask t) = Some t
leader_task_of _ = None

-- the leader's Task in a format
abbrev pub leader_task : Format → Grammar Record
leader_task f = variant LeaderTask leader_task_of (stored f)

-- name and batch of an Ask
abbrev pub ask_of : Record → Option (List ℕ × Span)
ask_of (Ask n s) = Some (n, s)
ask_of _ = None

-- an Ask for a batch of the extent
abbrev pub ask : Extent → Grammar Record
ask extent = variant (λ p. Ask p.0 p.1) ask_of (ask_fields extent)

-- name, batch and answer of the leader's Answer
abbrev pub leader_answer_of : Record → Option (List ℕ × (Span × Answered))
leader_answer_of (LeaderAnswer n s a) = Some (n, (s, a))
leader_answer_of _ = None

-- the leader's Answer for a batch of the extent
abbrev pub leader_answer : Extent → Grammar Record
leader_answer extent = variant (λ p. LeaderAnswer p.0 p.1.0 p.1.1) leader_answer_of (answer_fields extent)

-- the format and the number of lanes of the helper's front's Open
abbrev pub helper_front_open_of : Record → Option (Format × ℕ)
helper_front_open_of (HelperFrontOpen f lanes) = Some (f, lanes)
helper_front_open_of _ = None

-- the Open of the helper's front
abbrev pub helper_front_open : Grammar Record
helper_front_open = variant (λ p. HelperFrontOpen p.0 p.1) helper_front_open_of front_open

-- the task of the helper's Task
abbrev pub helper_task_of : Record → Option StoredTask
helper_task_of (HelperTask t) = Some t
helper_task_of _ = None

-- the helper's Task in a format
abbrev pub helper_task : Format → Grammar Record
helper_task f = variant HelperTask helper_task_of (stored f)

-- request and response of the helper's Answer
abbrev pub helper_answer_of : Record → Option (ShareReq × ShareResp)
helper_answer_of (HelperAnswer q a) = Some (q, a)
helper_answer_of _ = None

-- the helper's Answer
abbrev pub helper_answer : Grammar Record
helper_answer = variant (λ p. HelperAnswer p.0 p.1) helper_answer_of exchange

-- the first byte of a record
abbrev pub first_of_record : Record → ℕ
first_of_record (LeaderOpen f lanes lane) = 1
first_of_record (Accept r) = 2
first_of_record (Continue n j xs) = 3
first_of_record (Finish j outs) = 4
first_of_record (LeaderClose n s c) = 5
first_of_record (HelperOpen f lanes lane) = 17
first_of_record (Start j n hs) = 18
first_of_record (Commit j outs) = 19
first_of_record (HelperClose n s c) = 20
first_of_record (LeaderFrontOpen f lanes) = 33
first_of_record (LeaderTask t) = by_format 34 39 t.format
first_of_record (Ask n s) = by_extent 35 37 (extent_of s)
first_of_record (LeaderAnswer n s a) = by_extent 36 38 (extent_of s)
first_of_record (HelperFrontOpen f lanes) = 49
first_of_record (HelperTask t) = by_format 50 55 t.format
first_of_record (HelperAnswer q a) = 52

-- the records by their first bytes
abbrev pub record_by : ℕ → Option (Grammar Record)
record_by b =
    if b == 1 then Some leader_open else
    (if b == 2 then Some accept else
    (if b == 3 then Some continue_ else
    (if b == 4 then Some finish else
    (if b == 5 then Some leader_close else
    (if b == 17 then Some helper_open else
    (if b == 18 then Some start else
    (if b == 19 then Some commit else
    (if b == 20 then Some helper_close else
    (if b == 33 then Some leader_front_open else
    (if b == 34 then Some (leader_task One) else
    (if b == 39 then Some (leader_task Two) else
    (if b == 35 then Some (ask Single) else
    (if b == 36 then Some (leader_answer Single) else
    (if b == 37 then Some (ask Several) else
    (if b == 38 then Some (leader_answer Several) else
    (if b == 49 then Some helper_front_open else
    (if b == 50 then Some (helper_task One) else
    (if b == 55 then Some (helper_task Two) else
    (if b == 52 then Some helper_answer else None)))))))))))))))))))

-- a record has at most 4,098,102 bytes
abbrev pub record_ : Grammar Record
record_ = by_first first_of_record record_by (MOST_RECORD - 1)
