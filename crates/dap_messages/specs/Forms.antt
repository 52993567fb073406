-- The forms of reports and messages, as tables of their fields.
use Rattle.std.specs.Prelude.{ℕ, ◌+◌, List, Option, Some, None, ◌==◌, if◌then◌else◌}
use Rattle.std.specs.Int.{w32, w64}
use Rattle.dap_bytes.specs.declared.limits.TheConstants.{LATEST_TIME}
use Rattle.dap_messages.specs.declared.job.JobNo.{JobNo}
use Rattle.dap_messages.specs.declared.code.Code.{Code}
use Rattle.dap_messages.specs.declared.code.Code.TheVariants.{BatchCollected, ReportReplayed, HpkeDecryptError, VdafPrepError}
use Rattle.dap_messages.specs.declared.body.TheConstants.{MOST_PUBLIC, MOST_HELPER, MOST_PREP}
use Rattle.dap_messages.specs.declared.body.Half.{Half}
use Rattle.dap_messages.specs.declared.body.Step.{Step}
use Rattle.dap_messages.specs.declared.body.Step.TheVariants as steps
use Rattle.dap_messages.specs.declared.body.Status.{Status}
use Rattle.dap_messages.specs.declared.body.Status.TheVariants as statuses
use Rattle.dap_messages.specs.declared.reply.TheConstants.{MOST_OUT}
use Rattle.dap_messages.specs.declared.reply.Reply.{Reply}
use Rattle.dap_messages.specs.declared.reply.Reply.TheVariants as replies
use Rattle.dap_messages.specs.Grammar.{Grammar, number, byte, coded, cells, any_text, nothing, ◌⊗◌, shaped, variant, bytes, by_first}

-- ---- fields

-- any byte
abbrev pub any_u8 : Grammar ℕ
any_u8 = byte 0 255

-- any u32
abbrev pub any_u32 : Grammar ℕ
any_u32 = number w32 0 4294967295

-- any u64
abbrev pub any_u64 : Grammar ℕ
any_u64 = number w64 0 18446744073709551615

-- a time, or the start of a batch
abbrev pub time : Grammar ℕ
time = number w64 0 LATEST_TIME

-- an identifier
abbrev pub identifier : Grammar (List ℕ)
identifier = cells 16 any_text

-- a checksum
abbrev pub checksum : Grammar (List ℕ)
checksum = cells 32 any_text

-- a job's lane, incarnation and counter
abbrev pub job : Grammar JobNo
job = shaped (λ p. record { lane = p.0; incarnation = p.1.0; counter = p.1.1 }) (λ j. (j.lane, (j.incarnation, j.counter)))
    (any_u8 ⊗ any_u64 ⊗ any_u64)

-- the code of a byte
abbrev pub code_of : ℕ → Option Code
code_of b =
    if b == 0 then Some BatchCollected else
    (if b == 1 then Some ReportReplayed else
    (if b == 4 then Some HpkeDecryptError else
    (if b == 5 then Some VdafPrepError else None)))

-- the byte of a code
abbrev pub byte_of : Code → ℕ
byte_of BatchCollected = 0
byte_of ReportReplayed = 1
byte_of HpkeDecryptError = 4
byte_of VdafPrepError = 5

-- a code, in one byte
abbrev pub code : Grammar Code
code = coded code_of byte_of

-- ---- what items say of a report

-- time, public share, the helper's sealed share
abbrev pub half : Grammar Half
half = shaped (λ p. record { time = p.0; public = p.1.0; helper = p.1.1 }) (λ h. (h.time, (h.public, h.helper)))
    (time ⊗ bytes MOST_PUBLIC ⊗ bytes MOST_HELPER)

-- what a step that goes on holds
abbrev pub continued_of : Step → Option (List ℕ)
continued_of (steps.Continued prep) = Some prep
continued_of (steps.Failed c) = None

-- the code of a failed step
abbrev pub failed_of : Step → Option Code
failed_of (steps.Continued prep) = None
failed_of (steps.Failed c) = Some c

-- the first byte of a step
abbrev pub first_of_step : Step → ℕ
first_of_step (steps.Continued prep) = 0
first_of_step (steps.Failed c) = 2

-- 00 and a prep share or message, or 02 and a code
abbrev pub step_by : ℕ → Option (Grammar Step)
step_by b =
    if b == 0 then Some (variant steps.Continued continued_of (bytes MOST_PREP)) else
    (if b == 2 then Some (variant steps.Failed failed_of code) else None)

-- a step by its first byte
abbrev pub step : Grammar Step
step = by_first first_of_step step_by (4 + MOST_PREP)

-- that a status is finished
abbrev pub finished_of : Status → Option (Unit {0})
finished_of statuses.Finished = Some tt
finished_of (statuses.Failed c) = None

-- the code of a failed status
abbrev pub unfinished_of : Status → Option Code
unfinished_of statuses.Finished = None
unfinished_of (statuses.Failed c) = Some c

-- the first byte of a status
abbrev pub first_of_status : Status → ℕ
first_of_status statuses.Finished = 1
first_of_status (statuses.Failed c) = 2

-- 01, or 02 and a code
abbrev pub status_by : ℕ → Option (Grammar Status)
status_by b =
    if b == 1 then Some (variant (λ _. statuses.Finished) finished_of nothing) else
    (if b == 2 then Some (variant statuses.Failed unfinished_of code) else None)

-- a status by its first byte
abbrev pub status : Grammar Status
status = by_first first_of_status status_by 1

-- ---- what the helper answers for a batch

-- the share of an answer that has one
abbrev pub share_of : Reply → Option (List ℕ)
share_of (replies.Share share) = Some share
share_of (replies.Small total) = None
share_of (replies.Mismatch total check) = None

-- the total of an answer that says that there are too few reports
abbrev pub total_of : Reply → Option ℕ
total_of (replies.Share share) = None
total_of (replies.Small total) = Some total
total_of (replies.Mismatch total check) = None

-- the total and the checksum of an answer that says that they are others
abbrev pub mismatch_of : Reply → Option (ℕ × List ℕ)
mismatch_of (replies.Share share) = None
mismatch_of (replies.Small total) = None
mismatch_of (replies.Mismatch total check) = Some (total, check)

-- the first byte of an answer
abbrev pub first_of_reply : Reply → ℕ
first_of_reply (replies.Share share) = 0
first_of_reply (replies.Small total) = 1
first_of_reply (replies.Mismatch total check) = 2

-- 00 and a share, 01 and a total, or 02, a total and a checksum
abbrev pub reply_by : ℕ → Option (Grammar Reply)
reply_by b =
    if b == 0 then Some (variant replies.Share share_of (bytes MOST_OUT)) else
    (if b == 1 then Some (variant replies.Small total_of any_u32) else
    (if b == 2 then Some (variant (λ p. replies.Mismatch p.0 p.1) mismatch_of (any_u32 ⊗ checksum)) else None))

-- an answer by its first byte
abbrev pub reply : Grammar Reply
reply = by_first first_of_reply reply_by (4 + MOST_OUT)
