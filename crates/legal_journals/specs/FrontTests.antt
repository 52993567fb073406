-- The tests that decide which record may follow which in the journal of a front. Lists of records have the oldest first.
use Rattle.std.specs.Prelude.{ℕ, nat_lt, nat_le, ◌==◌, if◌then◌else◌, Bool, true, false, not, ◌&&◌, List, reverse, Option, Some, None}
use Rattle.std.specs.List.{list_any, list_all}
use Rattle.std.specs.Str.{bytes_eq}
use Rattle.dap_bytes.specs.declared.span.Span.{Span}
use Rattle.dap_bytes.specs.Spans.{passes_start, shares_bucket}
use Rattle.dap_messages.specs.declared.share.ShareReq.{ShareReq}
use Rattle.dap_messages.specs.declared.share.ShareResp.{ShareResp}
use Rattle.dap_messages.specs.declared.reply.Reply.{Reply}
use Rattle.dap_messages.specs.declared.reply.Reply.TheVariants.{Share, Small, Mismatch}
use Rattle.lane_records.specs.declared.format.Format.{Format}
use Rattle.lane_records.specs.Formats.{byte_of_format}
use Rattle.lane_records.specs.declared.record.Record.{Record}
use Rattle.lane_records.specs.declared.record.Record.TheVariants.{LeaderFrontOpen, LeaderTask, Ask, LeaderAnswer, HelperFrontOpen, HelperTask, HelperAnswer}
use Rattle.legal_journals.specs.History.{first, format_in}
use Rattle.legal_journals.specs.HistoryTests.{may_open}

-- this format and no other
abbrev pub is_format : Format → Option Format → Bool
is_format f None = false
is_format f (Some g) = byte_of_format g == byte_of_format f

-- the format of the last Open
abbrev pub is_last_format : Format → List Record → Bool
is_last_format f earlier = is_format f (first format_in (reverse earlier))

-- both are the same batch
abbrev pub same_span : Span → Span → Bool
same_span a b = a.start == b.start && a.buckets == b.buckets

-- the minimum and the precision of the Task of this name
abbrev pub limits_of : List ℕ → Record → Option (ℕ × ℕ)
limits_of n (LeaderTask t) = if bytes_eq t.name n then Some (t.min, t.precision) else None
limits_of n (HelperTask t) = if bytes_eq t.name n then Some (t.min, t.precision) else None
limits_of n _ = None

-- those of the last Task of this name
abbrev pub last_limits : List ℕ → List Record → Option (ℕ × ℕ)
last_limits n earlier = first (limits_of n) (reverse earlier)

-- the batch may be one of a task of this precision
abbrev pub may_be : ℕ → Span → Bool
may_be precision s = nat_lt 0 precision && passes_start s precision

-- ---- the leader's front

-- the leader's Task of this name
abbrev pub stores : List ℕ → Record → Bool
stores n (LeaderTask t) = bytes_eq t.name n
stores n _ = false

-- the Ask of this name and batch
abbrev pub asks : List ℕ → Span → Record → Bool
asks n s (Ask name span) = bytes_eq name n && same_span span s
asks n s _ = false

-- the leader's Answer of this name and batch
abbrev pub leader_answers : List ℕ → Span → Record → Bool
leader_answers n s (LeaderAnswer name span a) = bytes_eq name n && same_span span s
leader_answers n s _ = false

-- the record is no Ask of this name that shares a bucket with the batch
abbrev pub is_clear_ask : List ℕ → Span → ℕ → Record → Bool
is_clear_ask n s precision (Ask name other) = not (bytes_eq name n && shares_bucket s other precision)
is_clear_ask n s precision _ = true

-- by these limits of the task, the Ask may follow
abbrev pub may_ask : List ℕ → Span → List Record → Option (ℕ × ℕ) → Bool
may_ask n s earlier None = false
may_ask n s earlier (Some limits) = may_be limits.1 s && list_all (is_clear_ask n s limits.1) earlier

-- the record may follow in the journal of the leader's front
abbrev pub leader_front_may : Record → List Record → Bool
leader_front_may (LeaderFrontOpen f lanes) earlier = may_open f lanes earlier
leader_front_may (LeaderTask t) earlier = is_last_format t.format earlier && not (list_any (stores t.name) earlier)
leader_front_may (Ask n s) earlier = may_ask n s earlier (last_limits n earlier)
leader_front_may (LeaderAnswer n s a) earlier = list_any (asks n s) earlier && not (list_any (leader_answers n s) earlier)
leader_front_may _ earlier = false

-- ---- the helper's front

-- the answer has a share
abbrev pub is_share : Reply → Bool
is_share (Share share) = true
is_share (Small total) = false
is_share (Mismatch total checksum) = false

-- the record is no helper's Answer of this name that shares a bucket with the batch
abbrev pub is_clear_answer : List ℕ → Span → ℕ → Record → Bool
is_clear_answer n s precision (HelperAnswer q a) = not (bytes_eq q.name n && shares_bucket s q.span precision)
is_clear_answer n s precision _ = true

-- by these limits of the task, the request may be answered
abbrev pub may_share : ShareReq → List Record → Option (ℕ × ℕ) → Bool
may_share q earlier None = false
may_share q earlier (Some limits) =
    nat_le limits.0 q.count && (may_be limits.1 q.span && list_all (is_clear_answer q.name q.span limits.1) earlier)

-- the helper's Answer may follow
abbrev pub may_answer : ShareReq → ShareResp → List Record → Bool
may_answer q a earlier =
    may_share q earlier (last_limits q.name earlier) && bytes_eq a.name q.name && same_span a.span q.span && is_share a.reply

-- the record may follow in the journal of the helper's front
abbrev pub helper_front_may : Record → List Record → Bool
helper_front_may (HelperFrontOpen f lanes) earlier = may_open f lanes earlier
helper_front_may (HelperTask t) earlier = is_last_format t.format earlier
helper_front_may (HelperAnswer q a) earlier = may_answer q a earlier
helper_front_may _ earlier = false
