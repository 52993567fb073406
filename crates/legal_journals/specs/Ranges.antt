-- The ranges of the batches that a front's records name.
use Rattle.std.specs.Prelude.{ℕ, ◌≤◌, List}
use Rattle.dap_bytes.specs.declared.limits.TheConstants.{LATEST_TIME}
use Rattle.dap_bytes.specs.declared.span.Span.{Span}
use Rattle.dap_bytes.specs.Spans.{HasBuckets}
use Rattle.dap_messages.specs.declared.share.ShareReq.{ShareReq}
use Rattle.dap_messages.specs.declared.share.ShareResp.{ShareResp}
use Rattle.lane_records.specs.declared.record.Record.{Record}
use Rattle.lane_records.specs.declared.record.Record.TheVariants.{Ask, HelperAnswer}
use Rattle.legal_journals.specs.History.{Mem}

-- 1 to 64 buckets, from a time on
abbrev pub IsBatch : Span → Type 0
IsBatch s = HasBuckets s × (s.start ≤ LATEST_TIME)

-- each Ask is for a batch
abbrev pub AreAsksBatches : List Record → Type 0
AreAsksBatches records = (n : List ℕ) (s : Span) → Mem (Ask n s) records → IsBatch s

-- each of the helper's Answers is for a batch
abbrev pub AreAnswersBatches : List Record → Type 0
AreAnswersBatches records = (q : ShareReq) (a : ShareResp) → Mem (HelperAnswer q a) records → IsBatch q.span
