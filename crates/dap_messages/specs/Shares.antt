-- Requests and answers for a batch, as tables of their fields.
use Rattle.std.specs.Prelude.{ℕ, Option, Some, None, ◌==◌, nat_eq, if◌then◌else◌}
use Rattle.dap_bytes.specs.declared.limits.TheConstants.{MOST_BUCKETS}
use Rattle.dap_bytes.specs.declared.span.Span.{Span}
use Rattle.dap_bytes.specs.Spans.{one_bucket}
use Rattle.dap_messages.specs.declared.share.ShareReq.{ShareReq}
use Rattle.dap_messages.specs.declared.share.ShareResp.{ShareResp}
use Rattle.dap_messages.specs.declared.extent.Extent.{Extent}
use Rattle.dap_messages.specs.declared.extent.Extent.TheVariants.{Single, Several}
use Rattle.dap_messages.specs.Grammar.{Grammar, byte, ◌⊗◌, shaped, variant, name, by_first}
use Rattle.dap_messages.specs.Forms.{any_u32, time, checksum, reply}

-- ---- batches

-- the start of a batch of one bucket
abbrev pub single_start : Span → Option ℕ
single_start span = if nat_eq span.buckets 1 then Some span.start else None

-- a batch of one bucket is its start
abbrev pub single_span : Grammar Span
single_span = variant one_bucket single_start time

-- any other is its start and a number of buckets from 2 on
abbrev pub several_span : Grammar Span
several_span = shaped (λ p. record { start = p.0; buckets = p.1 }) (λ s. (s.start, s.buckets)) (time ⊗ byte 2 MOST_BUCKETS)

-- a batch by the extent of its form
abbrev pub span_as : Extent → Grammar Span
span_as Single = single_span
span_as Several = several_span

-- the extent of the form that a batch has
abbrev pub extent_of : Span → Extent
extent_of span = if nat_eq span.buckets 1 then Single else Several

-- ---- the leader asks for the helper's share

-- the first byte of a request
abbrev pub request_code : Extent → ℕ
request_code Single = 5
request_code Several = 7

-- behind it: name, batch, count and checksum
abbrev pub request_as : Extent → Grammar ShareReq
request_as extent =
    shaped (λ p. record { name = p.0; span = p.1.0; count = p.1.1.0; checksum = p.1.1.1 }) (λ q. (q.name, (q.span, (q.count, q.checksum))))
    (name ⊗ span_as extent ⊗ any_u32 ⊗ checksum)

-- the first byte of the form that a request has
abbrev pub first_of_request : ShareReq → ℕ
first_of_request q = request_code (extent_of q.span)

-- 05 and a batch of one bucket, or 07 and another
abbrev pub request_by : ℕ → Option (Grammar ShareReq)
request_by b =
    if b == 5 then Some (request_as Single) else
    (if b == 7 then Some (request_as Several) else None)

-- a request by its first byte
abbrev pub share_req : Grammar ShareReq
share_req = by_first first_of_request request_by (request_as Several).most

-- ---- the helper answers

-- the first byte of an answer
abbrev pub response_code : Extent → ℕ
response_code Single = 6
response_code Several = 8

-- behind it: name, batch and the answer
abbrev pub response_as : Extent → Grammar ShareResp
response_as extent =
    shaped (λ p. record { name = p.0; span = p.1.0; reply = p.1.1 }) (λ a. (a.name, (a.span, a.reply))) (name ⊗ span_as extent ⊗ reply)

-- the first byte of the form that an answer has
abbrev pub first_of_response : ShareResp → ℕ
first_of_response a = response_code (extent_of a.span)

-- 06 and a batch of one bucket, or 08 and another
abbrev pub response_by : ℕ → Option (Grammar ShareResp)
response_by b =
    if b == 6 then Some (response_as Single) else
    (if b == 8 then Some (response_as Several) else None)

-- an answer by its first byte
abbrev pub share_resp : Grammar ShareResp
share_resp = by_first first_of_response response_by (response_as Several).most
