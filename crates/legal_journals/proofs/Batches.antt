-- Lemmas: the batches that a legal front's records name are within their ranges.
use Rattle.std.proofs.Common.{◌≡◌, ℕ, ◌≤◌, Bool, true, false, cond, List, reverse, Some, None, refl, sym, ◌∙◌, arith}
use Rattle.std.specs.Prelude.{nat_eq, nat_le}
use Rattle.std.proofs.lemmas.Bool.{and_parts, eqb-true, leb-true}
use Rattle.dap_bytes.specs.declared.limits.TheConstants.{LATEST_TIME, MOST_BUCKETS}
use Rattle.dap_bytes.specs.declared.node.Node.TheVariants.{Leader, Helper}
use Rattle.dap_bytes.specs.declared.part.Part.TheVariants.{Front}
use Rattle.dap_bytes.specs.declared.span.Span.{Span}
use Rattle.dap_messages.specs.declared.extent.Extent.{Extent}
use Rattle.dap_messages.specs.declared.extent.Extent.TheVariants.{Single, Several}
use Rattle.dap_messages.specs.declared.share.ShareReq.{ShareReq}
use Rattle.dap_messages.specs.declared.share.ShareResp.{ShareResp}
use Rattle.dap_messages.specs.Grammar.{byte, ◌⊗◌, name, allowed_some, allowed_chosen}
use Rattle.dap_messages.specs.Forms.{any_u32, time, checksum}
use Rattle.dap_messages.specs.Shares.{span_as, extent_of, request_as, share_req, share_resp}
use Rattle.dap_messages.specs.ShareLaws.{request_allowed}
use Rattle.lane_records.specs.declared.record.Record.{Record}
use Rattle.lane_records.specs.declared.record.Record.TheVariants.{Ask, HelperAnswer}
use Rattle.lane_records.specs.Records.{by_extent, record_by, record_}
use Rattle.legal_journals.specs.Legal.{IsLegalJournal}
use Rattle.legal_journals.specs.Ranges.{IsBatch, AreAsksBatches, AreAnswersBatches}
use Rattle.legal_journals.proofs.Members.{Mem-reverse}
use Rattle.legal_journals.proofs.Grown.{legal_allowed}

a_time : (n : ℕ) → time.allowed n ≡ true → n ≤ LATEST_TIME
a_time n a = leb-true n LATEST_TIME (and_parts (nat_le 0 n) (nat_le n LATEST_TIME) a).1

span_range : (e : Extent) (s : Span) → (span_as e).allowed s ≡ true → IsBatch s
span_range Single s a = go (nat_eq s.buckets 1) refl a where
  go : (t : Bool) → nat_eq s.buckets 1 ≡ t → allowed_some time (cond t (Some s.start) None) ≡ true → IsBatch s
  go true is p = let one : s.buckets ≡ 1 = eqb-true s.buckets 1 is in ((omega arith, omega arith), a_time s.start p)
  go false is p = absurd cc
span_range Several s a =
    let parts = and_parts (time.allowed s.start) ((byte 2 MOST_BUCKETS).allowed s.buckets) a in
    let ends = and_parts (nat_le 2 s.buckets) (nat_le s.buckets MOST_BUCKETS) parts.1 in
    let least = leb-true 2 s.buckets ends.0 in
    ((omega arith, leb-true s.buckets MOST_BUCKETS ends.1), a_time s.start parts.0)

pub ask_range : (n : List ℕ) (s : Span) → record_.allowed (Ask n s) ≡ true → IsBatch s
ask_range n s a = span_range (extent_of s) s (go (extent_of s) a) where
  go : (e : Extent) → allowed_chosen (record_by (by_extent 35 37 e)) (Ask n s) ≡ true → (span_as e).allowed s ≡ true
  go Single b = (and_parts (name.allowed n) ((span_as Single).allowed s) b).1
  go Several b = (and_parts (name.allowed n) ((span_as Several).allowed s) b).1

pub answer_range : (q : ShareReq) (r : ShareResp) → record_.allowed (HelperAnswer q r) ≡ true → IsBatch q.span
answer_range q r a =
    let request = (and_parts (share_req.allowed q) (share_resp.allowed r) a).0 in
    let fields : (request_as (extent_of q.span)).allowed q ≡ true = sym (request_allowed q) ∙ request in
    let behind = (and_parts (name.allowed q.name) ((span_as (extent_of q.span) ⊗ any_u32 ⊗ checksum).allowed (q.span, (q.count, q.checksum))) fields).1 in
    span_range (extent_of q.span) q.span (and_parts ((span_as (extent_of q.span)).allowed q.span) ((any_u32 ⊗ checksum).allowed (q.count, q.checksum)) behind).0

pub asks_range : (journal : List Record) → IsLegalJournal Leader Front journal → AreAsksBatches journal
asks_range journal h n s m = ask_range n s (legal_allowed Leader Front (reverse journal) (Ask n s) h (Mem-reverse (Ask n s) journal m))

pub answers_range : (journal : List Record) → IsLegalJournal Helper Front journal → AreAnswersBatches journal
answers_range journal h q r m = answer_range q r (legal_allowed Helper Front (reverse journal) (HelperAnswer q r) h (Mem-reverse (HelperAnswer q r) journal m))
