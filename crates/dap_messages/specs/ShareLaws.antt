-- Lemmas: requests and answers for a batch keep the laws of grammars, and are messages' as they stand.
use Rattle.std.proofs.Common.{◌≡◌, ℕ, ◌≤◌, Bool, true, false, cond, ◌∷◌, Some, None, refl, sym, ap, ◌∙◌, arith, lit≤}
use Rattle.std.specs.Prelude.{nat_eq, nat_le}
use Rattle.std.proofs.lemmas.Bool.{eqb-true, leb-true, ne_eqb}
use Rattle.dap_bytes.specs.declared.limits.TheConstants.{MOST_BUCKETS}
use Rattle.dap_bytes.specs.declared.span.Span.{Span}
use Rattle.dap_bytes.specs.Spans.{one_bucket}
use Rattle.dap_messages.specs.declared.extent.Extent.{Extent}
use Rattle.dap_messages.specs.declared.extent.Extent.TheVariants.{Single, Several}
use Rattle.dap_messages.specs.declared.share.ShareReq.{ShareReq}
use Rattle.dap_messages.specs.declared.share.ShareResp.{ShareResp}
use Rattle.dap_messages.specs.declared.message.Message.TheVariants as messages
use Rattle.dap_messages.specs.Grammar.{Grammar, byte, any_text, ◌⊗◌, name, allowed_some, spell_chosen, allowed_chosen}
use Rattle.dap_messages.specs.Lawful.{Lawful}
use Rattle.dap_messages.specs.Laws.{byte_lawful, cells_lawful, then_lawful, shaped_lawful, variant_lawful, by_first_lawful, IsChoice, one_of, none_of, and_parts, some_is}
use Rattle.dap_messages.specs.Forms.{any_u32, time, checksum, reply}
use Rattle.dap_messages.specs.FormLaws.{any_u32_lawful, time_lawful, name_lawful, reply_lawful}
use Rattle.dap_messages.specs.Shares.{single_start, span_as, extent_of, request_code, request_as, first_of_request, request_by, share_req, response_code, response_as, first_of_response, response_by, share_resp}
use Rattle.dap_messages.specs.Messages.{message, message_by}

-- ---- batches

single_only : (s : Span) (x : ℕ) → single_start s ≡ Some x → one_bucket x ≡ s
single_only s x e = go (nat_eq s.buckets 1) refl e where
  go : (t : Bool) → nat_eq s.buckets 1 ≡ t → cond t (Some s.start) None ≡ Some x → one_bucket x ≡ s
  go true is p =
      let spanning : ℕ → ℕ → Span = λ start buckets. record { start = start; buckets = buckets } in
      ap (λ n. spanning n 1) (sym (some_is s.start x p)) ∙ ap (spanning s.start) (sym (eqb-true s.buckets 1 is))
  go false is p = absurd cc

pub span_lawful : (extent : Extent) → Lawful (span_as extent)
span_lawful Single = variant_lawful one_bucket single_start time (λ x. refl) single_only time_lawful
span_lawful Several =
    shaped_lawful _ _ (time ⊗ byte 2 MOST_BUCKETS) (λ p. refl) (λ s. refl) (then_lawful time (byte 2 MOST_BUCKETS) time_lawful (byte_lawful 2 MOST_BUCKETS))

-- a batch that a form allows has the form's extent
pub span_extent : (extent : Extent) (s : Span) → (span_as extent).allowed s ≡ true → extent_of s ≡ extent
span_extent Single s a = go (nat_eq s.buckets 1) a where
  go : (t : Bool) → allowed_some time (cond t (Some s.start) None) ≡ true → cond t Single Several ≡ Single
  go true p = refl
  go false p = absurd cc
span_extent Several s a =
    let buckets = (and_parts (time.allowed s.start) ((byte 2 MOST_BUCKETS).allowed s.buckets) a).1 in
    let least = leb-true 2 s.buckets (and_parts (nat_le 2 s.buckets) (nat_le s.buckets MOST_BUCKETS) buckets).0 in
    ap (λ t. cond t Single Several) (ne_eqb s.buckets 1 (λ one. absurd (omega (arith, one, least))))

-- ---- the leader asks for the helper's share

pub request_lawful : (extent : Extent) → Lawful (request_as extent)
request_lawful extent =
    shaped_lawful _ _ (name ⊗ span_as extent ⊗ any_u32 ⊗ checksum) (λ p. refl) (λ q. refl)
    (then_lawful name (span_as extent ⊗ any_u32 ⊗ checksum) name_lawful
    (then_lawful (span_as extent) (any_u32 ⊗ checksum) (span_lawful extent) (then_lawful any_u32 checksum any_u32_lawful (cells_lawful 32 any_text))))

pub request_extent : (extent : Extent) (q : ShareReq) → (request_as extent).allowed q ≡ true → first_of_request q ≡ request_code extent
request_extent extent q a =
    let behind = (and_parts (name.allowed q.name) ((span_as extent ⊗ any_u32 ⊗ checksum).allowed (q.span, (q.count, q.checksum))) a).1 in
    ap request_code (span_extent extent q.span (and_parts ((span_as extent).allowed q.span) ((any_u32 ⊗ checksum).allowed (q.count, q.checksum)) behind).0)

request_choice : (extent : Extent) → (request_as extent).most ≤ (request_as Several).most
    → IsChoice first_of_request (request_as Several).most (request_code extent) (request_as extent)
request_choice extent within = record { lawful = request_lawful extent; stands = request_extent extent; within = within }

request_choices : (b : ℕ) (g : Grammar ShareReq) → request_by b ≡ Some g → IsChoice first_of_request (request_as Several).most b g
request_choices b g =
    one_of first_of_request (request_as Several).most b 5 (request_as Single) _ g (request_choice Single (lit≤ tt))
    (one_of first_of_request (request_as Several).most b 7 (request_as Several) _ g (request_choice Several (lit≤ tt))
    (none_of first_of_request (request_as Several).most b g))

pub share_req_lawful : Lawful share_req
share_req_lawful = by_first_lawful first_of_request request_by (request_as Several).most request_choices

-- the spelling by the extent of the form
pub request_spelled : (q : ShareReq) → share_req.spell q ≡ request_code (extent_of q.span) ∷ (request_as (extent_of q.span)).spell q
request_spelled q = go (extent_of q.span) where
  go : (e : Extent) → request_code e ∷ spell_chosen (request_by (request_code e)) q ≡ request_code e ∷ (request_as e).spell q
  go Single = refl
  go Several = refl

pub request_allowed : (q : ShareReq) → share_req.allowed q ≡ (request_as (extent_of q.span)).allowed q
request_allowed q = go (extent_of q.span) where
  go : (e : Extent) → allowed_chosen (request_by (request_code e)) q ≡ (request_as e).allowed q
  go Single = refl
  go Several = refl

-- ---- the helper answers

pub response_lawful : (extent : Extent) → Lawful (response_as extent)
response_lawful extent =
    shaped_lawful _ _ (name ⊗ span_as extent ⊗ reply) (λ p. refl) (λ a. refl)
    (then_lawful name (span_as extent ⊗ reply) name_lawful (then_lawful (span_as extent) reply (span_lawful extent) reply_lawful))

pub response_extent : (extent : Extent) (a : ShareResp) → (response_as extent).allowed a ≡ true → first_of_response a ≡ response_code extent
response_extent extent a h =
    let behind = (and_parts (name.allowed a.name) ((span_as extent ⊗ reply).allowed (a.span, a.reply)) h).1 in
    ap response_code (span_extent extent a.span (and_parts ((span_as extent).allowed a.span) (reply.allowed a.reply) behind).0)

response_choice : (extent : Extent) → (response_as extent).most ≤ (response_as Several).most
    → IsChoice first_of_response (response_as Several).most (response_code extent) (response_as extent)
response_choice extent within = record { lawful = response_lawful extent; stands = response_extent extent; within = within }

response_choices : (b : ℕ) (g : Grammar ShareResp) → response_by b ≡ Some g → IsChoice first_of_response (response_as Several).most b g
response_choices b g =
    one_of first_of_response (response_as Several).most b 6 (response_as Single) _ g (response_choice Single (lit≤ tt))
    (one_of first_of_response (response_as Several).most b 8 (response_as Several) _ g (response_choice Several (lit≤ tt))
    (none_of first_of_response (response_as Several).most b g))

pub share_resp_lawful : Lawful share_resp
share_resp_lawful = by_first_lawful first_of_response response_by (response_as Several).most response_choices

pub response_spelled : (a : ShareResp) → share_resp.spell a ≡ response_code (extent_of a.span) ∷ (response_as (extent_of a.span)).spell a
response_spelled a = go (extent_of a.span) where
  go : (e : Extent) → response_code e ∷ spell_chosen (response_by (response_code e)) a ≡ response_code e ∷ (response_as e).spell a
  go Single = refl
  go Several = refl

pub response_allowed : (a : ShareResp) → share_resp.allowed a ≡ (response_as (extent_of a.span)).allowed a
response_allowed a = go (extent_of a.span) where
  go : (e : Extent) → allowed_chosen (response_by (response_code e)) a ≡ (response_as e).allowed a
  go Single = refl
  go Several = refl

-- ---- as messages

pub message_spells_request : (q : ShareReq) → message.spell (messages.ShareReq q) ≡ share_req.spell q
message_spells_request q = go (extent_of q.span) where
  go : (e : Extent) → request_code e ∷ spell_chosen (message_by (request_code e)) (messages.ShareReq q) ≡ request_code e ∷ spell_chosen (request_by (request_code e)) q
  go Single = refl
  go Several = refl

pub message_allows_request : (q : ShareReq) → message.allowed (messages.ShareReq q) ≡ share_req.allowed q
message_allows_request q = go (extent_of q.span) where
  go : (e : Extent) → allowed_chosen (message_by (request_code e)) (messages.ShareReq q) ≡ allowed_chosen (request_by (request_code e)) q
  go Single = refl
  go Several = refl

pub message_spells_response : (a : ShareResp) → message.spell (messages.ShareResp a) ≡ share_resp.spell a
message_spells_response a = go (extent_of a.span) where
  go : (e : Extent) → response_code e ∷ spell_chosen (message_by (response_code e)) (messages.ShareResp a) ≡ response_code e ∷ spell_chosen (response_by (response_code e)) a
  go Single = refl
  go Several = refl

pub message_allows_response : (a : ShareResp) → message.allowed (messages.ShareResp a) ≡ share_resp.allowed a
message_allows_response a = go (extent_of a.span) where
  go : (e : Extent) → allowed_chosen (message_by (response_code e)) (messages.ShareResp a) ≡ allowed_chosen (response_by (response_code e)) a
  go Single = refl
  go Several = refl
