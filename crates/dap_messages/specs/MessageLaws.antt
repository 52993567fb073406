-- Lemmas: reports and messages keep the laws of grammars.
use Rattle.std.proofs.Common.{◌≡◌, ℕ, ◌-◌, ◌≤◌, true, List, Some, refl, sym, ap, lit≤, arith}
use Rattle.std.specs.Int.{w16}
use Rattle.std.proofs.lemmas.Bool.{leb-true}
use Rattle.std.specs.Prelude.{nat_le}
use Rattle.dap_messages.specs.declared.job.JobNo.{JobNo}
use Rattle.dap_messages.specs.declared.body.TheConstants.{MOST_PUBLIC, MOST_HELPER}
use Rattle.dap_messages.specs.declared.body.Half.{Half}
use Rattle.dap_messages.specs.declared.body.Step.{Step}
use Rattle.dap_messages.specs.declared.body.Status.{Status}
use Rattle.dap_messages.specs.declared.item.Tagged.{Tagged}
use Rattle.dap_messages.specs.declared.extent.Extent.{Extent}
use Rattle.dap_messages.specs.declared.extent.Extent.TheVariants.{Single, Several}
use Rattle.dap_messages.specs.declared.share.ShareReq.{ShareReq}
use Rattle.dap_messages.specs.declared.share.ShareResp.{ShareResp}
use Rattle.dap_messages.specs.declared.report.TheConstants.{MOST_LEADER}
use Rattle.dap_messages.specs.declared.message.TheConstants.{MOST_MESSAGE}
use Rattle.dap_messages.specs.declared.message.Message.{Message}
use Rattle.dap_messages.specs.declared.message.Message.TheVariants as messages
use Rattle.dap_messages.specs.Grammar.{Grammar, number, any_text, ◌⊗◌, fixed, bytes, name, items}
use Rattle.dap_messages.specs.Lawful.{Lawful}
use Rattle.dap_messages.specs.Laws.{cells_lawful, then_lawful, fixed_lawful, shaped_lawful, by_first_lawful, items_lawful, IsChoice, choice, choice_allowed, one_of, none_of, and_parts, some_is}
use Rattle.dap_messages.specs.Forms.{time, identifier, job, half, step, status}
use Rattle.dap_messages.specs.FormLaws.{u16_lawful, time_lawful, bytes_lawful, name_lawful, job_lawful, half_lawful, step_lawful, status_lawful}
use Rattle.dap_messages.specs.Shares.{request_code, request_as, response_code, response_as}
use Rattle.dap_messages.specs.ShareLaws.{request_lawful, request_extent, response_lawful, response_extent}
use Rattle.dap_messages.specs.Messages.{report_fields, report, init_req_of, init_req, init_resp_of, init_resp, cont_req_of, cont_req, cont_resp_of, cont_resp, request_of, request, response_of, response, first_of_message, message_by, message}

-- ---- reports

only_nought : (n : ℕ) → (number w16 0 0).allowed n ≡ true → n ≡ 0
only_nought n a = let most = leb-true n 0 (and_parts (nat_le 0 n) (nat_le n 0) a).1 in omega (arith, most)

shares_lawful : Lawful (bytes MOST_PUBLIC ⊗ bytes MOST_LEADER ⊗ bytes MOST_HELPER)
shares_lawful =
    then_lawful (bytes MOST_PUBLIC) (bytes MOST_LEADER ⊗ bytes MOST_HELPER) (bytes_lawful MOST_PUBLIC (lit≤ tt))
    (then_lawful (bytes MOST_LEADER) (bytes MOST_HELPER) (bytes_lawful MOST_LEADER (lit≤ tt)) (bytes_lawful MOST_HELPER (lit≤ tt)))

fields_lawful : Lawful report_fields
fields_lawful =
    then_lawful name (identifier ⊗ time ⊗ fixed (number w16 0 0) 0 (bytes MOST_PUBLIC ⊗ bytes MOST_LEADER ⊗ bytes MOST_HELPER)) name_lawful
    (then_lawful identifier (time ⊗ fixed (number w16 0 0) 0 (bytes MOST_PUBLIC ⊗ bytes MOST_LEADER ⊗ bytes MOST_HELPER)) (cells_lawful 16 any_text)
    (then_lawful time (fixed (number w16 0 0) 0 (bytes MOST_PUBLIC ⊗ bytes MOST_LEADER ⊗ bytes MOST_HELPER)) time_lawful
    (fixed_lawful (number w16 0 0) 0 (bytes MOST_PUBLIC ⊗ bytes MOST_LEADER ⊗ bytes MOST_HELPER) (u16_lawful 0 0 (lit≤ tt)) shares_lawful refl only_nought)))

pub report_lawful : Lawful report
report_lawful = shaped_lawful _ _ report_fields (λ p. refl) (λ r. refl) fields_lawful

-- ---- messages

init_req_only : (m : Message) (x : JobNo × (List ℕ × List (Tagged Half))) → init_req_of m ≡ Some x → (let p : JobNo × (List ℕ × List (Tagged Half)) = x in messages.InitReq p.0 p.1.0 p.1.1) ≡ m
init_req_only (messages.InitReq j n hs) x e = ap (λ (p : JobNo × (List ℕ × List (Tagged Half))). messages.InitReq p.0 p.1.0 p.1.1) (sym (some_is (j, (n, hs)) x e))
init_req_only _ x e = absurd cc

init_req_choice : IsChoice first_of_message (MOST_MESSAGE - 1) 1 init_req
init_req_choice =
    choice first_of_message (MOST_MESSAGE - 1) 1 (λ p. messages.InitReq p.0 p.1.0 p.1.1) init_req_of (job ⊗ name ⊗ items half) (λ x. refl) init_req_only (λ x. refl)
    (then_lawful job (name ⊗ items half) job_lawful (then_lawful name (items half) name_lawful (items_lawful half half_lawful))) (lit≤ tt)

init_resp_only : (m : Message) (x : JobNo × List (Tagged Step)) → init_resp_of m ≡ Some x → (let p : JobNo × List (Tagged Step) = x in messages.InitResp p.0 p.1) ≡ m
init_resp_only (messages.InitResp j xs) x e = ap (λ (p : JobNo × List (Tagged Step)). messages.InitResp p.0 p.1) (sym (some_is (j, xs) x e))
init_resp_only _ x e = absurd cc

init_resp_choice : IsChoice first_of_message (MOST_MESSAGE - 1) 2 init_resp
init_resp_choice =
    choice first_of_message (MOST_MESSAGE - 1) 2 (λ p. messages.InitResp p.0 p.1) init_resp_of (job ⊗ items step) (λ x. refl) init_resp_only (λ x. refl)
    (then_lawful job (items step) job_lawful (items_lawful step step_lawful)) (lit≤ tt)

cont_req_only : (m : Message) (x : JobNo × List (Tagged Step)) → cont_req_of m ≡ Some x → (let p : JobNo × List (Tagged Step) = x in messages.ContReq p.0 p.1) ≡ m
cont_req_only (messages.ContReq j xs) x e = ap (λ (p : JobNo × List (Tagged Step)). messages.ContReq p.0 p.1) (sym (some_is (j, xs) x e))
cont_req_only _ x e = absurd cc

cont_req_choice : IsChoice first_of_message (MOST_MESSAGE - 1) 3 cont_req
cont_req_choice =
    choice first_of_message (MOST_MESSAGE - 1) 3 (λ p. messages.ContReq p.0 p.1) cont_req_of (job ⊗ items step) (λ x. refl) cont_req_only (λ x. refl)
    (then_lawful job (items step) job_lawful (items_lawful step step_lawful)) (lit≤ tt)

cont_resp_only : (m : Message) (x : JobNo × List (Tagged Status)) → cont_resp_of m ≡ Some x → (let p : JobNo × List (Tagged Status) = x in messages.ContResp p.0 p.1) ≡ m
cont_resp_only (messages.ContResp j xs) x e = ap (λ (p : JobNo × List (Tagged Status)). messages.ContResp p.0 p.1) (sym (some_is (j, xs) x e))
cont_resp_only _ x e = absurd cc

cont_resp_choice : IsChoice first_of_message (MOST_MESSAGE - 1) 4 cont_resp
cont_resp_choice =
    choice first_of_message (MOST_MESSAGE - 1) 4 (λ p. messages.ContResp p.0 p.1) cont_resp_of (job ⊗ items status) (λ x. refl) cont_resp_only (λ x. refl)
    (then_lawful job (items status) job_lawful (items_lawful status status_lawful)) (lit≤ tt)

request_only : (m : Message) (q : ShareReq) → request_of m ≡ Some q → messages.ShareReq q ≡ m
request_only (messages.ShareReq p) q e = ap messages.ShareReq (sym (some_is p q e))
request_only _ q e = absurd cc

request_choice : (extent : Extent) → (request_as extent).most ≤ MOST_MESSAGE - 1 → IsChoice first_of_message (MOST_MESSAGE - 1) (request_code extent) (request extent)
request_choice extent =
    choice_allowed first_of_message (MOST_MESSAGE - 1) (request_code extent) messages.ShareReq request_of (request_as extent) (λ q. refl) request_only
    (request_extent extent) (request_lawful extent)

response_only : (m : Message) (a : ShareResp) → response_of m ≡ Some a → messages.ShareResp a ≡ m
response_only (messages.ShareResp b) a e = ap messages.ShareResp (sym (some_is b a e))
response_only _ a e = absurd cc

response_choice : (extent : Extent) → (response_as extent).most ≤ MOST_MESSAGE - 1 → IsChoice first_of_message (MOST_MESSAGE - 1) (response_code extent) (response extent)
response_choice extent =
    choice_allowed first_of_message (MOST_MESSAGE - 1) (response_code extent) messages.ShareResp response_of (response_as extent) (λ a. refl) response_only
    (response_extent extent) (response_lawful extent)

message_choices : (b : ℕ) (g : Grammar Message) → message_by b ≡ Some g → IsChoice first_of_message (MOST_MESSAGE - 1) b g
message_choices b g =
    one_of first_of_message (MOST_MESSAGE - 1) b 1 init_req _ g init_req_choice
    (one_of first_of_message (MOST_MESSAGE - 1) b 2 init_resp _ g init_resp_choice
    (one_of first_of_message (MOST_MESSAGE - 1) b 3 cont_req _ g cont_req_choice
    (one_of first_of_message (MOST_MESSAGE - 1) b 4 cont_resp _ g cont_resp_choice
    (one_of first_of_message (MOST_MESSAGE - 1) b 5 (request Single) _ g (request_choice Single (lit≤ tt))
    (one_of first_of_message (MOST_MESSAGE - 1) b 6 (response Single) _ g (response_choice Single (lit≤ tt))
    (one_of first_of_message (MOST_MESSAGE - 1) b 7 (request Several) _ g (request_choice Several (lit≤ tt))
    (one_of first_of_message (MOST_MESSAGE - 1) b 8 (response Several) _ g (response_choice Several (lit≤ tt))
    (none_of first_of_message (MOST_MESSAGE - 1) b g))))))))

pub message_lawful : Lawful message
message_lawful = by_first_lawful first_of_message message_by (MOST_MESSAGE - 1) message_choices
