-- Reports and messages, as tables of their fields.
use Rattle.std.specs.Prelude.{ℕ, ◌-◌, List, Option, Some, None, ◌==◌, if◌then◌else◌}
use Rattle.std.specs.Int.{w16}
use Rattle.dap_messages.specs.declared.job.JobNo.{JobNo}
use Rattle.dap_messages.specs.declared.body.TheConstants.{MOST_PUBLIC, MOST_HELPER}
use Rattle.dap_messages.specs.declared.body.Half.{Half}
use Rattle.dap_messages.specs.declared.body.Step.{Step}
use Rattle.dap_messages.specs.declared.body.Status.{Status}
use Rattle.dap_messages.specs.declared.item.Tagged.{Tagged}
use Rattle.dap_messages.specs.declared.extent.Extent.{Extent}
use Rattle.dap_messages.specs.declared.extent.Extent.TheVariants.{Single, Several}
use Rattle.dap_messages.specs.declared.share.ShareReq.{ShareReq}
use Rattle.dap_messages.specs.declared.share.ShareResp.{ShareResp}
use Rattle.dap_messages.specs.declared.report.TheConstants.{MOST_LEADER}
use Rattle.dap_messages.specs.declared.report.Report.{Report}
use Rattle.dap_messages.specs.declared.message.TheConstants.{MOST_MESSAGE}
use Rattle.dap_messages.specs.declared.message.Message.{Message}
use Rattle.dap_messages.specs.declared.message.Message.TheVariants as messages
use Rattle.dap_messages.specs.Grammar.{Grammar, number, ◌⊗◌, fixed, shaped, variant, bytes, name, by_first, items}
use Rattle.dap_messages.specs.Forms.{time, identifier, job, half, step, status}
use Rattle.dap_messages.specs.Shares.{first_of_request, first_of_response, request_as, response_as}

-- name, identifier, time, the length 0 of the extensions, public share, the leader's and the helper's sealed shares
abbrev pub report_fields : Grammar (List ℕ × (List ℕ × (ℕ × (List ℕ × (List ℕ × List ℕ)))))
report_fields = name ⊗ identifier ⊗ time ⊗ fixed (number w16 0 0) 0 (bytes MOST_PUBLIC ⊗ bytes MOST_LEADER ⊗ bytes MOST_HELPER)

-- a report
abbrev pub report : Grammar Report
report =
    shaped (λ p. record { name = p.0; id = p.1.0; time = p.1.1.0; public = p.1.1.1.0; leader = p.1.1.1.1.0; helper = p.1.1.1.1.1 })
    (λ r. (r.name, (r.id, (r.time, (r.public, (r.leader, r.helper)))))) report_fields

-- job, name, and what the helper gets of each report
abbrev pub init_req_of : Message → Option (JobNo × (List ℕ × List (Tagged Half)))
init_req_of (messages.InitReq j n hs) = Some (j, (n, hs))
init_req_of (messages.InitResp j xs) = None
init_req_of (messages.ContReq j xs) = None
init_req_of (messages.ContResp j xs) = None
init_req_of (messages.ShareReq q) = None
init_req_of (messages.ShareResp a) = None

-- the leader begins a job
abbrev pub init_req : Grammar Message
init_req = variant (λ p. messages.InitReq p.0 p.1.0 p.1.1) init_req_of (job ⊗ name ⊗ items half)

-- job, and a step for each report
abbrev pub init_resp_of : Message → Option (JobNo × List (Tagged Step))
init_resp_of (messages.InitReq j n hs) = None
init_resp_of (messages.InitResp j xs) = Some (j, xs)
init_resp_of (messages.ContReq j xs) = None
init_resp_of (messages.ContResp j xs) = None
init_resp_of (messages.ShareReq q) = None
init_resp_of (messages.ShareResp a) = None

-- the helper's first steps for a job
abbrev pub init_resp : Grammar Message
init_resp = variant (λ p. messages.InitResp p.0 p.1) init_resp_of (job ⊗ items step)

-- job, and a step for each report
abbrev pub cont_req_of : Message → Option (JobNo × List (Tagged Step))
cont_req_of (messages.InitReq j n hs) = None
cont_req_of (messages.InitResp j xs) = None
cont_req_of (messages.ContReq j xs) = Some (j, xs)
cont_req_of (messages.ContResp j xs) = None
cont_req_of (messages.ShareReq q) = None
cont_req_of (messages.ShareResp a) = None

-- the leader's part of a job
abbrev pub cont_req : Grammar Message
cont_req = variant (λ p. messages.ContReq p.0 p.1) cont_req_of (job ⊗ items step)

-- job, and the outcome of each report
abbrev pub cont_resp_of : Message → Option (JobNo × List (Tagged Status))
cont_resp_of (messages.InitReq j n hs) = None
cont_resp_of (messages.InitResp j xs) = None
cont_resp_of (messages.ContReq j xs) = None
cont_resp_of (messages.ContResp j xs) = Some (j, xs)
cont_resp_of (messages.ShareReq q) = None
cont_resp_of (messages.ShareResp a) = None

-- the outcomes of a job
abbrev pub cont_resp : Grammar Message
cont_resp = variant (λ p. messages.ContResp p.0 p.1) cont_resp_of (job ⊗ items status)

-- the request of a message that is one
abbrev pub request_of : Message → Option ShareReq
request_of (messages.InitReq j n hs) = None
request_of (messages.InitResp j xs) = None
request_of (messages.ContReq j xs) = None
request_of (messages.ContResp j xs) = None
request_of (messages.ShareReq q) = Some q
request_of (messages.ShareResp a) = None

-- the leader asks for the helper's share of a batch
abbrev pub request : Extent → Grammar Message
request extent = variant messages.ShareReq request_of (request_as extent)

-- the answer of a message that is one
abbrev pub response_of : Message → Option ShareResp
response_of (messages.InitReq j n hs) = None
response_of (messages.InitResp j xs) = None
response_of (messages.ContReq j xs) = None
response_of (messages.ContResp j xs) = None
response_of (messages.ShareReq q) = None
response_of (messages.ShareResp a) = Some a

-- the helper's answer for a batch
abbrev pub response : Extent → Grammar Message
response extent = variant messages.ShareResp response_of (response_as extent)

-- the first byte of a message
abbrev pub first_of_message : Message → ℕ
first_of_message (messages.InitReq j n hs) = 1
first_of_message (messages.InitResp j xs) = 2
first_of_message (messages.ContReq j xs) = 3
first_of_message (messages.ContResp j xs) = 4
first_of_message (messages.ShareReq q) = first_of_request q
first_of_message (messages.ShareResp a) = first_of_response a

-- the forms by their first bytes
abbrev pub message_by : ℕ → Option (Grammar Message)
message_by b =
    if b == 1 then Some init_req else
    (if b == 2 then Some init_resp else
    (if b == 3 then Some cont_req else
    (if b == 4 then Some cont_resp else
    (if b == 5 then Some (request Single) else
    (if b == 6 then Some (response Single) else
    (if b == 7 then Some (request Several) else
    (if b == 8 then Some (response Several) else None)))))))

-- a message, of at most so many bytes
abbrev pub message : Grammar Message
message = by_first first_of_message message_by (MOST_MESSAGE - 1)
