-- Halves of reports, step by step.
use Rattle.std.proofs.Common.{◌≡◌, ℕ, List, Option, Some, None, Err, Vec, refl, sym, ap, ◌∙◌}
use Rattle.std.specs.declared.alloc.Global.{Global}
use Rattle.dap_messages.specs.declared.body.Step.{Step}
use Rattle.dap_messages.specs.declared.body.Step.TheVariants.{Continued, Failed}
use Rattle.dap_messages.specs.declared.code.Code.{Code}
use Rattle.dap_messages.specs.declared.code.Code.TheVariants.{BatchCollected, ReportReplayed, HpkeDecryptError, VdafPrepError}
use Rattle.dap_messages.specs.Forms.{byte_of}
use Rattle.dap_messages.specs.declared.report.Report.{Report}
use Rattle.dap_tasks.specs.Task.{PlainTask}
use Rattle.vdaf_api.specs.declared.role.Role.{Role}
use Rattle.vdaf_api.specs.declared.role.Role.TheVariants.{Leader, Helper}
use Rattle.vdaf_api.specs.declared.step.Step as prepared
use Rattle.vdaf_api.specs.declared.step.Step.TheVariants as prep
use Rattle.vdaf_api.specs.Functions.{Functions}
use Rattle.vdaf_api.specs.Verdict.{Opened, or_invalid, out_of, leader_part, helper_out, helper_share, helper_step}
use Rattle.dap_seal.specs.declared.half.SealedHalf.{SealedHalf}
use Rattle.dap_seal.specs.declared.half.Begun.TheVariants as begun
use Rattle.dap_seal.specs.Halves.{Begins, half_as, opening, step_with}
use Rattle.dap_seal.specs.Reports.{head_of, helper_seen, leader_seen, opened_report}
use Rattle.dap_seal.specs.Sealed.{opened_by}
use Rattle.dap_seal.specs.Steps.{code_told, step_told, message_with, item_from, share_from, or_zero, or_code, outcome_with, outcome_from}

-- ---- one half, alone and in the whole report

-- the helper's step
pub step-helper : (f : Functions) (r : Opened) (o : Option (List ℕ)) → step_with f Helper r o ≡ helper_share f r o
step-helper f r (Some input) = refl
step-helper f r None = refl

-- a leader's half that failed has its code
pub failed_part : (f : Functions) (r : Opened) (o : Option (List ℕ)) (theirs : List ℕ) (code : ℕ) → step_with f Leader r o ≡ prep.Failed code → leader_part f r o theirs ≡ prep.Failed code
failed_part f r None theirs code e = e
failed_part f r (Some input) theirs code e = go (f.share Leader r.key r.id r.public input) refl
  where
    go : (o : Option (List ℕ)) → f.share Leader r.key r.id r.public input ≡ o → leader_part f r (Some input) theirs ≡ prep.Failed code
    go None is = rw is (sym (ap or_invalid is) ∙ e)
    go (Some ours) is = absurd (let k : prep.Continued ours ≡ prep.Failed code = sym (ap or_invalid is) ∙ e in cc)

-- the prep message of a leader's half, from its prep share and the out shares of its state
pub ready_part : (f : Functions) (r : Opened) (o : Option (List ℕ)) (finish : List ℕ → Option (List ℕ)) (ours theirs : List ℕ) → step_with f Leader r o ≡ prep.Continued ours
    → ((message : List ℕ) → finish message ≡ out_of f Leader r o message) → leader_part f r o theirs ≡ or_invalid (message_with f finish ours theirs)
ready_part f r None finish ours theirs e same = absurd cc
ready_part f r (Some input) finish ours theirs e same = go (f.share Leader r.key r.id r.public input) refl
  where
    combined : (o : Option (List ℕ)) → f.combine ours theirs ≡ o → (out : List ℕ → Option (List ℕ)) → ((message : List ℕ) → finish message ≡ out message)
        → message_with f out ours theirs ≡ message_with f finish ours theirs
    combined None is out h = rw is refl
    combined (Some message) is out h = rw (is, h message) refl

    go : (o : Option (List ℕ)) → f.share Leader r.key r.id r.public input ≡ o → leader_part f r (Some input) theirs ≡ or_invalid (message_with f finish ours theirs)
    go None is = absurd (let k : prep.Failed 5 ≡ prep.Continued ours = sym (ap or_invalid is) ∙ e in cc)
    go (Some mine) is =
        let k : prep.Continued mine ≡ prep.Continued ours = sym (ap or_invalid is) ∙ e in
        let own : mine ≡ ours = cc in
        rw (is, own) (ap or_invalid (combined (f.combine ours theirs) refl (λ m. f.out Leader r.key r.id r.public input m) same))

-- what an aggregator sees of a report
abbrev pub seen : Role → PlainTask → Report → Opened
seen Leader t r = leader_seen t (head_of r) r.leader
seen Helper t r = helper_seen t (head_of r) r.helper

-- a half's steps in the whole report
pub seen-helper : (f : Functions) (t : PlainTask) (r : Report) (o : Option (List ℕ)) → step_with f Helper (seen Helper t r) o ≡ helper_share f (opened_report t r) o
seen-helper f t r (Some input) = refl
seen-helper f t r None = refl

pub seen-leader : (f : Functions) (t : PlainTask) (r : Report) (o : Option (List ℕ)) (theirs : List ℕ) → leader_part f (seen Leader t r) o theirs ≡ leader_part f (opened_report t r) o theirs
seen-leader f t r (Some input) theirs = refl
seen-leader f t r None theirs = refl

pub seen-out : (f : Functions) (role : Role) (t : PlainTask) (r : Report) (o : Option (List ℕ)) (message : List ℕ) → out_of f role (seen role t r) o message ≡ out_of f role (opened_report t r) o message
seen-out f Leader t r (Some input) message = refl
seen-out f Leader t r None message = refl
seen-out f Helper t r (Some input) message = refl
seen-out f Helper t r None message = refl

-- ---- halves that are opened

-- a half as it opens
pub opening_half : (role : Role) (h : SealedHalf) → opening role (half_as role h) ≡ opened_by h.keys.now role h.head.now h.sealed.now
opening_half Leader h = refl
opening_half Helper h = refl

-- ---- halves that were begun

-- a half that doesn't open
pub closed : {P : Type 0} (finish_of : P → List ℕ → Option (List ℕ)) (f : Functions) (role : Role) (r : Opened) → opening role r ≡ None
    → Begins finish_of f role r (begun.Failed HpkeDecryptError)
closed finish_of f role r h = (rw h refl, λ m. rw h refl)

-- a half without a prep share
pub unprepared : {P : Type 0} (finish_of : P → List ℕ → Option (List ℕ)) (f : Functions) (role : Role) (r : Opened) (input : List ℕ) → opening role r ≡ Some input
    → f.share role r.key r.id r.public input ≡ None → ((message : List ℕ) → f.out role r.key r.id r.public input message ≡ None)
    → Begins finish_of f role r (begun.Failed VdafPrepError)
unprepared finish_of f role r input h share out = (rw (h, share) refl, λ m. rw h (out m))

-- a half with a prep share
pub ready : {P : Type 0} (finish_of : P → List ℕ → Option (List ℕ)) (f : Functions) (role : Role) (r : Opened) (input : List ℕ) (prep : P) (own : Vec ℕ Global) → opening role r ≡ Some input
    → f.share role r.key r.id r.public input ≡ Some own.items → ((message : List ℕ) → finish_of prep message ≡ f.out role r.key r.id r.public input message)
    → Begins finish_of f role r (begun.Ready prep own)
ready finish_of f role r input prep own h share out = (rw (h, share) refl, λ m. rw h (out m))

-- ---- what follows from them

-- a code is told by its number
pub code_told-byte_of : (code : Code) → code_told (byte_of code) ≡ code
code_told-byte_of BatchCollected = refl
code_told-byte_of ReportReplayed = refl
code_told-byte_of HpkeDecryptError = refl
code_told-byte_of VdafPrepError = refl

-- the helper's step is that of its half
pub helper_step_begun : (f : Functions) (r : Opened) (s : prepared.Step) → step_with f Helper r r.helper ≡ s → helper_step f r ≡ s
helper_step_begun f r s e = sym (step-helper f r r.helper) ∙ e

-- the leader's item where its half failed
pub failed_item : (f : Functions) (r : Opened) (theirs : List ℕ) (code : Code) → step_with f Leader r r.leader ≡ prep.Failed (byte_of code)
    → item_from f r (Continued theirs) ≡ Failed code
failed_item f r theirs code e = ap step_told (failed_part f r r.leader theirs (byte_of code) e) ∙ ap Failed (code_told-byte_of code)

-- and where it was begun
pub ready_item : (f : Functions) (r : Opened) (finish : List ℕ → Option (List ℕ)) (ours theirs : List ℕ) → step_with f Leader r r.leader ≡ prep.Continued ours
    → ((message : List ℕ) → finish message ≡ out_of f Leader r r.leader message)
    → item_from f r (Continued theirs) ≡ step_told (or_invalid (message_with f finish ours theirs))
ready_item f r finish ours theirs e same = ap step_told (ready_part f r r.leader finish ours theirs e same)

-- what the leader's item comes to where the helper's half failed
pub outcome_failed : (f : Functions) (r : Opened) (item : Step) (code : Code) → step_with f Helper r r.helper ≡ prep.Failed (byte_of code) → outcome_from f r item ≡ Err code
outcome_failed f r item code e =
    let step : step_told (helper_step f r) ≡ Failed code = ap step_told (helper_step_begun f r (prep.Failed (byte_of code)) e) ∙ ap Failed (code_told-byte_of code) in
    ap (λ (s : Step). outcome_with f r s item) step

-- where the item failed
pub outcome_barred : (f : Functions) (r : Opened) (share : List ℕ) (code : Code) → step_with f Helper r r.helper ≡ prep.Continued share → outcome_from f r (Failed code) ≡ Err code
outcome_barred f r share code e = ap (λ (s : prepared.Step). outcome_with f r (step_told s) (Failed code)) (helper_step_begun f r (prep.Continued share) e)

-- and where neither did
pub outcome_finished : (f : Functions) (r : Opened) (share message : List ℕ) (out : Option (List ℕ)) → step_with f Helper r r.helper ≡ prep.Continued share
    → out ≡ helper_out f r message → outcome_from f r (Continued message) ≡ or_code out
outcome_finished f r share message out e same =
    ap (λ (s : prepared.Step). outcome_with f r (step_told s) (Continued message)) (helper_step_begun f r (prep.Continued share) e) ∙ ap or_code (sym same)

-- ---- the leader's half in the whole report

pub item_seen : (f : Functions) (t : PlainTask) (r : Report) (step : Step) → item_from f (leader_seen t (head_of r) r.leader) step ≡ item_from f (opened_report t r) step
item_seen f t r (Continued theirs) = ap step_told (seen-leader f t r (opened_report t r).leader theirs)
item_seen f t r (Failed code) = refl

pub share_seen : (f : Functions) (t : PlainTask) (r : Report) (item : Step) → share_from f (leader_seen t (head_of r) r.leader) item ≡ share_from f (opened_report t r) item
share_seen f t r (Continued message) = ap (or_zero f) (seen-out f Leader t r (opened_report t r).leader message)
share_seen f t r (Failed code) = refl
