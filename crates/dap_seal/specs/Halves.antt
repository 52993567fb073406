-- What each aggregator's half of a report comes to.
use Rattle.std.specs.Prelude.{◌≡◌, ℕ, List, Option, Some, None}
use Rattle.dap_messages.specs.Forms.{byte_of}
use Rattle.vdaf_api.specs.declared.role.Role.{Role}
use Rattle.vdaf_api.specs.declared.role.Role.TheVariants.{Leader, Helper}
use Rattle.vdaf_api.specs.declared.step.Step.{Step}
use Rattle.vdaf_api.specs.declared.step.Step.TheVariants.{Continued, Failed}
use Rattle.vdaf_api.specs.Functions.{Functions}
use Rattle.vdaf_api.specs.Verdict.{Opened, or_invalid, out_of}
use Rattle.dap_seal.specs.Sealed.{opened_by}
use Rattle.dap_seal.specs.declared.half.SealedHalf.{SealedHalf}
use Rattle.dap_seal.specs.declared.half.Begun.{Begun}
use Rattle.dap_seal.specs.declared.half.Begun.TheVariants as begun

-- what a half opens to, where it is the leader's
abbrev pub for_leader : Role → Option (List ℕ) → Option (List ℕ)
for_leader Leader o = o
for_leader Helper o = None

-- what a half opens to, where it is the helper's
abbrev pub for_helper : Role → Option (List ℕ) → Option (List ℕ)
for_helper Leader o = None
for_helper Helper o = o

-- the report as an aggregator sees it, which opens its own half alone
abbrev pub half_as : Role → SealedHalf → Opened
half_as role h = record {
  key = h.verify.now;
  id = h.head.now.id;
  public = h.head.now.public;
  leader = for_leader role (opened_by h.keys.now role h.head.now h.sealed.now);
  helper = for_helper role (opened_by h.keys.now role h.head.now h.sealed.now);
}

-- what an aggregator's half opens to
abbrev pub opening : Role → Opened → Option (List ℕ)
opening Leader r = r.leader
opening Helper r = r.helper

-- a half's step for what it opens to: its prep share, or the code 4 where it doesn't open, or 5 where it has none
abbrev pub step_with : Functions → Role → Opened → Option (List ℕ) → Step
step_with f role r (Some input) = or_invalid (f.share role r.key r.id r.public input)
step_with f role r None = Failed 4

-- a half that was begun: its state and prep share, or the code with which it failed, after which no message gives it an out share
abbrev pub Begins : {P : Type 0} → (P → List ℕ → Option (List ℕ)) → Functions → Role → Opened → Begun P → Type 0
Begins finish_of f role r (begun.Ready prep share) =
    (step_with f role r (opening role r) ≡ Continued share.items) × ((message : List ℕ) → finish_of prep message ≡ out_of f role r (opening role r) message)
Begins finish_of f role r (begun.Failed code) =
    (step_with f role r (opening role r) ≡ Failed (byte_of code)) × ((message : List ℕ) → out_of f role r (opening role r) message ≡ None)
