-- What the calls of preparing see and answer.
use Rattle.std.specs.Prelude.{◌≡◌, ℕ, List, [], length, Option, Some, None, Result, Ok, Err, Vec}
use Rattle.std.specs.Str.{bytes_eq}
use Rattle.std.specs.declared.alloc.Global.{Global}
use Rattle.vdaf_api.specs.declared.fault.PrepFault.{PrepFault}
use Rattle.vdaf_api.specs.declared.fault.PrepFault.TheVariants.{Invalid, NoMemory}
use Rattle.vdaf_api.specs.Vectors.{when}
use Rattle.flp_circuits.specs.Shape.{Shape}
use Rattle.flp_proof.specs.Proof.{proof_len}
use Rattle.prio3_share.specs.Sharing.{joint_bytes}
use Rattle.prio3_share.specs.Preparing.{Half, Started}
use Rattle.prio3_prep.specs.declared.half.InputHalf.{InputHalf}
use Rattle.prio3_prep.specs.declared.state.State.{State}

-- the bytes that are there, or none
abbrev pub bytes_in : Option (List ℕ) → List ℕ
bytes_in (Some bytes) = bytes
bytes_in None = []

-- what a half holds
abbrev pub half_in : {F : Type 0} → InputHalf F → Half F
half_in h = record { x = h.x.items; proof = h.proof.items; blind = bytes_in h.blind }

-- how long the contents of a half are
pub record Sizes {F : Type 0} (c : Shape F) (h : Half F) : Type 0 where
  pub x : length h.x ≡ c.input_len
  pub proof : length h.proof ≡ proof_len c
  pub blind : length h.blind ≡ joint_bytes c 16

-- a state and its prep share
abbrev pub start_in : State × Vec ℕ Global → Started
start_in p = record { share = p.1.items; out = p.0.out.items; message = bytes_in p.0.joint_seed }

-- the out share of a state, where the message is the one that it waits for
abbrev pub state_finish : State → List ℕ → Option (List ℕ)
state_finish s message = when (bytes_eq message (bytes_in s.joint_seed)) (Some s.out.items)

-- Invalid exactly where there is no value; nothing is said where memory ran out
abbrev pub Faults : {B : Type 0} → PrepFault → Option B → Type 0
Faults Invalid o = o ≡ None
Faults NoMemory o = Unit {0}

-- the value, seen by f; or its fault
abbrev pub Begins : {A B : Type 0} → (A → B) → Result A PrepFault → Option B → Type 0
Begins f (Ok a) o = o ≡ Some (f a)
Begins f (Err fault) o = Faults fault o
