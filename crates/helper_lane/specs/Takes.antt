-- What taking a message answers, and what it leaves in hand.
use Rattle.std.specs.Prelude.{◌≡◌, ℕ, List, [], ◌∷◌, ◌++◌, Some, None, Result, Ok, Err}
use Rattle.std.specs.declared.alloc.AllocError.{AllocError}
use Rattle.dap_wire.specs.declared.recv.Recv.{Recv}
use Rattle.dap_wire.specs.declared.recv.Recv.TheVariants as recvs
use Rattle.lane_records.specs.declared.place.LaneFault.TheVariants as faults
use Rattle.lane_records.specs.declared.record.Record.{Record}
use Rattle.helper_lane.specs.declared.refusal.TakeFault.{TakeFault}
use Rattle.helper_lane.specs.declared.refusal.TakeFault.TheVariants as takes
use Rattle.helper_lane.specs.declared.taken.Taken.{Taken}
use Rattle.helper_lane.specs.declared.taken.Taken.TheVariants as taken
use Rattle.helper_lane.specs.declared.work.HelperWork.{HelperWork}
use Rattle.helper_lane.specs.Input.{input_for}
use Rattle.helper_lane.specs.Refusals.{refusal_of}
use Rattle.helper_lane.specs.Reply.{Env, reply}
use Rattle.helper_lane.specs.Work.{input_of}

-- of a message by these records, the newest first: it isn't refused, this is its work, and it stands last in hand; or it is refused so, or memory ran out, and the hand is as before
abbrev pub TakesMessage : Env → List Record → List ℕ → Result HelperWork TakeFault → List (List ℕ) → List (List ℕ) → Type 0
TakesMessage env l b (Ok w) old new = (refusal_of (reply env l b) ≡ None) × (input_for env l b ≡ Some (input_of w)) × (new ≡ old ++ b ∷ [])
TakesMessage env l b (Err (takes.Refused why)) old new = (refusal_of (reply env l b) ≡ Some why) × (new ≡ old)
TakesMessage env l b (Err (takes.Lane fault)) old new = (fault ≡ faults.NoMemory) × (new ≡ old)

-- of what the link said: a message, taken so; or that none was handed on, and the hand is as before
abbrev pub Takes : Env → List Record → Result Recv AllocError → Result Taken TakeFault → List (List ℕ) → List (List ℕ) → Type 0
Takes env l (Ok (recvs.Message b)) (Ok (taken.Work w)) old new = TakesMessage env l b (Ok w) old new
Takes env l (Ok (recvs.Message b)) (Err fault) old new = TakesMessage env l b (Err fault) old new
Takes env l (Ok recvs.Empty) (Ok taken.Nothing) old new = new ≡ old
Takes env l (Ok recvs.Dropped) (Ok taken.Dropped) old new = new ≡ old
Takes env l (Ok recvs.Held) (Ok taken.Held) old new = new ≡ old
Takes env l (Err e) (Err (takes.Lane fault)) old new = (fault ≡ faults.NoMemory) × (new ≡ old)
Takes env l _ _ old new = ⊥
