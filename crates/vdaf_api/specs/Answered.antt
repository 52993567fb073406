-- What the calls of a measurement function answer.
use Rattle.std.specs.Prelude.{◌≡◌, ◌≢◌, ℕ, List, Bool, true, ◌&&◌, Option, Some, None, Result, Ok, Err, Vec}
use Rattle.std.specs.Option.{is_some}
use Rattle.std.specs.declared.alloc.Global.{Global}
use Rattle.vdaf_api.specs.declared.shares.Shares.{Shares}
use Rattle.vdaf_api.specs.declared.fault.ShardFault.{ShardFault}
use Rattle.vdaf_api.specs.declared.fault.ShardFault.TheVariants as shard
use Rattle.vdaf_api.specs.declared.fault.PrepFault.{PrepFault}
use Rattle.vdaf_api.specs.declared.fault.PrepFault.TheVariants as prep
use Rattle.vdaf_api.specs.declared.role.Role.{Role}
use Rattle.vdaf_api.specs.Functions.{Functions, Parts}

-- the shares as lists
abbrev pub parts_of : Shares → Parts
parts_of s = record { public = s.public; leader = s.leader; helper = s.helper }

-- these are the shares; or there are none, for one of two reasons; or memory ran out for those of a measurement of the kind
abbrev pub Shards : Result Shares ShardFault → Option (List ℕ) → Option Parts → Type 0
Shards (Ok s) encoding parts = parts ≡ Some (parts_of s)
Shards (Err shard.BadValue) encoding parts = encoding ≡ None
Shards (Err shard.Spent) encoding parts = (parts ≡ None) × (encoding ≢ None)
Shards (Err shard.NoMemory) encoding parts = encoding ≢ None

-- these are the bytes; or there are none; or memory ran out, which is told only of what has the form
abbrev pub Prepares : Result (Vec ℕ Global) PrepFault → Bool → Option (List ℕ) → Type 0
Prepares (Ok v) has_form bytes = bytes ≡ Some v.items
Prepares (Err prep.Invalid) has_form bytes = bytes ≡ None
Prepares (Err prep.NoMemory) has_form bytes = has_form ≡ true

-- the bytes that a message gives with a half
abbrev pub Outs : Type 0
Outs = List ℕ → Option (List ℕ)

-- the prep share, with a state that goes on to these out shares; or there are none of either; or memory ran out, which is told only of what has the form
abbrev pub Starts : {P : Type 0} → (P → Outs) → Result (P × Vec ℕ Global) PrepFault → Bool → Option (List ℕ) → Outs → Type 0
Starts finish_of (Ok started) has_form share out = (share ≡ Some started.1.items) × ((message : List ℕ) → finish_of started.0 message ≡ out message)
Starts finish_of (Err prep.Invalid) has_form share out = (share ≡ None) × ((message : List ℕ) → out message ≡ None)
Starts finish_of (Err prep.NoMemory) has_form share out = has_form ≡ true

-- the same of a half of a function
abbrev pub StartsHalf : {P : Type 0} → Functions → (P → Outs) → Role → List ℕ → List ℕ → List ℕ → List ℕ → Result (P × Vec ℕ Global) PrepFault → Type 0
StartsHalf f finish_of role key id public input result = Starts finish_of result (f.is_half role public input) (f.share role key id public input) (f.out role key id public input)

-- the prep message of two prep shares of a function, likewise
abbrev pub Combines : Functions → List ℕ → List ℕ → Result (Vec ℕ Global) PrepFault → Type 0
Combines f leader helper result = Prepares result (f.is_share leader && f.is_share helper) (f.combine leader helper)

-- the out share of a state; memory runs out only for one that is there
abbrev pub Finishes : Result (Vec ℕ Global) PrepFault → Option (List ℕ) → Type 0
Finishes result out = Prepares result (is_some out) out
