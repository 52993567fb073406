-- Lemmas: the answers of sharing a measurement, from those of its encoding and of its input.
use Rattle.std.proofs.Common.{◌≡◌, ◌≢◌, ℕ, List, Option, Some, None, Result, Ok, Err, refl}
use Rattle.std.specs.Option.{option_and_then}
use Rattle.flp_circuits.specs.declared.circuit.EncodeFault.{EncodeFault}
use Rattle.flp_circuits.specs.declared.circuit.EncodeFault.TheVariants as encode
use Rattle.vdaf_api.specs.declared.fault.ShardFault.{ShardFault}
use Rattle.vdaf_api.specs.declared.fault.ShardFault.TheVariants.{BadValue, Spent, NoMemory}
use Rattle.vdaf_api.specs.declared.shares.Shares.{Shares}
use Rattle.vdaf_api.specs.Answered.{Shards, parts_of}
use Rattle.vdaf_api.specs.Functions.{Parts}
use Rattle.prio3_share.specs.Faults.{of_encode}
use Rattle.prio3_share.specs.Splits.{Splits}

-- a chain whose second link always has a value has none only where its first has none
pub none-first : {A B : Type 0} (o : Option A) (f : A → B) → option_and_then (λ x. Some (f x)) o ≡ None → o ≡ None
none-first None f e = refl
none-first (Some x) f e = absurd (cc)

-- the shares of an input that encodes a measurement
pub shards-input : (r : Result Shares ShardFault) (encoding : Option (List ℕ)) (parts : Option Parts) → encoding ≢ None → Splits parts_of r parts → Shards r encoding parts
shards-input (Ok s) encoding parts some h = h
shards-input (Err BadValue) encoding parts some h = absurd h
shards-input (Err Spent) encoding parts some h = (h, some)
shards-input (Err NoMemory) encoding parts some h = some

-- a measurement without an encoding, or want of memory for that of one that has it
pub shards-fault : (fault : EncodeFault) (encoding : Option (List ℕ)) (parts : Option Parts) → (fault ≡ encode.BadValue → encoding ≡ None) → (encoding ≡ None → fault ≡ encode.BadValue)
    → Shards (Err (of_encode fault)) encoding parts
shards-fault encode.BadValue encoding parts bad back = bad refl
shards-fault encode.NoMemory encoding parts bad back = λ none. (let k = back none in absurd (cc))
