-- What opening and making answer.
use Rattle.std.specs.Prelude.{◌≡◌, ◌≢◌, ℕ, List, Option, Some, None, Result, Ok, Err, Vec}
use Rattle.std.specs.declared.alloc.Global.{Global}
use Rattle.vdaf_api.specs.declared.fault.ShardFault.{ShardFault}
use Rattle.vdaf_api.specs.declared.fault.ShardFault.TheVariants as shard
use Rattle.dap_seal.specs.declared.seal.OpenFault.{OpenFault}
use Rattle.dap_seal.specs.declared.seal.OpenFault.TheVariants.{Tag, NoMemory}

-- these are the plain bytes, or the sealed ones don't open, or memory ran out
abbrev pub Opens : Result (Vec ℕ Global) OpenFault → Option (List ℕ) → Type 0
Opens (Ok v) plain = plain ≡ Some v.items
Opens (Err Tag) plain = plain ≡ None
Opens (Err NoMemory) plain = Unit {0}

-- these are the report's bytes; or there is none, since the measurement isn't one of the kind or a drawing is spent; or memory ran out
abbrev pub Makes : Result (Vec ℕ Global) ShardFault → Option (List ℕ) → Option (List ℕ) → Type 0
Makes (Ok v) encoding bytes = bytes ≡ Some v.items
Makes (Err shard.BadValue) encoding bytes = encoding ≡ None
Makes (Err shard.Spent) encoding bytes = (bytes ≡ None) × (encoding ≢ None)
Makes (Err shard.NoMemory) encoding bytes = Unit {0}
