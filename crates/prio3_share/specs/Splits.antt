-- What the steps of sharing answer.
use Rattle.std.specs.Prelude.{◌≡◌, Option, Some, None, Result, Ok, Err}
use Rattle.vdaf_api.specs.declared.fault.ShardFault.{ShardFault}
use Rattle.vdaf_api.specs.declared.fault.ShardFault.TheVariants.{BadValue, Spent, NoMemory}

-- Spent where the definition has no value; an input is never a bad value, and nothing is said where memory ran out
abbrev pub Faults : {B : Type 0} → ShardFault → Option B → Type 0
Faults Spent o = o ≡ None
Faults BadValue o = ⊥
Faults NoMemory o = Unit {0}

-- a value where the definition has one, seen by f, and a fault as above
abbrev pub Splits : {A B : Type 0} → (A → B) → Result A ShardFault → Option B → Type 0
Splits f (Ok a) o = o ≡ Some (f a)
Splits f (Err fault) o = Faults fault o
