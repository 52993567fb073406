-- What drawing answers, and where it leaves the stream.
use Rattle.std.specs.Prelude.{◌≡◌, ℕ, List, Option, Some, None, Result, Ok, Err, Vec}
use Rattle.std.specs.declared.alloc.Global.{Global}
use Rattle.aes_cmac_prg.specs.Stream.{Reading, advanced}
use Rattle.aes_cmac_prg.specs.declared.fault.DrawFault.{DrawFault}
use Rattle.aes_cmac_prg.specs.declared.fault.DrawFault.TheVariants.{Spent, NoMemory}

-- the elements are these, or a spent drawing has none
abbrev pub Draws : {F : Type 0} → Result (Vec F Global) DrawFault → Option (List F) → Type 0
Draws (Ok v) xs = xs ≡ Some v.items
Draws (Err Spent) xs = xs ≡ None
Draws (Err NoMemory) xs = Unit {0}

-- the stream stands behind the n bytes that the drawing took, and where there was no memory it took none
abbrev pub Leaves : {F : Type 0} → Result (Vec F Global) DrawFault → Reading → ℕ → Reading → Type 0
Leaves (Ok v) old n new = new ≡ advanced old n
Leaves (Err Spent) old n new = new ≡ advanced old n
Leaves (Err NoMemory) old n new = new ≡ old
