-- Answers that are taken further.
use Rattle.std.proofs.Common.{◌≡◌, Option, Some, None, is_some, Result, Ok, Err, IfOk, refl}
use Rattle.std.specs.Option.{option_map}

pub is_some_mapped : {X Y : Type 0} (f : X → Y) (o : Option X) → is_some (option_map f o) ≡ is_some o
is_some_mapped f (Some x) = refl
is_some_mapped f None = refl

pub IfOk-map : {T E : Type 0} (r : Result T E) (P Q : T → Type 0) → IfOk r P → ((v : T) → P v → Q v) → IfOk r Q
IfOk-map (Ok v) P Q h m = m v h
IfOk-map (Err e) P Q h m = tt
