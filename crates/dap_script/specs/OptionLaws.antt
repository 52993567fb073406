-- What an answer shows of the tests and steps before it.
use Rattle.std.proofs.Common.{◌≡◌, Bool, true, false, if◌then◌else◌, Option, Some, None, Result, Ok, Err, refl, ap}
use Rattle.std.proofs.lemmas.Option.{same_Some}
use Rattle.std.specs.Option.{option_map_or}
use Rattle.std.specs.Result.{result_ok}

pub guarded : {A : Type 0} (b : Bool) (o : Option A) (y : A) → (if b then o else None) ≡ Some y → (b ≡ true) × (o ≡ Some y)
guarded true o y h = (refl, h)
guarded false o y h = cc h

pub if_some : {A P : Type 0} (b : Bool) (o p : Option A) (y : A) → (if b then o else p) ≡ Some y
    → (b ≡ true → o ≡ Some y → P) → (p ≡ Some y → P) → P
if_some true o p y h then' else' = then' refl h
if_some false o p y h then' else' = else' h

pub map_or_cases : {A B P : Type 0} (f : A → B) (o : Option A) (d y : B) → option_map_or f o d ≡ y
    → (o ≡ None → d ≡ y → P) → ((x : A) → o ≡ Some x → f x ≡ y → P) → P
map_or_cases f None d y h none' some' = none' refl h
map_or_cases f (Some x) d y h none' some' = some' x refl h

pub ok_some : {A E : Type 0} (r : Result A E) (x : A) → result_ok r ≡ Some x → r ≡ Ok x
ok_some (Ok y) x h = ap Ok (same_Some y x h)
ok_some (Err e) x h = cc h
