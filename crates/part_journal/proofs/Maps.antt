-- A list with one element more, mapped; and what holds whatever a call answers.
use Rattle.std.proofs.Common.{◌≡◌, List, [], ◌∷◌, ◌++◌, map, Result, Ok, Err, OnOk, OnErr}
use mathlib.Core.List.{map-append}

pub map_push : {A B : Type 0} (f : A → B) (xs : List A) (x : A) → map f (xs ++ x ∷ []) ≡ map f xs ++ f x ∷ []
map_push f xs x = map-append f xs (x ∷ [])

pub on_err : {A E P Q : Type 0} (r : Result A E) → (P → Q) → OnErr r P → OnErr r Q
on_err (Ok x) f p = tt
on_err (Err e) f p = f p

pub either_way : {A E P Q S : Type 0} (r : Result A E) → (P → S) → (Q → S) → OnOk r P → OnErr r Q → S
either_way (Ok x) f g p q = f p
either_way (Err e) f g p q = g q
