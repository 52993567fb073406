-- What a link's fates count and carry.
use Rattle.std.specs.Prelude.{ℕ, ◌+◌, ◌-◌, ◌^◌, min, max, List, [], ◌∷◌, ◌++◌, Option, Some, None}
use Rattle.dap_outside.specs.declared.fates.Fate.{Fate}
use Rattle.dap_outside.specs.declared.fates.Fate.TheVariants.{Deliver, Drop, Twice, Hold}

-- a count after one more, which stands still at its type's end
abbrev pub one_more : ℕ → ℕ
one_more n = max n (min (n + 1) (2 ^ 64 - 1))

-- the number of Drops after a fate
abbrev pub drops_after : Fate → ℕ → ℕ
drops_after Deliver n = n
drops_after Drop n = one_more n
drops_after Twice n = n
drops_after Hold n = n

-- the number of Drops in a row after a fate
abbrev pub row_after : Fate → ℕ → ℕ
row_after Deliver n = 0
row_after Drop n = one_more n
row_after Twice n = 0
row_after Hold n = 0

-- what is told as carried, with a message at its end
abbrev pub with_message : List ℕ → Option (List (List ℕ)) → Option (List (List ℕ))
with_message message None = None
with_message message (Some carried) = Some (carried ++ message ∷ [])

-- what was carried after a fate of the message: each message but a dropped one
abbrev pub carried_after : Fate → List ℕ → Option (List (List ℕ)) → Option (List (List ℕ))
carried_after Deliver message carried = with_message message carried
carried_after Drop message carried = carried
carried_after Twice message carried = with_message message carried
carried_after Hold message carried = with_message message carried
