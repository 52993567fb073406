-- What the halves in the code are seen as.
use Rattle.prio3_share.specs.Steps.{Halved}
use Rattle.prio3_share.specs.declared.halves.Halves.{Halves as Held}

-- the two vectors as lists
abbrev pub seen : {F : Type 0} → Held F → Halved F
seen h = record { leader = h.leader.items; helper = h.helper.items }
