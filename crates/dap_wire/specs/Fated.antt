-- What a message's fate changes.
use Rattle.std.specs.Prelude.{◌≡◌, ℕ, List, [], ◌∷◌, Option}
use Rattle.dap_outside.specs.declared.fates.Fate.{Fate}
use Rattle.dap_outside.specs.declared.fates.Fate.TheVariants.{Deliver, Drop, Twice, Hold}
use Rattle.dap_outside.specs.Fates.{drops_after, row_after, carried_after}
use Rattle.dap_wire.specs.declared.recv.Recv.{Recv}
use Rattle.dap_wire.specs.declared.recv.Recv.TheVariants.{Message, Held, Dropped, Empty}

-- the fates gave this fate of the message
pub record IsFated {T : Type 0} (gives : T → List ℕ → Fate → T → Type 0) (drops row : T → ℕ) (carried : T → Option (List (List ℕ))) (old new : T) (fate : Fate) (message : List ℕ) : Type 0 where
  pub given : gives old message fate new
  pub drops_is : drops new ≡ drops_after fate (drops old)
  pub row_is : row new ≡ row_after fate (row old)
  pub carried_is : carried new ≡ carried_after fate message (carried old)

-- what is answered for a message of this fate
abbrev pub answer_of : Fate → List ℕ → Recv
answer_of Deliver message = Message message
answer_of Drop message = Dropped
answer_of Twice message = Message message
answer_of Hold message = Held

-- what is held back of a message of this fate
abbrev pub kept_of : Fate → List ℕ → List (List ℕ)
kept_of Deliver message = []
kept_of Drop message = []
kept_of Twice message = message ∷ []
kept_of Hold message = message ∷ []

-- the oldest held message is handed on, and Empty says that none is held
abbrev pub Releases : Recv → List (List ℕ) → List (List ℕ) → Type 0
Releases (Message message) old new = old ≡ message ∷ new
Releases Held old new = ⊥
Releases Dropped old new = ⊥
Releases Empty old new = (old ≡ []) × (new ≡ [])
