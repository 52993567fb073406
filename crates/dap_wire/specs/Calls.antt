-- What each call does to an end.
use Rattle.std.specs.Prelude.{◌≡◌, ◌⊎◌, ◌≤◌, ℕ, List, [], ◌∷◌, ◌++◌, Result, Ok, Err}
use Rattle.std.specs.declared.alloc.AllocError.{AllocError}
use mathlib.Core.List.{IsPrefix}
use Rattle.dap_outside.specs.declared.fates.Fate.{Fate}
use Rattle.dap_outside.specs.declared.fates.Fate.TheVariants.{Deliver, Drop, Twice, Hold}
use Rattle.dap_outside.specs.Fates.{row_after}
use Rattle.dap_wire.specs.Fated.{kept_of, Releases}
use Rattle.dap_wire.specs.Link.{Link, known}
use Rattle.dap_wire.specs.declared.recv.Recv.{Recv}
use Rattle.dap_wire.specs.declared.recv.Recv.TheVariants.{Message, Held, Dropped, Empty}

module _ {T : Type 0} where
  -- the end of the same rings, whose link was made with the same fates
  pub record SameEnd (old new : Link T) : Type 0 where
    pub out : new.out ≡ old.out
    pub into : new.into ≡ old.into
    pub made : new.made ≡ old.made

  -- the same end, which has sent nothing and may have received
  pub record Receives (old new : Link T) : Type 0 where
    pub end : SameEnd old new
    pub sent : new.sent ≡ old.sent
    pub room : new.room ≡ old.room
    pub known : IsPrefix (known old) (known new)

  -- the same end, which has received nothing and may have sent
  pub record Sends (old new : Link T) : Type 0 where
    pub end : SameEnd old new
    pub received : new.received ≡ old.received
    pub waiting : new.waiting ≡ old.waiting
    pub held : new.held ≡ old.held
    pub drops : new.drops ≡ old.drops
    pub fates : new.fates ≡ old.fates

  -- the same end, which may know more of its rings
  pub record Looks (old new : Link T) : Type 0 where
    pub end : SameEnd old new
    pub sent : new.sent ≡ old.sent
    pub room : old.room ≤ new.room
    pub received : new.received ≡ old.received
    pub waiting : IsPrefix old.waiting new.waiting
    pub held : new.held ≡ old.held
    pub drops : new.drops ≡ old.drops
    pub fates : new.fates ≡ old.fates

  -- the oldest message was taken from the ring, got this fate, and is held back or not accordingly
  pub record Takes (gives : T → List ℕ → Fate → T → Type 0) (old new : Link T) (fate : Fate) (message : List ℕ) : Type 0 where
    pub received : new.received ≡ old.received ++ message ∷ []
    pub held : new.held ≡ old.held ++ kept_of fate message
    pub drops : new.drops ≡ row_after fate old.drops
    pub given : gives old.fates message fate new.fates

  -- nothing was taken
  pub record IsStill (old new : Link T) : Type 0 where
    pub received : new.received ≡ old.received
    pub held : new.held ≡ old.held
    pub drops : new.drops ≡ old.drops
    pub fates : new.fates ≡ old.fates

  -- nothing was taken, as the ring was read to be empty, and the oldest held message is handed on
  pub record FindsEmpty (old new : Link T) (answer : Recv) : Type 0 where
    pub received : new.received ≡ old.received
    pub waiting : new.waiting ≡ []
    pub held : Releases answer old.held new.held
    pub drops : new.drops ≡ old.drops
    pub fates : new.fates ≡ old.fates

  -- what a `recv` did, by its answer. Where the copy of a message that comes twice finds no memory, the message itself is held
  abbrev pub Outcome : (T → List ℕ → Fate → T → Type 0) → Link T → Link T → Result Recv AllocError → Type 0
  Outcome gives old new (Ok (Message m)) = (Takes gives old new Deliver m ⊎ Takes gives old new Twice m) ⊎ FindsEmpty old new (Message m)
  Outcome gives old new (Ok Held) = (m : List ℕ) × Takes gives old new Hold m
  Outcome gives old new (Ok Dropped) = (m : List ℕ) × Takes gives old new Drop m
  Outcome gives old new (Ok Empty) = FindsEmpty old new Empty
  Outcome gives old new (Err e) = IsStill old new ⊎ ((m : List ℕ) × Takes gives old new Twice m)
