-- What stays true of ends from call to call, for the layers above.
use Rattle.std.specs.Prelude.{◌≡◌, ℕ, List, [], ◌++◌, Option}
use Rattle.std.proofs.Common.{sym, ◌∙◌, ap, subst, append_assoc}
use Rattle.std.proofs.Math.Nat.{le_trans}
use Rattle.std.proofs.lemmas.List.{append-nil}
use mathlib.Core.List.{IsPrefix}
use Rattle.dap_wire.specs.Link.{Link, IsLink, IsShown, IsCarried, known}
use Rattle.dap_wire.specs.Calls.{SameEnd, Looks, Sends}
use Rattle.dap_wire.specs.Meet.{HaveMet}

-- each list is its own beginning
pub IsPrefix-refl : {A : Type 0} (xs : List A) → IsPrefix xs xs
IsPrefix-refl xs = ([], append-nil xs)

-- the beginning of a beginning
pub IsPrefix-trans : {A : Type 0} (xs ys zs : List A) → IsPrefix xs ys → IsPrefix ys zs → IsPrefix xs zs
IsPrefix-trans xs ys zs p q = (p.0 ++ q.0, sym (append_assoc xs p.0 q.0) ∙ ap (λ w. w ++ q.0) p.1 ∙ q.1)

module _ {T : Type 0} where
  -- an end stays the same over several calls
  pub SameEnd-trans : (a b c : Link T) → SameEnd a b → SameEnd b c → SameEnd a c
  SameEnd-trans a b c first then = record {
    out = then.out ∙ first.out;
    into = then.into ∙ first.into;
    made = then.made ∙ first.made;
  }

  -- two ends of one link are so after any calls on either
  pub IsLink-same : (a b a' b' : Link T) → IsLink a b → SameEnd a a' → SameEnd b b' → IsLink a' b'
  IsLink-same a b a' b' is near far = record {
    there = far.into ∙ is.there ∙ sym near.out;
    back = near.into ∙ is.back ∙ sym far.out;
  }

  -- a message that was carried is so where the fates and what was received are the same
  IsCarried-same : (carried : T → Option (List (List ℕ))) (old new : Link T) (message : List ℕ)
      → new.made ≡ old.made → new.fates ≡ old.fates → new.received ≡ old.received
      → IsCarried carried old message → IsCarried carried new message
  IsCarried-same carried old new message made fates received is =
      subst (λ (t : T). IsShown carried t new.fates new.received message) (sym made)
      (subst (λ (t : T). IsShown carried old.made t new.received message) (sym fates)
      (subst (λ (l : List (List ℕ)). IsShown carried old.made old.fates l message) (sym received) is))

  -- so after a look
  pub IsCarried-looks : (carried : T → Option (List (List ℕ))) (old new : Link T) (message : List ℕ)
      → Looks old new → IsCarried carried old message → IsCarried carried new message
  IsCarried-looks carried old new message by is = IsCarried-same carried old new message by.end.made by.fates by.received is

  -- and after a send
  pub IsCarried-sends : (carried : T → Option (List (List ℕ))) (old new : Link T) (message : List ℕ)
      → Sends old new → IsCarried carried old message → IsCarried carried new message
  IsCarried-sends carried old new message by is = IsCarried-same carried old new message by.end.made by.fates by.received is

  -- two looks are a look
  pub Looks-trans : (a b c : Link T) → Looks a b → Looks b c → Looks a c
  Looks-trans a b c first then = record {
    end = SameEnd-trans a b c first.end then.end;
    sent = then.sent ∙ first.sent;
    room = le_trans first.room then.room;
    received = then.received ∙ first.received;
    waiting = IsPrefix-trans a.waiting b.waiting c.waiting first.waiting then.waiting;
    held = then.held ∙ first.held;
    drops = then.drops ∙ first.drops;
    fates = then.fates ∙ first.fates;
  }

  -- at a meet, what an end received is the beginning of what the other sent
  pub received-there : (a b : Link T) → HaveMet a b → IsPrefix b.received a.sent
  received-there a b met = (b.waiting, met.there)

  pub received-back : (a b : Link T) → HaveMet a b → IsPrefix a.received b.sent
  received-back a b met = (a.waiting, met.back)

  -- once an end that knows no less than at a meet reads its ring to be empty, it has received all that was sent then
  pub all_received : (a b now : Link T) → HaveMet a b → IsPrefix (known b) (known now) → now.waiting ≡ [] → IsPrefix a.sent now.received
  all_received a b now met more empty =
      subst (λ (l : List (List ℕ)). IsPrefix l now.received) met.there
      (subst (λ (l : List (List ℕ)). IsPrefix (known b) l) (ap (λ l. now.received ++ l) empty ∙ append-nil now.received) more)
