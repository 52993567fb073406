-- One end of a link: it sends into one ring, and takes from another by its fates.
use Rattle.std.specs.Prelude.{◌≡◌, ℕ, ◌≤◌, List, [], ◌++◌, Contains, Option, Some, None, refl}
use Rattle.std.specs.Coded.{Coded, code_by, coded×, coded_ℕ, coded_list}
use mathlib.Core.List.{IsPrefix}
use Rattle.dap_bytes.specs.Causes.{RoseBy}
use Rattle.dap_wire.specs.Ring.{Ring, ring_code}
use Rattle.dap_wire.specs.declared.places.TheConstants.{LINK_PLACES}

-- an end as callers see it: `sent` and `received` are whole histories, `room` and `waiting` what it knows of its rings,
-- `held` what its fates hold back, `drops` how often it was told Drop in a row, `made` its fates when the link was made
pub record Link (T : Type 0) : Type 0 where
  pub out : Ring
  pub into : Ring
  pub sent : List (List ℕ)
  pub room : ℕ
  pub received : List (List ℕ)
  pub waiting : List (List ℕ)
  pub held : List (List ℕ)
  pub drops : ℕ
  pub fates : T
  pub made : T

-- what was carried goes on from what was carried at the making, where this is told
abbrev pub Grew : Option (List (List ℕ)) → Option (List (List ℕ)) → Type 0
Grew made None = Unit {0}
Grew None (Some now) = ⊥
Grew (Some made) (Some now) = IsPrefix made now

-- the message stands in what was carried since the making, where this is told
abbrev pub CarriedSince : Option (List (List ℕ)) → Option (List (List ℕ)) → List ℕ → Type 0
CarriedSince made None message = Unit {0}
CarriedSince None (Some now) message = ⊥
CarriedSince (Some made) (Some now) message = (since : List (List ℕ)) × (now ≡ made ++ since) × Contains since message

module _ {T : Type 0} where
  -- an end is stored as the tuple of its fields
  abbrev pub link_code : Coded T → Coded (Link T)
  link_code fates =
      code_by (Ring × (Ring × (List (List ℕ) × (ℕ × (List (List ℕ) × (List (List ℕ) × (List (List ℕ) × (ℕ × (T × T)))))))))
      (coded× ring_code (coded× ring_code (coded× (coded_list (coded_list coded_ℕ)) (coded× coded_ℕ (coded× (coded_list (coded_list coded_ℕ)) (coded× (coded_list (coded_list coded_ℕ)) (coded× (coded_list (coded_list coded_ℕ)) (coded× coded_ℕ (coded× fates fates)))))))))
      (λ e. (e.out, (e.into, (e.sent, (e.room, (e.received, (e.waiting, (e.held, (e.drops, (e.fates, e.made))))))))))
      (λ p. record { out = p.0; into = p.1.0; sent = p.1.1.0; room = p.1.1.1.0; received = p.1.1.1.1.0; waiting = p.1.1.1.1.1.0; held = p.1.1.1.1.1.1.0; drops = p.1.1.1.1.1.1.1.0; fates = p.1.1.1.1.1.1.1.1.0; made = p.1.1.1.1.1.1.1.1.1 })
      (λ _. refl)

  -- all that the end knows to have been sent to it
  abbrev pub known : Link T → List (List ℕ)
  known e = e.received ++ e.waiting

  -- the message was received, and carried since the making
  abbrev pub IsShown : (T → Option (List (List ℕ))) → T → T → List (List ℕ) → List ℕ → Type 0
  IsShown carried made fates received message = Contains received message × CarriedSince (carried made) (carried fates) message

  -- the end received the message, and its fates carried it since the link was made
  abbrev pub IsCarried : (T → Option (List (List ℕ))) → Link T → List ℕ → Type 0
  IsCarried carried e message = IsShown carried e.made e.fates e.received message

  -- what every end keeps: 64 places to send into, a count that its fates' counts reach, and held messages that were carried
  pub record IsEnd (drops row : T → ℕ) (carried : T → Option (List (List ℕ))) (capacity : ℕ) (made fates : T) (count : ℕ) (received held : List (List ℕ)) : Type 0 where
    pub places : capacity ≡ LINK_PLACES
    pub rose : RoseBy count (drops made) (drops fates)
    pub in_row : count ≤ row fates
    pub grew : Grew (carried made) (carried fates)
    pub shown : (message : List ℕ) → Contains held message → IsShown carried made fates received message

  -- the two are the ends of one link
  pub record IsLink (a b : Link T) : Type 0 where
    pub there : b.into ≡ a.out
    pub back : a.into ≡ b.out

  -- an end of a link that was just made, with these fates
  pub record IsNew (given : T) (e : Link T) : Type 0 where
    pub sent : e.sent ≡ []
    pub room : e.room ≡ LINK_PLACES
    pub received : e.received ≡ []
    pub waiting : e.waiting ≡ []
    pub held : e.held ≡ []
    pub drops : e.drops ≡ 0
    pub fates : e.fates ≡ given
    pub made : e.made ≡ given
