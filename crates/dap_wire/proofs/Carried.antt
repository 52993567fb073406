-- What was carried since the making, when a message gets its fate.
use Rattle.std.proofs.Common.{◌≡◌, ℕ, List, [], ◌∷◌, ◌++◌, Contains, Option, Some, None, ap, sym, ◌∙◌, arith, append_assoc, inl, inr}
use Rattle.std.proofs.lemmas.List.Elements.{Contains-append_left, Contains-push, Contains-push_cases}
use Rattle.dap_outside.specs.declared.fates.Fate.{Fate}
use Rattle.dap_outside.specs.declared.fates.Fate.TheVariants.{Deliver, Drop, Twice, Hold}
use Rattle.dap_outside.specs.Fates.{with_message, carried_after}
use Rattle.dap_wire.specs.declared.recv.Recv.TheVariants.{Message}
use Rattle.dap_wire.specs.Fated.{answer_of, kept_of}
use Rattle.dap_wire.specs.Link.{Grew, CarriedSince}

Grew-with_message : (made now : Option (List (List ℕ))) (m : List ℕ) → Grew made now → Grew made (with_message m now)
Grew-with_message made None m grew = tt
Grew-with_message None (Some now) m grew = absurd grew
Grew-with_message (Some made) (Some now) m grew = (
  grew.0 ++ m ∷ [],
  sym (append_assoc made grew.0 (m ∷ [])) ∙ ap (λ l. l ++ m ∷ []) grew.1,
)

-- what was carried is so when more is
CarriedSince-with_message : (made now : Option (List (List ℕ))) (m x : List ℕ) → CarriedSince made now x → CarriedSince made (with_message m now) x
CarriedSince-with_message made None m x is = tt
CarriedSince-with_message None (Some now) m x is = absurd is
CarriedSince-with_message (Some made) (Some now) m x is = (
  is.0 ++ m ∷ [],
  ap (λ l. l ++ m ∷ []) is.1 ∙ append_assoc made is.0 (m ∷ []),
  Contains-append_left is.0 (m ∷ []) x is.2,
)

-- and so is the new message
CarriedSince-new : (made now : Option (List (List ℕ))) (m : List ℕ) → Grew made now → CarriedSince made (with_message m now) m
CarriedSince-new made None m grew = tt
CarriedSince-new None (Some now) m grew = absurd grew
CarriedSince-new (Some made) (Some now) m grew = (
  grew.0 ++ m ∷ [],
  ap (λ l. l ++ m ∷ []) (sym grew.1) ∙ append_assoc made grew.0 (m ∷ []),
  Contains-push grew.0 m,
)

pub Grew-carried_after : (fate : Fate) (made now : Option (List (List ℕ))) (m : List ℕ) → Grew made now → Grew made (carried_after fate m now)
Grew-carried_after Deliver made now m grew = Grew-with_message made now m grew
Grew-carried_after Drop made now m grew = grew
Grew-carried_after Twice made now m grew = Grew-with_message made now m grew
Grew-carried_after Hold made now m grew = Grew-with_message made now m grew

pub CarriedSince-carried_after : (fate : Fate) (made now : Option (List (List ℕ))) (m x : List ℕ) → CarriedSince made now x → CarriedSince made (carried_after fate m now) x
CarriedSince-carried_after Deliver made now m x is = CarriedSince-with_message made now m x is
CarriedSince-carried_after Drop made now m x is = is
CarriedSince-carried_after Twice made now m x is = CarriedSince-with_message made now m x is
CarriedSince-carried_after Hold made now m x is = CarriedSince-with_message made now m x is

-- a message that is handed on was carried
pub CarriedSince-answer_of : (fate : Fate) (made now : Option (List (List ℕ))) (m x : List ℕ) → Grew made now
    → answer_of fate m ≡ Message x → (m ≡ x) × CarriedSince made (carried_after fate m now) m
CarriedSince-answer_of Deliver made now m x grew is = (cc, CarriedSince-new made now m grew)
CarriedSince-answer_of Drop made now m x grew is = absurd cc
CarriedSince-answer_of Twice made now m x grew is = (cc, CarriedSince-new made now m grew)
CarriedSince-answer_of Hold made now m x grew is = absurd cc

none_more : (x : List ℕ) → Contains [] x → ⊥
none_more x at = omega (arith, at.1)

one_more : (m x : List ℕ) → Contains (m ∷ []) x → m ≡ x
one_more m x at = elim (Contains-push_cases [] m x at) [ inl before ↦ absurd (none_more x before) | inr is ↦ is ]

-- and so was one that is held back
pub CarriedSince-kept_of : (fate : Fate) (made now : Option (List (List ℕ))) (m x : List ℕ) → Grew made now
    → Contains (kept_of fate m) x → (m ≡ x) × CarriedSince made (carried_after fate m now) m
CarriedSince-kept_of Deliver made now m x grew at = absurd (none_more x at)
CarriedSince-kept_of Drop made now m x grew at = absurd (none_more x at)
CarriedSince-kept_of Twice made now m x grew at = (one_more m x at, CarriedSince-new made now m grew)
CarriedSince-kept_of Hold made now m x grew at = (one_more m x at, CarriedSince-new made now m grew)
