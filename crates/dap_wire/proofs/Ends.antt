-- What an end keeps: when a message gets its fate, and when a held one is handed on.
use Rattle.std.proofs.Common.{◌≡◌, ℕ, ◌≤◌, List, [], ◌∷◌, ◌++◌, Contains, Option, Result, Ok, IfOk, subst, sym, ap, ◌∙◌, arith, inl, inr}
use Rattle.std.proofs.lemmas.List.Elements.{Contains-append_left, Contains-append_right, Contains-append_cases, Contains-push}
use Rattle.std.specs.declared.alloc.AllocError.{AllocError}
use Rattle.dap_bytes.specs.Causes.{RoseBy}
use Rattle.dap_outside.specs.declared.fates.Fate.{Fate}
use Rattle.dap_outside.specs.declared.fates.Fate.TheVariants.{Deliver, Drop, Twice, Hold}
use Rattle.dap_outside.specs.Fates.{drops_after, row_after, carried_after}
use Rattle.dap_wire.specs.declared.recv.Recv.{Recv}
use Rattle.dap_wire.specs.declared.recv.Recv.TheVariants.{Message, Held, Dropped, Empty}
use Rattle.dap_wire.specs.Fated.{IsFated, answer_of, kept_of, Releases}
use Rattle.dap_wire.specs.Link.{Link, Grew, CarriedSince, IsShown, IsCarried, IsEnd}
use Rattle.dap_wire.proofs.Carried.{Grew-carried_after, CarriedSince-carried_after, CarriedSince-answer_of, CarriedSince-kept_of}

RoseBy-row_after : (fate : Fate) (count made now : ℕ) → RoseBy count made now → RoseBy (row_after fate count) made (drops_after fate now)
RoseBy-row_after Deliver count made now rose = omega arith
RoseBy-row_after Drop count made now rose = omega arith
RoseBy-row_after Twice count made now rose = omega arith
RoseBy-row_after Hold count made now rose = omega arith

row_after-le : (fate : Fate) (count row : ℕ) → count ≤ row → row_after fate count ≤ row_after fate row
row_after-le Deliver count row le = omega arith
row_after-le Drop count row le = omega arith
row_after-le Twice count row le = omega arith
row_after-le Hold count row le = omega arith

-- one message more was received, after a look
pub taken_from : {xs ys zs : List (List ℕ)} (m : List ℕ) → zs ≡ ys ++ m ∷ [] → ys ≡ xs → zs ≡ xs ++ m ∷ []
taken_from {xs} {ys} {zs} m taken looked = taken ∙ ap (λ l. l ++ m ∷ []) looked

-- what was answered, if it was a message
pub answered : (result : Result Recv AllocError) (fate : Fate) (m x : List ℕ) → IfOk result (λ answer. answer ≡ answer_of fate m)
    → result ≡ Ok (Message x) → answer_of fate m ≡ Message x
answered result fate m x ok is = sym (subst (λ (r : Result Recv AllocError). IfOk r (λ answer. answer ≡ answer_of fate m)) is ok)

-- what is still held was held
pub Contains-released : (answer : Recv) (held rest : List (List ℕ)) (x : List ℕ) → Releases answer held rest → Contains rest x → Contains held x
Contains-released (Message m) held rest x is at = subst (λ (l : List (List ℕ)). Contains l x) (sym is) (Contains-append_right (m ∷ []) rest x at)
Contains-released Held held rest x is at = absurd is
Contains-released Dropped held rest x is at = absurd is
Contains-released Empty held rest x is at = subst (λ (l : List (List ℕ)). Contains l x) (is.1 ∙ sym is.0) at

-- and so was what is handed on
pub Contains-handed : (answer : Recv) (held rest : List (List ℕ)) (x : List ℕ) → Releases answer held rest → answer ≡ Message x → Contains held x
Contains-handed (Message m) held rest x is same =
    let e : m ≡ x = cc in
    subst (λ (l : List (List ℕ)). Contains l x) (sym is) (subst (λ (y : List ℕ). Contains (m ∷ rest) y) e (Contains-append_left (m ∷ []) rest m (Contains-push [] m)))
Contains-handed Held held rest x is same = absurd is
Contains-handed Dropped held rest x is same = absurd is
Contains-handed Empty held rest x is same = absurd cc

module _ {T : Type 0} (carried : T → Option (List (List ℕ))) where
  -- where an end was, seen by its fields
  pub carried_at : (u v : Link T) (m : List ℕ) → u ≡ v → IsCarried carried v m → IsCarried carried u m
  carried_at u v m is shown = subst (λ (w : Link T). IsCarried carried w m) (sym is) shown

module _ {T : Type 0} {gives : T → List ℕ → Fate → T → Type 0} {drops row : T → ℕ} {carried : T → Option (List (List ℕ))} where
  -- a message that was shown is so when another gets its fate
  pub shown_fated : (made old new : T) (fate : Fate) (m : List ℕ) (received : List (List ℕ)) (x : List ℕ)
      → IsFated gives drops row carried old new fate m
      → IsShown carried made old received x → IsShown carried made new (received ++ m ∷ []) x
  shown_fated made old new fate m received x by is = (
    Contains-append_left received (m ∷ []) x is.0,
    subst (λ (c : Option (List (List ℕ))). CarriedSince (carried made) c x) (sym by.carried_is)
        (CarriedSince-carried_after fate (carried made) (carried old) m x is.1),
  )

  -- the message itself, where it was carried
  shown_itself : (made old new : T) (fate : Fate) (m : List ℕ) (received : List (List ℕ)) (x : List ℕ)
      → IsFated gives drops row carried old new fate m
      → (m ≡ x) × CarriedSince (carried made) (carried_after fate m (carried old)) m
      → IsShown carried made new (received ++ m ∷ []) x
  shown_itself made old new fate m received x by is =
      subst (λ (y : List ℕ). IsShown carried made new (received ++ m ∷ []) y) is.0 (
        Contains-push received m,
        subst (λ (c : Option (List (List ℕ))). CarriedSince (carried made) c m) (sym by.carried_is) is.1,
      )

  -- a message that is handed on
  pub shown_handed : (made old new : T) (fate : Fate) (m : List ℕ) (received : List (List ℕ)) (x : List ℕ)
      → IsFated gives drops row carried old new fate m
      → Grew (carried made) (carried old)
      → answer_of fate m ≡ Message x → IsShown carried made new (received ++ m ∷ []) x
  shown_handed made old new fate m received x by grew is =
      shown_itself made old new fate m received x by (CarriedSince-answer_of fate (carried made) (carried old) m x grew is)

  -- an end whose oldest message got its fate
  pub end_fated : (capacity : ℕ) (made old new : T) (count : ℕ) (received held : List (List ℕ)) (fate : Fate) (m : List ℕ)
      → IsFated gives drops row carried old new fate m
      → IsEnd drops row carried capacity made old count received held
      → IsEnd drops row carried capacity made new (row_after fate count) (received ++ m ∷ []) (held ++ kept_of fate m)
  end_fated capacity made old new count received held fate m by is = record {
    places = is.places;
    rose = subst (λ (n : ℕ). RoseBy (row_after fate count) (drops made) n) (sym by.drops_is) (RoseBy-row_after fate count (drops made) (drops old) is.rose);
    in_row = subst (λ (n : ℕ). row_after fate count ≤ n) (sym by.row_is) (row_after-le fate count (row old) is.in_row);
    grew = subst (λ (c : Option (List (List ℕ))). Grew (carried made) c) (sym by.carried_is) (Grew-carried_after fate (carried made) (carried old) m is.grew);
    shown = λ x at.
        elim (Contains-append_cases held (kept_of fate m) x at) [
          | inl before ↦ shown_fated made old new fate m received x by (is.shown x before)
          | inr kept ↦ shown_itself made old new fate m received x by (CarriedSince-kept_of fate (carried made) (carried old) m x is.grew kept)
        ];
  }

module _ {T : Type 0} {drops row : T → ℕ} {carried : T → Option (List (List ℕ))} where
  -- an end that handed on a held message
  pub end_released : (capacity : ℕ) (made fates : T) (count : ℕ) (received held rest : List (List ℕ)) (answer : Recv) → Releases answer held rest
      → IsEnd drops row carried capacity made fates count received held
      → IsEnd drops row carried capacity made fates count received rest
  end_released capacity made fates count received held rest answer by is = record {
    places = is.places;
    rose = is.rose;
    in_row = is.in_row;
    grew = is.grew;
    shown = λ x at. is.shown x (Contains-released answer held rest x by at);
  }
