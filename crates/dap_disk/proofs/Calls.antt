-- What each call of a disk in memory makes of what it holds and of what may be left.
use Rattle.std.proofs.Common.{◌≡◌, ◌⊎◌, inl, inr, ⊎_elim, ℕ, ◌+◌, ◌≤◌, List, [], ◌∷◌, ◌++◌, length, take, Some, Vec, Bool, IsTrue, true, false, refl, sym, ◌∙◌, ap, subst, arith, length-append}
use Rattle.std.proofs.lemmas.List.{take_all, take-append-le}
use Rattle.std.proofs.lemmas.Bool.{cases_lt}
use Rattle.std.specs.declared.alloc.Global.{Global}
use Rattle.dap_disk.specs.Disk.{Torn, Shortened, Follows, NoMore, Only, Tells, Elapses, of_told, written}
use Rattle.dap_disk.specs.declared.image.Image.{Image}
use Rattle.dap_disk.specs.declared.image.Image.TheVariants.{New}
use Rattle.dap_disk.specs.declared.event.Event.{Event}
use Rattle.dap_disk.specs.declared.event.Event.TheVariants.{Wrote, Cut, Settled}
use Rattle.dap_disk.specs.Images.{Change, Written, CutTo, Allowed, are_within}
use Rattle.dap_disk.specs.ImageLaws.{allowed_is_reached}
use Rattle.dap_disk.specs.Moves.{waiting, settled}
use Rattle.dap_disk.specs.History.{State, state_of, held_after, IsImage, WasImage, left_by, puts}
use Rattle.dap_disk.specs.HistoryLaws.{laid_is, left_may_be}
use Rattle.dap_disk.proofs.Pushes.{images_follow, held_is, state_is, settled_held, settled_state, settled_only}

-- a disk that a call leaves as it was is up
pub up_stays : (now was : Bool) → now ≡ was → IsTrue was → now ≡ false → ⊥
up_stays now was same up down = absurd (cc (same, up, down))

-- a state of these bytes and changes
abbrev waiting_all : List ℕ → List Change → State
waiting_all synced changes = record { synced = synced; pending = changes }

module _ (first : List ℕ) (events : List Event) where
  elapses_none : Elapses (length events) (length events) (WasImage first events) (WasImage first events) (IsImage first events)
  elapses_none = record { later = omega arith; nothing_else = λ t c le was. inl was; keeps = λ t c le was. was }

  elapses_push : (e : Event) → Elapses (length events) (length (events ++ e ∷ [])) (WasImage first events) (WasImage first (events ++ e ∷ [])) (IsImage first (events ++ e ∷ []))
  elapses_push e =
      let size : length (events ++ e ∷ []) ≡ length events + 1 = length-append events (e ∷ []) in
      record {
        later = omega (arith, size);
        nothing_else = λ t c le was. elim (cases_lt (length events) was.0) [
          | inl gt ↦ inr (subst (λ (es : List Event). IsImage first es c) (take_all was.0 (events ++ e ∷ []) (omega (arith, size, gt))) was.3)
          | inr here ↦ inl (was.0, was.1, here, subst (λ (es : List Event). IsImage first es c) (take-append-le was.0 events (e ∷ []) here) was.3)
        ];
        keeps = λ t c le was. (was.0, was.1, omega (arith, size, was.2), subst (λ (es : List Event). IsImage first es c) (sym (take-append-le was.0 events (e ∷ []) was.2)) was.3);
      }

module _ (first first' : List ℕ) (events events' : List Event) (same : first' ≡ first) where
  module _ (next : List Event) (is : events' ≡ next) where
    -- a history that goes on
    same_time : Elapses (length events) (length next) (WasImage first events) (WasImage first next) (IsImage first next)
        → Elapses (length events) (length events') (WasImage first events) (WasImage first' events') (IsImage first' events')
    same_time time =
        subst (λ (f : List ℕ). Elapses (length events) (length events') (WasImage first events) (WasImage f events') (IsImage f events')) (sym same)
        (subst (λ (es : List Event). Elapses (length events) (length es) (WasImage first events) (WasImage first es) (IsImage first es)) (sym is) time)

  pub push_time : (e : Event) → events' ≡ events ++ e ∷ [] → Elapses (length events) (length events') (WasImage first events) (WasImage first' events') (IsImage first' events')
  push_time e is = same_time (events ++ e ∷ []) is (elapses_push first events e)

  module _ (at : ℕ) (bytes : List ℕ) (v : Vec ℕ Global) (copy : v.items ≡ bytes) (is : events' ≡ events ++ Wrote at v ∷ []) where
    pub wrote_images : are_within (length (state_of first' events').synced) (state_of first' events').pending ≡ true → Follows (Torn at (length bytes)) (IsImage first events) (IsImage first' events')
    wrote_images placed =
        subst (λ (b : List ℕ). Follows (Torn at (length b)) (IsImage first events) (IsImage first' events')) copy
        (images_follow first first' events events' (Wrote at v) (Written at v.items) same is (λ s. refl) placed)

    pub wrote_done : at ≤ length (held_after first events) → Some (held_after first' events') ≡ of_told (written at bytes) (Some (held_after first events))
    wrote_done le = ap Some
        (held_is first first' events events' (Wrote at v) (Written at v.items) same is (λ s. refl) ∙ laid_is at v.items (held_after first events) le
        ∙ ap (λ (b : List ℕ). written at b (held_after first events)) copy)

    pub wrote_waits : state_of first' events' ≡ waiting (Written at bytes) (state_of first events)
    wrote_waits =
        state_is first first' events events' (Wrote at v) (Written at v.items) same is (λ s. refl)
        ∙ ap (λ (b : List ℕ). waiting (Written at b) (state_of first events)) copy

  module _ (len : ℕ) (is : events' ≡ events ++ Cut len ∷ []) where
    pub cut_images : are_within (length (state_of first' events').synced) (state_of first' events').pending ≡ true → Follows (Shortened len) (IsImage first events) (IsImage first' events')
    cut_images placed = images_follow first first' events events' (Cut len) (CutTo len) same is (λ s. refl) placed

    pub cut_done : Some (held_after first' events') ≡ of_told (take len) (Some (held_after first events))
    cut_done = ap Some (held_is first first' events events' (Cut len) (CutTo len) same is (λ s. refl))

    pub cut_waits : state_of first' events' ≡ waiting (CutTo len) (state_of first events)
    cut_waits = state_is first first' events events' (Cut len) (CutTo len) same is (λ s. refl)

  module _ (image : Image) (is : ((events' ≡ events) × ((state_of first events).pending ≡ [])) ⊎ (events' ≡ events ++ Settled image ∷ [])) where
    pub settle_time : Elapses (length events) (length events') (WasImage first events) (WasImage first' events') (IsImage first' events')
    settle_time = ⊎_elim (λ none. same_time events none.0 (elapses_none first events)) (push_time (Settled image)) is

    pub settle_state : state_of first' events' ≡ settled image (state_of first events)
    settle_state =
        let s = state_of first events in
        ap (λ (f : List ℕ). state_of f events') same
        ∙ ⊎_elim
        (λ none. ap (λ (es : List Event). state_of first es) none.0
        ∙ ap (λ (es : List Change). waiting_all s.synced es) none.1 ∙ sym (ap (λ (es : List Change). waiting_all (puts image es s.synced) []) none.1))
        (λ more. settled_state first events events' image more) is

    -- what is held then
    left : held_after first' events' ≡ left_by image (state_of first events)
    left =
        ap (λ (f : List ℕ). held_after f events') same
        ∙ ⊎_elim
        (λ none. ap (λ (es : List Event). held_after first es) none.0 ∙ ap (λ (es : List Change). puts New es (state_of first events).synced) none.1 ∙ sym (ap (λ (es : List Change). puts image es (state_of first events).synced) none.1))
        (λ more. settled_held first events events' image more) is

    -- nothing else may be left
    only : (c : List ℕ) → IsImage first' events' c → c ≡ left_by image (state_of first events)
    only c may =
        let now : IsImage first events' c = subst (λ (f : List ℕ). IsImage f events' c) same may in
        ⊎_elim
        (λ none. (let here : Allowed (state_of first events).synced [] c = subst (λ (es : List Change). Allowed (state_of first events).synced es c) none.1 (subst (λ (es : List Event). IsImage first es c) none.0 now) in
        allowed_is_reached [] (state_of first events).synced c (length (state_of first events).synced) refl (inr (omega arith)) here
        ∙ sym (ap (λ (es : List Change). puts image es (state_of first events).synced) none.1)))
        (λ more. settled_only first events events' image more c now) is

    pub settle_only : Only (Some (held_after first' events')) (IsImage first' events')
    settle_only c may = ap Some (left ∙ sym (only c may))

    pub settle_no_more : NoMore (IsImage first events) (IsImage first' events')
    settle_no_more c may = subst (IsImage first events) (sym (only c may)) (left_may_be first events image)

    pub settle_image : Tells (Some (held_after first' events')) (IsImage first events)
    settle_image c holds = let now : held_after first' events' ≡ c = cc holds in subst (IsImage first events) (sym left ∙ now) (left_may_be first events image)

  module _ (is : ((events' ≡ events) × ((state_of first events).pending ≡ [])) ⊎ (events' ≡ events ++ Settled New ∷ [])) where
    pub sync_same : Some (held_after first' events') ≡ Some (held_after first events)
    sync_same = ap Some (left New is)

    pub sync_only : Only (Some (held_after first events)) (IsImage first' events')
    sync_only c may = sym sync_same ∙ settle_only New is c may

-- a disk that was just made may be left as it is alone
pub new_only : (bytes first : List ℕ) (events : List Event) → first ≡ bytes → events ≡ [] → Only (Some bytes) (IsImage first events)
new_only bytes first events same none c left =
    let here : Allowed bytes [] c = subst (λ (f : List ℕ). Allowed f [] c) same (subst (λ (es : List Event). IsImage first es c) none left) in
    ap Some (sym (allowed_is_reached [] bytes c (length bytes) refl (inr (omega arith)) here))
