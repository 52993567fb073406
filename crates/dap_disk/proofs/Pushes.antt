-- A disk's history with one call more.
use Rattle.std.proofs.Common.{◌≡◌, inr, ℕ, ◌≤◌, List, [], ◌∷◌, ◌++◌, length, drop, true, refl, sym, ◌∙◌, ap, subst, arith}
use Rattle.std.proofs.lemmas.List.{append-nil, drop-append-le}
use Rattle.std.proofs.lemmas.List.Concat.{flat_map-append}
use Rattle.dap_disk.specs.declared.image.Image.{Image}
use Rattle.dap_disk.specs.declared.image.Image.TheVariants.{New}
use Rattle.dap_disk.specs.declared.event.Event.{Event}
use Rattle.dap_disk.specs.declared.event.Event.TheVariants.{Settled}
use Rattle.dap_disk.specs.Disk.{Follows}
use Rattle.dap_disk.specs.Images.{Change, Allowed, greatest, are_within}
use Rattle.dap_disk.specs.ImageLaws.{reached_is_allowed, allowed_is_reached, greatest-append}
use Rattle.dap_disk.specs.Steps.{Takes, Reaches}
use Rattle.dap_disk.specs.History.{put, puts, change_of, changes_of, State, left_by, after, replay, state_of, held_after, IsImage}
use Rattle.dap_disk.proofs.Rules.{puts-append, within-append, greatest_both}

replay-append : (s : State) (es fs : List Event) → replay s (es ++ fs) ≡ replay (replay s es) fs
replay-append s [] fs = refl
replay-append s (e ∷ es) fs = replay-append (after s e) es fs

state_push : (first : List ℕ) (events : List Event) (e : Event) → state_of first (events ++ e ∷ []) ≡ after (state_of first events) e
state_push first events e = replay-append (record { synced = first; pending = [] }) events (e ∷ [])

reaches_push : (es : List Change) (e : Change) (synced c : List ℕ) → Reaches (es ++ e ∷ []) synced c → (d : List ℕ) × Reaches es synced d × Takes e d c
reaches_push [] e synced c r = (synced, refl, subst (λ (x : List ℕ). Takes e synced x) (sym r.2) r.1)
reaches_push (f ∷ es) e synced c r = let rest = reaches_push es e r.0 c r.2 in (rest.0, (r.0, r.1, rest.1), rest.2)

-- the call is a change, which waits for a sync
module _ (first first' : List ℕ) (events events' : List Event) (e : Event) (change : Change) (same : first' ≡ first) (is : events' ≡ events ++ e ∷ [])
    (waits : (s : State) → after s e ≡ record { synced = s.synced; pending = s.pending ++ change ∷ [] }) where
  pub state_is : state_of first' events' ≡ record { synced = (state_of first events).synced; pending = (state_of first events).pending ++ change ∷ [] }
  state_is = ap (λ (f : List ℕ). state_of f events') same ∙ ap (λ (es : List Event). state_of first es) is ∙ state_push first events e ∙ waits (state_of first events)

  pub synced_is : (state_of first' events').synced ≡ (state_of first events).synced
  synced_is = ap (λ (s : State). s.synced) state_is

  pub held_is : held_after first' events' ≡ put New change (held_after first events)
  held_is = ap (left_by New) state_is ∙ puts-append New (state_of first events).pending (change ∷ []) (state_of first events).synced

  pub within_is : are_within (length (state_of first events).synced) (state_of first events).pending ≡ true → are_within (length (held_after first events)) (change ∷ []) ≡ true
      → are_within (length (state_of first' events').synced) (state_of first' events').pending ≡ true
  within_is ok here =
      subst (λ (s : State). are_within (length s.synced) s.pending ≡ true) (sym state_is)
      (within-append (state_of first events).pending (change ∷ []) (state_of first events).synced ok here)

  pub images_follow : are_within (length (state_of first' events').synced) (state_of first' events').pending ≡ true → Follows (Takes change) (IsImage first events) (IsImage first' events')
  images_follow ok c left =
      let s = state_of first events in
      let within : are_within (length s.synced) (s.pending ++ change ∷ []) ≡ true = subst (λ (t : State). are_within (length t.synced) t.pending ≡ true) state_is ok in
      let allowed : Allowed s.synced (s.pending ++ change ∷ []) c = subst (λ (t : State). Allowed t.synced t.pending c) state_is left in
      let from = reaches_push s.pending change s.synced c (allowed_is_reached (s.pending ++ change ∷ []) s.synced c (length s.synced) within (inr (omega arith)) allowed) in
      (from.0, reached_is_allowed s.pending s.synced from.0 from.1, from.2)

  module _ (settled : ℕ) (le : settled ≤ length events) (one : change_of e ≡ change ∷ []) where
    later_is : changes_of (drop settled events') ≡ changes_of (drop settled events) ++ change ∷ []
    later_is =
        ap (λ (es : List Event). changes_of (drop settled es)) is ∙ ap changes_of (drop-append-le settled events (e ∷ []) le) ∙ flat_map-append change_of (drop settled events) (e ∷ [])
        ∙ ap (λ (l : List Change). changes_of (drop settled events) ++ l) (append-nil (change_of e) ∙ one)

    pub pending_is : changes_of (drop settled events) ≡ (state_of first events).pending → changes_of (drop settled events') ≡ (state_of first' events').pending
    pending_is was = later_is ∙ ap (λ (l : List Change). l ++ change ∷ []) was ∙ sym (ap (λ (s : State). s.pending) state_is)

    pub greatest_within : (n cap : ℕ) → greatest n (changes_of (drop settled events)) ≤ cap → greatest 0 (change ∷ []) ≤ cap → greatest n (changes_of (drop settled events')) ≤ cap
    greatest_within n cap before itself =
        subst (λ (m : ℕ). m ≤ cap) (sym (ap (greatest n) later_is ∙ greatest-append n (changes_of (drop settled events)) (change ∷ [])))
        (greatest_both (greatest n (changes_of (drop settled events))) cap change before itself)

-- the call is a sync or restart
module _ (first : List ℕ) (events events' : List Event) (image : Image) (is : events' ≡ events ++ Settled image ∷ []) where
  pub settled_state : state_of first events' ≡ record { synced = left_by image (state_of first events); pending = [] }
  settled_state = ap (λ (es : List Event). state_of first es) is ∙ state_push first events (Settled image)

  pub settled_held : held_after first events' ≡ left_by image (state_of first events)
  settled_held = ap (left_by New) settled_state

  pub settled_within : are_within (length (state_of first events').synced) (state_of first events').pending ≡ true
  settled_within = subst (λ (s : State). are_within (length s.synced) s.pending ≡ true) (sym settled_state) refl

  -- nothing else may be left
  pub settled_only : (c : List ℕ) → IsImage first events' c → c ≡ left_by image (state_of first events)
  settled_only c left =
      let here : Allowed (left_by image (state_of first events)) [] c = subst (λ (s : State). Allowed s.synced s.pending c) settled_state left in
      allowed_is_reached [] (left_by image (state_of first events)) c (length (left_by image (state_of first events))) refl (inr (omega arith)) here

-- what the rule leaves of what was synced
pub left_is : (first : List ℕ) (events : List Event) (settled : ℕ) (image : Image) (synced now : List ℕ) → synced ≡ (state_of first events).synced → changes_of (drop settled events) ≡ (state_of first events).pending
    → now ≡ puts image (changes_of (drop settled events)) synced → now ≡ left_by image (state_of first events)
left_is first events settled image synced now base pending is =
    is ∙ ap (λ (c : List ℕ). puts image (changes_of (drop settled events)) c) base ∙ ap (λ (es : List Change). puts image es (state_of first events).synced) pending
