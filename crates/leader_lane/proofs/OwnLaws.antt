-- Own steps along a journal's calls.
use Rattle.std.proofs.Common.{◌≡◌, inl, inr, List, [], ◌∷◌, ◌++◌, reverse, Bool, true, false, refl, sym, ap, subst}
use Rattle.std.proofs.lemmas.List.{reverse-append}
use Rattle.lane_records.specs.declared.record.Record.{Record}
use Rattle.part_journal.specs.Pages.{Pages, done, refused, settled, reopening, reopened, restarts, first_pages, IsBack, Restarted, UnderWay, Opening}
use Rattle.leader_lane.specs.Judge.{Env}
use Rattle.leader_lane.specs.Sound.{IsPlace, opener_of, Sound}
use Rattle.leader_lane.specs.Own.{Own, own, OwnStep, Reopens, Opened, Ends, Stops, StepMay, after, OwnSteps, Steps}
use Rattle.leader_lane.proofs.SoundLaws.{sound_more, open_may, sound_front}

abbrev own_of : List Record → List Record → Bool → Own
own_of l block up = record { l = l; block = block; up = up }

module _ (env : Env) where
  -- ---- lists of steps

  pub steps_none : (w : Own) → Steps env w w
  steps_none w = ([], refl)

  pub steps_is : (w v : Own) → v ≡ w → Steps env w v
  steps_is w v e = ([], e)

  own_then : (steps more : List OwnStep) (u v w : Own) → OwnSteps env u steps v → OwnSteps env v more w → OwnSteps env u (steps ++ more) w
  own_then [] more u v w e then = subst (λ (z : Own). OwnSteps env z more w) e then
  own_then (s ∷ steps) more u v w (may, rest) then = (may, own_then steps more (after env u s) v w rest then)

  pub steps_then : (u v w : Own) → Steps env u v → Steps env v w → Steps env u w
  steps_then u v w a b = (a.0 ++ b.0, own_then a.0 b.0 u v w a.1 b.1)

  pub one_step : (u v : Own) (s : OwnStep) → StepMay env u s → v ≡ after env u s → Steps env u v
  one_step u v s may e = (s ∷ [], (may, e))

  -- ---- the moves of a journal's pages

  landed_own : (rs bs : List Record) (o : Bool) → own_of (reverse (rs ++ bs)) [] o ≡ own_of (reverse bs ++ reverse rs) [] o
  landed_own rs bs o = ap (λ (l : List Record). own_of l [] o) (reverse-append rs bs)

  pub steps_settled : (kept : Bool) (p : Pages Record) → Steps env (own p) (own (settled kept p))
  steps_settled true p = one_step (own p) (own (settled true p)) (Stops true) tt (landed_own p.records p.block false)
  steps_settled false p = one_step (own p) (own (settled false p)) (Stops false) tt refl

  pub steps_reopening : (p : Pages Record) → IsPlace env.place → Sound env.place p.records → p.opened ≡ false → p.block ≡ [] → Steps env (own p) (own (reopening (opener_of env.place) p))
  steps_reopening p is s down none =
      one_step (own p) (own (reopening (opener_of env.place) p)) Reopens (down, ap (λ (l : List Record). reverse l) none, open_may env.place p.records is s) refl

  pub steps_reopened : (p : Pages Record) → p.opened ≡ false → p.block ≡ opener_of env.place ∷ [] → Steps env (own p) (own (reopened p))
  steps_reopened p down one =
      one_step (own p) (own (reopened p)) Opened (down, ap (λ (l : List Record). reverse l) one) (landed_own p.records p.block true)

  pub steps_done : (p : Pages Record) → p.opened ≡ true → Steps env (own p) (own (done p))
  steps_done p up = one_step (own p) (own (done p)) Ends up (landed_own p.records p.block p.opened)

  pub steps_refused : (p : Pages Record) → Steps env (own p) (own (refused p))
  steps_refused p = steps_none (own p)

  -- ---- restarts

  settled_opened : (kept : Bool) (p : Pages Record) → (settled kept p).opened ≡ false
  settled_opened true p = refl
  settled_opened false p = refl

  settled_block : (kept : Bool) (p : Pages Record) → (settled kept p).block ≡ []
  settled_block true p = refl
  settled_block false p = refl

  settled_sound : (kept : Bool) (p : Pages Record) → Sound env.place (p.records ++ p.block) → Sound env.place (settled kept p).records
  settled_sound true p s = s
  settled_sound false p s = sound_front env.place p.records p.block s

  -- a restart and the begin of an Open
  pub steps_restart : (kept : Bool) (p : Pages Record) → IsPlace env.place → Sound env.place (p.records ++ p.block) → Steps env (own p) (own (reopening (opener_of env.place) (settled kept p)))
  steps_restart kept p is s =
      let q : Pages Record = settled kept p in
      steps_then (own p) (own q) (own (reopening (opener_of env.place) q)) (steps_settled kept p)
      (steps_reopening q is (settled_sound kept p s) (settled_opened kept p) (settled_block kept p))

  -- and then it may follow
  restart_sound : (kept : Bool) (p : Pages Record) → IsPlace env.place → Sound env.place (p.records ++ p.block) → Sound env.place ((settled kept p).records ++ opener_of env.place ∷ [])
  restart_sound kept p is s =
      let q = settled_sound kept p s in
      sound_more env.place (settled kept p).records (opener_of env.place) q (open_may env.place (settled kept p).records is q) (λ n e. cc e)

  pub steps_restarts : (more : List Bool) (p : Pages Record) → IsPlace env.place → Sound env.place (p.records ++ p.block)
      → Steps env (own p) (own (restarts (opener_of env.place) more p)) × Sound env.place ((restarts (opener_of env.place) more p).records ++ (restarts (opener_of env.place) more p).block)
  steps_restarts [] p is s = (steps_none (own p), s)
  steps_restarts (kept ∷ more) p is s =
      let q : Pages Record = reopening (opener_of env.place) (settled kept p) in
      let rec = steps_restarts more q is (restart_sound kept p is s) in
      (steps_then (own p) (own q) (own (restarts (opener_of env.place) more q)) (steps_restart kept p is s) rec.0, rec.1)

  reopening_block : (more : List Bool) (p : Pages Record) → p.block ≡ opener_of env.place ∷ [] → p.opened ≡ false
      → ((restarts (opener_of env.place) more p).block ≡ opener_of env.place ∷ []) × ((restarts (opener_of env.place) more p).opened ≡ false)
  reopening_block [] p one down = (one, down)
  reopening_block (kept ∷ more) p one down = reopening_block more (reopening (opener_of env.place) (settled kept p)) refl (settled_opened kept p)

  along : (u : Own) (p q : Pages Record) → q ≡ p → Steps env u (own p) → Steps env u (own q)
  along u p q e s = subst (λ (z : Pages Record). Steps env u (own z)) (sym e) s

  -- with an Open in hand: it comes to count
  pub steps_back : (p q : Pages Record) → IsPlace env.place → Sound env.place (p.records ++ p.block) → p.block ≡ opener_of env.place ∷ [] → p.opened ≡ false → IsBack (opener_of env.place) p q → Steps env (own p) (own q)
  steps_back p q is s one down (more, e) =
      let r : Pages Record = restarts (opener_of env.place) more p in
      let a = steps_restarts more p is s in
      let b = reopening_block more p one down in
      along (own p) (reopened r) q e (steps_then (own p) (own r) (own (reopened r)) a.0 (steps_reopened r b.1 b.0))

  -- a restart that comes back
  pub steps_restarted : (kept : Bool) (p q : Pages Record) → IsPlace env.place → Sound env.place (p.records ++ p.block) → Restarted (opener_of env.place) kept p q → Steps env (own p) (own q)
  steps_restarted kept p q is s back =
      let r : Pages Record = reopening (opener_of env.place) (settled kept p) in
      steps_then (own p) (own r) (own q) (steps_restart kept p is s)
      (steps_back r q is (restart_sound kept p is s) refl (settled_opened kept p) back)

  -- a call that is refused on the way back
  pub steps_under_way : (p q : Pages Record) → IsPlace env.place → Sound env.place (p.records ++ p.block) → UnderWay (opener_of env.place) p q → Steps env (own p) (own q)
  steps_under_way p q is s (more, inl e) = along (own p) (restarts (opener_of env.place) more p) q e (steps_restarts more p is s).0
  steps_under_way p q is s (more, inr (kept, e)) =
      let r : Pages Record = restarts (opener_of env.place) more p in
      along (own p) (settled kept r) q e (steps_then (own p) (own r) (own (settled kept r)) (steps_restarts more p is s).0 (steps_settled kept r))

  -- ---- an opening

  first_sound : (recs : List Record) → IsPlace env.place → Sound env.place recs → Sound env.place (recs ++ opener_of env.place ∷ [])
  first_sound recs is s = sound_more env.place recs (opener_of env.place) s (open_may env.place recs is s) (λ n e. cc e)

  pub steps_opened : (recs : List Record) (q : Pages Record) → IsPlace env.place → Sound env.place recs → IsBack (opener_of env.place) (reopening (opener_of env.place) (first_pages recs)) q → Steps env (own (first_pages recs)) (own q)
  steps_opened recs q is s back =
      let p : Pages Record = first_pages recs in
      let r : Pages Record = reopening (opener_of env.place) p in
      steps_then (own p) (own r) (own q) (steps_reopening p is s refl refl) (steps_back r q is (first_sound recs is s) refl refl back)

  pub steps_opening : (recs : List Record) (q : Pages Record) → IsPlace env.place → Sound env.place recs → Opening (opener_of env.place) (first_pages recs) q → Steps env (own (first_pages recs)) (own q)
  steps_opening recs q is s (inl e) = along (own (first_pages recs)) (first_pages recs) q e (steps_none (own (first_pages recs)))
  steps_opening recs q is s (inr way) =
      let p : Pages Record = first_pages recs in
      let r : Pages Record = reopening (opener_of env.place) p in
      steps_then (own p) (own r) (own q) (steps_reopening p is s refl refl) (steps_under_way r q is (first_sound recs is s) way)
