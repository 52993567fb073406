use Rattle.std.proofs.Common.{◌≡◌, inl, inr, ⊎_elim, List, sym, subst, refl, Err}
use Rattle.std.specs.Prelude.{IsTrue, max}
use Rattle.dap_wire.specs.Link.{IsCarried}
use Rattle.lane_records.specs.declared.place.LaneFault.TheVariants as faults
use Rattle.lane_records.specs.declared.record.Record.{Record}
use Rattle.part_journal.specs.Came.{Came}
use Rattle.part_journal.specs.Counts.{CountsStops}
use Rattle.part_journal.specs.Part.{DeadWhere}
use Rattle.part_journal.specs.declared.fault.PartFault.TheVariants as parts
use Rattle.helper_lane.specs.Known.{IsKnown, KnowsAll}
use Rattle.helper_lane.specs.Lane.{HelperView, Grows, Steps, env}
use Rattle.helper_lane.specs.Own.{Goes}
use Rattle.helper_lane.proofs.Calls.{awake_again, came_prefix, counts_along, either_way, goes_restarted, grows_moved, halted_by}
use Rattle.helper_lane.proofs.Entered.{known_further}
use Rattle.helper_lane.proofs.Keeping.{moved_keeps, moved_steps}
use Rattle.helper_lane.proofs.lane.HelperLane.restart.Goals as goal

pub caught_up-outcome-requires : goal.caught_up-outcome-requires
caught_up-outcome-requires g c =
    let grown = came_prefix c.self.inside.journal.opener c.self.inside.journal.pages c.restart-back.new.self.pages c.restart-back.ensures.came in
    subst (λ (l : List Record). IsKnown c.self.inside.known l) (sym c.records.ensures.records) (known_further c.self.inside.known c.self.inside.journal.pages.records c.restart-back.new.self.pages.records grown c.self.invariant.1)

pub invariant_of-self : goal.invariant_of-self
invariant_of-self g c =
    let v : HelperView g.row.D.Denot g.row.T.Denot = record { part = c.self.inside.journal; tasks = c.self.inside.tasks; place = c.self.inside.place; link = c.self.inside.link; hand = c.self.inside.hand.items; up = c.self.inside.up; stopped = c.self.inside.stopped } in
    let q = c.restart-back.new.self in
    let goes : Goes (env g.V.Vdaf.of_kind v) (IsCarried g.T.Fates.carried v.link) v.part.pages q.pages =
    goes_restarted (env g.V.Vdaf.of_kind v) c.self.invariant.0.made (IsCarried g.T.Fates.carried v.link) v.part.opener v.part.pages q.pages c.self.invariant.0.opener (either_way _ _ c.restart-back.result c.restart-back.ensures.ok c.restart-back.ensures.err) in
    let awake = λ (on : IsTrue c.is_ok-self-inside.result). awake_again v.part.opener v.part.pages q c.restart-back.result c.caught_up-outcome.result c.is_ok-self-inside.result c.is_stopped-self-inside.result c.is_ok-self-inside.ensures.value c.is_stopped-self-inside.ensures c.caught_up-outcome.ensures.ok c.restart-back.ensures.ok on in (
      moved_keeps g.V.Vdaf.of_kind g.T.Fates.carried v q c.clear.new.self.items c.is_ok-self-inside.result c.is_stopped-self-inside.result c.self.invariant.0 c.restart-back.ensures.same.0 c.restart-back.ensures.same.1 c.clear.ensures.items goes (λ on. (awake on).0)
          (λ s. halted_by (c.restart-back.result ≡ Err parts.Stopped) v.part q c.restart-back.ensures.dead (c.caught_up-outcome.ensures.stopped.0 (c.is_stopped-self-inside.ensures.0 s))),
      subst (λ (l : List Record). IsKnown c.caught_up-outcome.new.known l) c.records.ensures.records c.caught_up-outcome.ensures.known,
      λ on. subst (λ (l : List Record). KnowsAll c.caught_up-outcome.new.known l) c.records.ensures.records (awake on).1,
    )

pub returns-clause-came : goal.returns-clause-came
returns-clause-came g c = subst (λ (z : HelperView g.row.D.Denot g.row.T.Denot). Came z.part.opener z.part.pages c.restart-back.new.self.pages) c.self.view_is c.restart-back.ensures.came

pub returns-clause-counts : goal.returns-clause-counts
returns-clause-counts g c =
    let v : HelperView g.row.D.Denot g.row.T.Denot = record { part = c.self.inside.journal; tasks = c.self.inside.tasks; place = c.self.inside.place; link = c.self.inside.link; hand = c.self.inside.hand.items; up = c.self.inside.up; stopped = c.self.inside.stopped } in
    subst (λ (z : HelperView g.row.D.Denot g.row.T.Denot). CountsStops g.D.Disk.downs g.D.Disk.deads (c.caught_up-outcome.result ≡ Err faults.Stopped) (max z.part.left 1) c.restart-back.new.self.left z.part.disk c.restart-back.new.self.disk) c.self.view_is
    (counts_along g.D.Disk.downs g.D.Disk.deads (c.restart-back.result ≡ Err parts.Stopped) (c.caught_up-outcome.result ≡ Err faults.Stopped) (max v.part.left 1) c.restart-back.new.self.left v.part.disk c.restart-back.new.self.disk
    c.caught_up-outcome.ensures.stopped c.restart-back.ensures.counts)

pub returns-clause-dead : goal.returns-clause-dead
returns-clause-dead g c =
    let v : HelperView g.row.D.Denot g.row.T.Denot = record { part = c.self.inside.journal; tasks = c.self.inside.tasks; place = c.self.inside.place; link = c.self.inside.link; hand = c.self.inside.hand.items; up = c.self.inside.up; stopped = c.self.inside.stopped } in
    let d = c.restart-back.ensures.dead in
    let s = c.caught_up-outcome.ensures.stopped in
    subst (λ (z : HelperView g.row.D.Denot g.row.T.Denot). DeadWhere (c.caught_up-outcome.result ≡ Err faults.Stopped) z.part c.restart-back.new.self) c.self.view_is
    (λ now. ⊎_elim (λ was. inl was) (λ w. inr (s.1 w.0, w.1)) (d.0 now), λ h. d.1 (⊎_elim (λ was. inl was) (λ w. inr (s.0 w.0, w.1)) h))

pub returns-clause-steps : goal.returns-clause-steps
returns-clause-steps g c =
    let v : HelperView g.row.D.Denot g.row.T.Denot = record { part = c.self.inside.journal; tasks = c.self.inside.tasks; place = c.self.inside.place; link = c.self.inside.link; hand = c.self.inside.hand.items; up = c.self.inside.up; stopped = c.self.inside.stopped } in
    let q = c.restart-back.new.self in
    let w : HelperView g.row.D.Denot g.row.T.Denot = record v { part = q; hand = c.clear.new.self.items; up = c.is_ok-self-inside.result; stopped = c.is_stopped-self-inside.result } in
    let goes : Goes (env g.V.Vdaf.of_kind v) (IsCarried g.T.Fates.carried v.link) v.part.pages q.pages =
    goes_restarted (env g.V.Vdaf.of_kind v) c.self.invariant.0.made (IsCarried g.T.Fates.carried v.link) v.part.opener v.part.pages q.pages c.self.invariant.0.opener (either_way _ _ c.restart-back.result c.restart-back.ensures.ok c.restart-back.ensures.err) in
    subst (λ (z : HelperView g.row.D.Denot g.row.T.Denot). Steps g.V.Vdaf.of_kind g.T.Fates.carried z w) c.self.view_is (moved_steps g.V.Vdaf.of_kind g.T.Fates.carried v w c.self.invariant.0 goes refl)

pub returns-clause-grows : goal.returns-clause-grows
returns-clause-grows g c =
    let v : HelperView g.row.D.Denot g.row.T.Denot = record { part = c.self.inside.journal; tasks = c.self.inside.tasks; place = c.self.inside.place; link = c.self.inside.link; hand = c.self.inside.hand.items; up = c.self.inside.up; stopped = c.self.inside.stopped } in
    let q = c.restart-back.new.self in
    subst (λ (z : HelperView g.row.D.Denot g.row.T.Denot). Grows g.D.Disk.downs g.D.Disk.deads g.T.Fates.drops z (record v { part = q; hand = c.clear.new.self.items; up = c.is_ok-self-inside.result; stopped = c.is_stopped-self-inside.result })) c.self.view_is
    (grows_moved g.D.Disk.downs g.D.Disk.deads g.T.Fates.drops v q c.clear.new.self.items c.is_ok-self-inside.result c.is_stopped-self-inside.result c.restart-back.ensures.same (came_prefix v.part.opener v.part.pages q.pages c.restart-back.ensures.came)
    c.restart-back.ensures.counts.stops.never_falls c.restart-back.ensures.counts.deaths.never_falls)
