use Rattle.std.proofs.Common.{◌≡◌, inl, inr, ⊎_elim, ℕ, List, sym, ◌∙◌, subst, refl, reverse, Some, Result, Ok}
use Rattle.std.specs.Prelude.{IsTrue}
use Rattle.std.specs.declared.alloc.AllocError.{AllocError}
use Rattle.dap_bytes.specs.declared.node.Node.TheVariants.{Helper}
use Rattle.dap_bytes.specs.declared.part.Part.TheVariants.{Lane}
use Rattle.std.specs.List.{find}
use Rattle.dap_tasks.specs.Task.{has_name}
use Rattle.dap_wire.specs.Calls.{Outcome, Receives}
use Rattle.dap_wire.specs.Link.{IsCarried}
use Rattle.dap_wire.specs.declared.recv.Recv.{Recv}
use Rattle.dap_wire.specs.declared.recv.Recv.TheVariants as recvs
use Rattle.lane_records.specs.declared.record.Record.{Record}
use Rattle.legal_journals.specs.HelperIndexed.{HelperIndexes}
use Rattle.legal_journals.specs.Legal.{IsLegalJournal}
use Rattle.helper_lane.specs.Lane.{HelperView, Grows, SameLane, Steps, env, records}
use Rattle.helper_lane.specs.Takes.{Takes}
use Rattle.helper_lane.proofs.Calls.{grows_received, takes_hand, takes_held, unrefused}
use Rattle.helper_lane.proofs.Keeping.{received_keeps, steps_none}
use Rattle.helper_lane.proofs.lane.HelperLane.take.Goals as goal

pub new-known-requires-clause-legal : goal.new-known-requires-clause-legal
new-known-requires-clause-legal g c = (c.self.inside.place.lane, subst (λ (l : List Record). IsLegalJournal Helper (Lane c.self.inside.place.lane) l) (sym c.records.ensures.records) c.self.invariant.0.keeps.without.legal)

pub new-known-requires-clause-indexed : goal.new-known-requires-clause-indexed
new-known-requires-clause-indexed g c =
    let up : IsTrue c.self.inside.up = subst (λ (z : HelperView g.row.D.Denot g.row.T.Denot). IsTrue z.up) (sym c.self.view_is) c.requires in
    subst (λ (l : List Record). HelperIndexes c.self.inside.known.index l) (sym c.records.ensures.records) (c.self.invariant.2 up).indexes

pub invariant_of-self : goal.invariant_of-self
invariant_of-self g c =
    let v : HelperView g.row.D.Denot g.row.T.Denot = record { part = c.self.inside.journal; tasks = c.self.inside.tasks; place = c.self.inside.place; link = c.self.inside.link; hand = c.self.inside.hand.items; up = c.self.inside.up; stopped = c.self.inside.stopped } in
    let same : c.new-known.result.records.now ≡ v.part.pages.records = c.new-known.ensures ∙ c.records.ensures.records in (
      received_keeps g.V.Vdaf.of_kind g.T.Fates.carried v c.recv-got.new.self c.received.new.hand.items c.self.invariant.0 c.recv-got.ensures.end.sent c.recv-got.ensures.keeps
          (⊎_elim (λ e. inl e) (λ w. inr (
            w.0,
            c.recv-got.ensures.handed w.0 w.1,
            unrefused (env g.V.Vdaf.of_kind v) (records v) w.0 w.2,
            w.3,
          )) (takes_hand (env g.V.Vdaf.of_kind v) (records v) c.recv-got.result c.received.result v.hand c.received.new.hand.items
          (subst (λ (l : List Record). Takes (env g.V.Vdaf.of_kind v) (reverse l) c.recv-got.result c.received.result v.hand c.received.new.hand.items) same c.received.ensures))),
      c.self.invariant.1,
      c.self.invariant.2,
    )

pub returns-clause-takes : goal.returns-clause-takes
returns-clause-takes g c =
    let v : HelperView g.row.D.Denot g.row.T.Denot = record { part = c.self.inside.journal; tasks = c.self.inside.tasks; place = c.self.inside.place; link = c.self.inside.link; hand = c.self.inside.hand.items; up = c.self.inside.up; stopped = c.self.inside.stopped } in
    let same : c.new-known.result.records.now ≡ v.part.pages.records = c.new-known.ensures ∙ c.records.ensures.records in
    subst (λ (z : HelperView g.row.D.Denot g.row.T.Denot). (got : Result Recv AllocError) × Outcome g.T.Fates.gives z.link c.recv-got.new.self got
    × ((bytes : List ℕ) → got ≡ Ok (recvs.Message bytes) → IsCarried g.T.Fates.carried c.recv-got.new.self bytes)
    × Takes (env g.V.Vdaf.of_kind z) (records z) got c.received.result z.hand c.received.new.hand.items) c.self.view_is (
      c.recv-got.result,
      c.recv-got.ensures.outcome,
      (λ bytes e. c.recv-got.ensures.handed bytes e),
      subst (λ (l : List Record). Takes (env g.V.Vdaf.of_kind v) (reverse l) c.recv-got.result c.received.result v.hand c.received.new.hand.items) same c.received.ensures,
    )

pub returns-clause-link : goal.returns-clause-link
returns-clause-link g c = subst (λ (z : HelperView g.row.D.Denot g.row.T.Denot). Receives z.link c.recv-got.new.self) c.self.view_is c.recv-got.ensures.end

pub returns-clause-same : goal.returns-clause-same
returns-clause-same g c =
    let v : HelperView g.row.D.Denot g.row.T.Denot = record { part = c.self.inside.journal; tasks = c.self.inside.tasks; place = c.self.inside.place; link = c.self.inside.link; hand = c.self.inside.hand.items; up = c.self.inside.up; stopped = c.self.inside.stopped } in
    subst (λ (z : HelperView g.row.D.Denot g.row.T.Denot). SameLane z (record v { link = c.recv-got.new.self; hand = c.received.new.hand.items })) c.self.view_is
    (record { part = refl; tasks = refl; place = refl; up = refl; stopped = refl })

pub returns-clause-steps : goal.returns-clause-steps
returns-clause-steps g c =
    let v : HelperView g.row.D.Denot g.row.T.Denot = record { part = c.self.inside.journal; tasks = c.self.inside.tasks; place = c.self.inside.place; link = c.self.inside.link; hand = c.self.inside.hand.items; up = c.self.inside.up; stopped = c.self.inside.stopped } in
    let w : HelperView g.row.D.Denot g.row.T.Denot = record v { link = c.recv-got.new.self; hand = c.received.new.hand.items } in
    subst (λ (z : HelperView g.row.D.Denot g.row.T.Denot). Steps g.V.Vdaf.of_kind g.T.Fates.carried z w) c.self.view_is (steps_none g.V.Vdaf.of_kind g.T.Fates.carried v w refl c.recv-got.ensures.end.sent)

pub returns-clause-grows : goal.returns-clause-grows
returns-clause-grows g c =
    let v : HelperView g.row.D.Denot g.row.T.Denot = record { part = c.self.inside.journal; tasks = c.self.inside.tasks; place = c.self.inside.place; link = c.self.inside.link; hand = c.self.inside.hand.items; up = c.self.inside.up; stopped = c.self.inside.stopped } in
    subst (λ (z : HelperView g.row.D.Denot g.row.T.Denot). Grows g.D.Disk.downs g.D.Disk.deads g.T.Fates.drops z (record v { link = c.recv-got.new.self; hand = c.received.new.hand.items })) c.self.view_is
    (grows_received g.D.Disk.downs g.D.Disk.deads g.T.Fates.drops v c.recv-got.new.self c.received.new.hand.items c.recv-got.ensures.end c.recv-got.ensures.received c.recv-got.ensures.later)

pub returns-clause-held : goal.returns-clause-held
returns-clause-held g c = λ work told.
    let v : HelperView g.row.D.Denot g.row.T.Denot = record { part = c.self.inside.journal; tasks = c.self.inside.tasks; place = c.self.inside.place; link = c.self.inside.link; hand = c.self.inside.hand.items; up = c.self.inside.up; stopped = c.self.inside.stopped } in
    let same : c.new-known.result.records.now ≡ v.part.pages.records = c.new-known.ensures ∙ c.records.ensures.records in
    subst (λ (z : HelperView g.row.D.Denot g.row.T.Denot). find (has_name work.task.name) z.tasks ≡ Some work.task) c.self.view_is
    (takes_held (env g.V.Vdaf.of_kind v) (records v) c.recv-got.result c.received.result v.hand c.received.new.hand.items work
    (subst (λ (l : List Record). Takes (env g.V.Vdaf.of_kind v) (reverse l) c.recv-got.result c.received.result v.hand c.received.new.hand.items) same c.received.ensures) told)
