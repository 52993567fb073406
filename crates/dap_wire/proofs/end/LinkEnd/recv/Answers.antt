use Rattle.std.proofs.Common.{ℕ, List, Contains, subst}
use Rattle.rtrb.specs.Ring.{received}
use Rattle.dap_wire.proofs.Ends.{end_fated, end_released, shown_fated, shown_handed, carried_at, taken_from, answered, Contains-released, Contains-handed}
use Rattle.dap_wire.proofs.end.LinkEnd.recv.Goals as goal

pub invariant_of-self : goal.invariant_of-self
invariant_of-self g c =
    rw c.is_empty.ensures.looked.1 (end_released _ _ _ _ _ _ _ c.release.result c.release.ensures c.self.invariant)

pub returns-then-is_empty-clause-handed : goal.returns-then-is_empty-clause-handed
returns-then-is_empty-clause-handed g c = λ m is.
    rw c.is_empty.ensures.looked.1 (c.self.invariant.shown m (Contains-handed c.release.result c.self.inside.held.items c.release.new.held.items m c.release.ensures cc))

pub returns-then-is_empty-clause-held : goal.returns-then-is_empty-clause-held
returns-then-is_empty-clause-held g c = λ m at.
    rw c.is_empty.ensures.looked.1 (c.self.invariant.shown m (Contains-released c.release.result c.self.inside.held.items c.release.new.held.items m c.release.ensures at))

pub returns-in_err-reserve-clause-held : goal.returns-in_err-reserve-clause-held
returns-in_err-reserve-clause-held g c = λ m at.
    rw c.is_empty.ensures.looked.1 (c.self.invariant.shown m (subst (λ (l : List (List ℕ)). Contains l m) c.reserve.ensures.items at))

pub returns-in_err-fate-clause-held : goal.returns-in_err-fate-clause-held
returns-in_err-fate-clause-held g c = λ m at.
    rw (c.in_err-fate.ensures.err.0, c.is_empty.ensures.looked.1, c.in_err-fate.ensures.err.2)
    (c.self.invariant.shown m (subst (λ (l : List (List ℕ)). Contains l m) c.reserve.ensures.items at))

pub invariant_of-self-2 : goal.invariant_of-self-2
invariant_of-self-2 g c =
    let taken = taken_from c.in_ok-fate.message c.in_ok-fate.ensures.taken.0 c.is_empty.ensures.looked.1 in
    rw (taken, c.hold_back.ensures.held, c.reserve.ensures.items, c.row_after-self-inside.ensures)
    (end_fated _ _ _ _ _ _ _ c.in_ok-fate.fate c.in_ok-fate.message c.in_ok-fate.ensures.fated c.self.invariant)

pub returns-clause-handed : goal.returns-clause-handed
returns-clause-handed g c = λ m is.
    let taken = taken_from c.in_ok-fate.message c.in_ok-fate.ensures.taken.0 c.is_empty.ensures.looked.1 in
    rw taken (shown_handed _ _ _ c.in_ok-fate.fate c.in_ok-fate.message (received c.self.inside.ring) m c.in_ok-fate.ensures.fated c.self.invariant.grew
    (answered c.hold_back.result c.in_ok-fate.fate c.in_ok-fate.message m c.hold_back.ensures.ok is))

pub returns-clause-held : goal.returns-clause-held
returns-clause-held g c = λ m at.
    let taken = taken_from c.in_ok-fate.message c.in_ok-fate.ensures.taken.0 c.is_empty.ensures.looked.1 in
    let kept = end_fated _ _ _ _ _ _ _ c.in_ok-fate.fate c.in_ok-fate.message c.in_ok-fate.ensures.fated c.self.invariant in
    rw taken (kept.shown m (rw (c.hold_back.ensures.held, c.reserve.ensures.items) at at))

pub returns-clause-keeps : goal.returns-clause-keeps
returns-clause-keeps g c = λ m is.
    let taken = taken_from c.in_ok-fate.message c.in_ok-fate.ensures.taken.0 c.is_empty.ensures.looked.1 in
    rw taken (shown_fated _ _ _ c.in_ok-fate.fate c.in_ok-fate.message (received c.self.inside.ring) m c.in_ok-fate.ensures.fated (carried_at g.T.Fates.carried _ c.args.self.now m c.self.view_is is))
