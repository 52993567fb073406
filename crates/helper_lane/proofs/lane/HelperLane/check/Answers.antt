use Rattle.std.proofs.Common.{◌≡◌, ℕ, List, reverse, sym, subst, ◌∙◌, arith}
use Rattle.std.specs.Prelude.{IsTrue}
use Rattle.dap_bytes.specs.declared.node.Node.TheVariants.{Helper}
use Rattle.dap_bytes.specs.declared.part.Part.TheVariants.{Lane}
use Rattle.dap_views.specs.Request.{request_of}
use Rattle.lane_records.specs.declared.record.Record.{Record}
use Rattle.legal_journals.specs.HelperIndexed.{HelperIndexes}
use Rattle.legal_journals.specs.Legal.{IsLegalJournal}
use Rattle.helper_lane.specs.Judged.{Checks}
use Rattle.helper_lane.specs.Lane.{HelperView, env, records}
use Rattle.helper_lane.proofs.lane.HelperLane.check.Goals as goal

pub new-known-requires-clause-legal : goal.new-known-requires-clause-legal
new-known-requires-clause-legal g c =
    (c.self.inside.place.lane, subst (λ (l : List Record). IsLegalJournal Helper (Lane c.self.inside.place.lane) l) (sym c.records.ensures.records) c.self.invariant.0.keeps.without.legal)

pub new-known-requires-clause-indexed : goal.new-known-requires-clause-indexed
new-known-requires-clause-indexed g c =
    let up : IsTrue c.self.inside.up = subst (λ (z : HelperView g.row.D.Denot g.row.T.Denot). IsTrue z.up) (sym c.self.view_is) c.requires in
    subst (λ (l : List Record). HelperIndexes c.self.inside.known.index l) (sym c.records.ensures.records) (c.self.invariant.2 up).indexes

pub check_whole-requires-clause-lanes : goal.check_whole-requires-clause-lanes
check_whole-requires-clause-lanes g c = let some = c.self.invariant.0.made.some_lane in omega (arith, some)

pub check_whole-requires-clause-request : goal.check_whole-requires-clause-request
check_whole-requires-clause-request g c = let q = request_of c.args.request in (q.job, q.name, c.bytes-bytes.ensures.request)

pub returns : goal.returns
returns g c =
    let v : HelperView g.row.D.Denot g.row.T.Denot = record { part = c.self.inside.journal; tasks = c.self.inside.tasks; place = c.self.inside.place; link = c.self.inside.link; hand = c.self.inside.hand.items; up = c.self.inside.up; stopped = c.self.inside.stopped } in
    let same : c.new-known.result.records.now ≡ v.part.pages.records = c.new-known.ensures ∙ c.records.ensures.records in
    let here = subst (λ (l : List Record). Checks (env g.V.Vdaf.of_kind v) (reverse l) c.bytes-bytes.result.now c.check_whole.result) same c.check_whole.ensures in
    subst (λ (z : HelperView g.row.D.Denot g.row.T.Denot). Checks (env g.V.Vdaf.of_kind z) (records z) (request_of c.args.request).message c.check_whole.result) c.self.view_is
    (subst (λ (m : List ℕ). Checks (env g.V.Vdaf.of_kind v) (records v) m c.check_whole.result) c.bytes-bytes.ensures.bytes here)
