use Rattle.std.proofs.Common.{◌≡◌, Some, None, ap, subst, ◌∙◌, arith}
use Rattle.std.specs.List.{find}
use Rattle.vdaf_api.specs.Kind.{IsKind}
use Rattle.dap_tasks.specs.Task.{PlainTask}
use Rattle.dap_direct.proofs.CollectLemmas.{found_sums, joins_found, joins_missing}
use Rattle.dap_direct.proofs.KeepLemmas.{out_as}
use Rattle.dap_direct.specs.Sums.{AddsSums, is_of}
use Rattle.dap_direct.proofs.state.Direct.join_bucket.Goals as goal

pub join-requires-clause-other_leader : goal.join-requires-clause-other_leader
join-requires-clause-other_leader g c =
    let f = g.V.Vdaf.of_kind in
    let task : PlainTask = c.args.task.now in
    let d = c.args.self.now in
    let bucket = c.in-Some.bucket.now in
    let name = ap (λ (t : PlainTask). t.name) c.task.view_is in
    let found : Some bucket ≡ find (is_of task.name c.args.start) d.sums.items = c.in-Some.ensures ∙ λ i. find (is_of (name i) c.args.start) (c.deref.ensures.value i) in
    out_as _ _ bucket.leader.items c.requires.kind (found_sums f task c.args.start d.accepted d.sums.items c.requires.sums bucket found).leader

pub join-requires-clause-other_helper : goal.join-requires-clause-other_helper
join-requires-clause-other_helper g c =
    let f = g.V.Vdaf.of_kind in
    let task : PlainTask = c.args.task.now in
    let d = c.args.self.now in
    let bucket = c.in-Some.bucket.now in
    let name = ap (λ (t : PlainTask). t.name) c.task.view_is in
    let found : Some bucket ≡ find (is_of task.name c.args.start) d.sums.items = c.in-Some.ensures ∙ λ i. find (is_of (name i) c.args.start) (c.deref.ensures.value i) in
    out_as _ _ bucket.helper.items c.requires.kind (found_sums f task c.args.start d.accepted d.sums.items c.requires.sums bucket found).helper

pub join-requires-clause-reports : goal.join-requires-clause-reports
join-requires-clause-reports g c =
    let f = g.V.Vdaf.of_kind in
    let task : PlainTask = c.args.task.now in
    let d = c.args.self.now in
    let bucket = c.in-Some.bucket.now in
    let name = ap (λ (t : PlainTask). t.name) c.task.view_is in
    let found : Some bucket ≡ find (is_of task.name c.args.start) d.sums.items = c.in-Some.ensures ∙ λ i. find (is_of (name i) c.args.start) (c.deref.ensures.value i) in
    omega (arith, (found_sums f task c.args.start d.accepted d.sums.items c.requires.sums bucket found).counted, c.requires.reports)

pub join-requires-clause-rejected : goal.join-requires-clause-rejected
join-requires-clause-rejected g c =
    let f = g.V.Vdaf.of_kind in
    let task : PlainTask = c.args.task.now in
    let d = c.args.self.now in
    let bucket = c.in-Some.bucket.now in
    let name = ap (λ (t : PlainTask). t.name) c.task.view_is in
    let found : Some bucket ≡ find (is_of task.name c.args.start) d.sums.items = c.in-Some.ensures ∙ λ i. find (is_of (name i) c.args.start) (c.deref.ensures.value i) in
    omega (arith, (found_sums f task c.args.start d.accepted d.sums.items c.requires.sums bucket found).barred, c.requires.rejected)

pub returns-in-Some : goal.returns-in-Some
returns-in-Some g c =
    let f = g.V.Vdaf.of_kind in
    let task : PlainTask = c.args.task.now in
    let d = c.args.self.now in
    let bucket = c.in-Some.bucket.now in
    let old = c.args.total.now in
    let new = c.join.new.self in
    let name = ap (λ (t : PlainTask). t.name) c.task.view_is in
    let found : Some bucket ≡ find (is_of task.name c.args.start) d.sums.items = c.in-Some.ensures ∙ λ i. find (is_of (name i) c.args.start) (c.deref.ensures.value i) in
    let laws = (g.met.V.Vdaf.kind_laws task.kind (subst (λ (t : PlainTask). IsKind t.kind) c.task.view_is c.task.invariant.0.kind_ranges)).space in
    joins_found f task c.args.start d.accepted d.sums.items c.requires.sums laws bucket old new found (subst (λ h. AddsSums h bucket old new) c.requires.kind c.join.ensures)

pub returns-in_default : goal.returns-in_default
returns-in_default g c =
    let f = g.V.Vdaf.of_kind in
    let task : PlainTask = c.args.task.now in
    let d = c.args.self.now in
    let name = ap (λ (t : PlainTask). t.name) c.task.view_is in
    let none : None ≡ find (is_of task.name c.args.start) d.sums.items = c.in_default.ensures ∙ λ i. find (is_of (name i) c.args.start) (c.deref.ensures.value i) in
    joins_missing f task c.args.start d.accepted d.sums.items c.requires.sums c.args.total.now none
