use Rattle.std.proofs.Common.{◌≡◌, List, ◌++◌, ◌∷◌, [], ◌∙◌, ap, sym, subst, refl, arith, set}
use Rattle.vdaf_api.specs.Kind.{IsKind}
use Rattle.dap_batch.specs.Group.{batch_start}
use Rattle.dap_messages.specs.declared.report.Report.{Report}
use Rattle.dap_tasks.specs.Task.{PlainTask}
use Rattle.dap_direct.proofs.ContentLemmas.{contents_few, rejected_few}
use Rattle.dap_direct.proofs.KeepLemmas.{counted_as, others_keep, out_as, own_keeps, place_sums, ready_as}
use Rattle.dap_direct.specs.Sums.{IsSummed}
use Rattle.dap_direct.proofs.state.Direct.add.Goals as goal

pub count-requires : goal.count-requires
count-requires g c =
    let f = g.V.Vdaf.of_kind in
    let task : PlainTask = c.args.task.now in
    let acc = c.args.self.now.accepted in
    let start = batch_start c.args.new.time task.precision in
    let x = c.index_mut-sums.result.now in
    let ready = ready_as c.requires.kind (ap (λ (t : PlainTask). t.name) c.task.view_is)
    (c.batch_of-start.ensures.value ∙ ap (λ (t : PlainTask). batch_start c.args.new.time t.precision) c.task.view_is) c.in_ok-place.ensures in
    let sums = place_sums f task acc start c.args.self.now.sums.items c.ready.new.sums.items c.in_ok-place.place x ready c.index_mut-sums.ensures.value c.requires.sums in
    record {
      leader = out_as _ _ x.leader.items c.requires.kind sums.leader;
      helper = out_as _ _ x.helper.items c.requires.kind sums.helper;
      outs = c.in_ok-outs.ensures.outs;
      reports = omega (arith, sums.counted, contents_few f task start acc, c.requires.few);
      rejected = omega (arith, sums.barred, rejected_few f task start acc, c.requires.few);
    }

pub returns : goal.returns
returns g c =
    let f = g.V.Vdaf.of_kind in
    let task : PlainTask = c.args.task.now in
    let acc = c.args.self.now.accepted in
    let new : Report = c.args.new in
    let x = c.index_mut-sums.result.now in
    let y = c.count.new.self in
    let old = c.args.self.now.sums.items in
    let sums = c.ready.new.sums.items in
    let place = c.in_ok-place.place in
    let ready = ready_as c.requires.kind (ap (λ (t : PlainTask). t.name) c.task.view_is)
    (c.batch_of-start.ensures.value ∙ ap (λ (t : PlainTask). batch_start c.args.new.time t.precision) c.task.view_is) c.in_ok-place.ensures in
    let counted = counted_as f task new c.in_ok-outs.outs old sums place x y (g.V.Vdaf.functions c.args.vdaf.now)
    c.requires.kind c.requires.of_task ready c.index_mut-sums.ensures.value
    c.in_ok-outs.ensures.outs c.in_ok-outs.ensures.content c.count.ensures in
    let laws = (g.met.V.Vdaf.kind_laws task.kind (subst (λ (t : PlainTask). IsKind t.kind) c.task.view_is c.task.invariant.0.kind_ranges)).space in
    let accepted : c.push.new.self ≡ acc ++ new ∷ [] = c.in_ok-push.ensures in
    record {
      accepted = accepted;
      moment = refl;
      collected = refl;
      offered = refl;
      sums = record {
        own = subst (λ (l : List Report). IsSummed f task l (set sums place y)) (sym accepted) (own_keeps f task acc new c.in_ok-outs.outs old sums place x y laws counted c.requires.sums);
        others = λ other differs summed.
            subst (λ (l : List Report). IsSummed f other l (set sums place y)) (sym accepted) (others_keep f task acc new c.in_ok-outs.outs old sums place x y counted other differs summed);
      };
    }
