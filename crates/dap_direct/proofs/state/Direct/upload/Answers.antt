use Rattle.std.proofs.Common.{◌≡◌, List, Some, sym, ap, ◌∙◌}
use Rattle.dap_model.specs.Step.{name_in}
use Rattle.dap_tasks.specs.Task.{PlainTask}
use Rattle.dap_direct.proofs.DirectLemmas.{IfOk-map}
use Rattle.dap_direct.proofs.StepLemmas.{upload-offers, upload-upload}
use Rattle.dap_direct.proofs.SummedLemmas.{found_name, found_own, keeps_all}
use Rattle.dap_direct.specs.Direct.{state_of}
use Rattle.dap_direct.specs.Offered.{with_report}
use Rattle.dap_direct.proofs.state.Direct.upload.Goals as goal

pub upload_to-requires-clause-named : goal.upload_to-requires-clause-named
upload_to-requires-clause-named g c =
    let named : name_in c.args.bytes.now ≡ Some c.in-Some.name = sym c.in-Some.ensures in
    named ∙ ap Some (sym (found_name c.in-Some.name c.args.tasks.now c.in-Some-find.task.now (sym c.in-Some-find.ensures.task)))

pub upload_to-requires-clause-sums : goal.upload_to-requires-clause-sums
upload_to-requires-clause-sums g c =
    c.requires.may_run.sums c.in-Some-find.task.now (found_own c.in-Some.name c.args.tasks.now c.in-Some-find.task.now (sym c.in-Some-find.ensures.task))

pub returns : goal.returns
returns g c =
    let f = g.V.Vdaf.of_kind in
    let tasks : List PlainTask = c.args.tasks.now in
    let task : PlainTask = c.in-Some-find.task.now in
    let named : name_in c.args.bytes.now ≡ Some c.in-Some.name = sym c.in-Some.ensures in
    let found = sym c.in-Some-find.ensures.task in
    IfOk-map c.upload_to.result _ _ c.upload_to.ensures
    (λ printed up. record {
      outcome = up.outcome tasks ∙ upload-upload f (state_of tasks c.args.self.now) c.args.line c.args.bytes.now c.in-Some.name task named found;
      at = up.at;
      sums = keeps_all f tasks task c.args.self.now c.upload_to.new.self (found_own c.in-Some.name tasks task found) c.requires.may_run.sums up.sums;
      counted = up.counted ∙ ap (λ r. with_report r c.args.self.now.offered) (upload-offers f tasks c.args.bytes.now c.in-Some.name task named found);
    })
