use Rattle.std.proofs.Common.{List, sym, ap, subst, ◌∙◌}
use Rattle.dap_bytes.specs.Name.{IsName}
use Rattle.dap_seal.specs.Reports.{honest_report}
use Rattle.dap_tasks.specs.Task.{PlainTask}
use Rattle.vdaf_api.specs.Functions.{Functions}
use Rattle.dap_direct.proofs.DirectLemmas.{IfOk-map}
use Rattle.dap_direct.proofs.StepLemmas.{measure-offers, measure-upload}
use Rattle.dap_direct.proofs.SummedLemmas.{found_name, found_own, keeps_all}
use Rattle.dap_direct.specs.Direct.{state_of}
use Rattle.dap_direct.specs.Honest.{AreBytesOf}
use Rattle.dap_direct.specs.Offered.{with_report}
use Rattle.dap_direct.proofs.state.Direct.measure.Goals as goal

pub honest_bytes-requires-clause-name : goal.honest_bytes-requires-clause-name
honest_bytes-requires-clause-name g c =
    let tasks : List PlainTask = c.args.tasks.now in
    subst IsName (sym (found_name c.args.name.now tasks c.in-Some.task.now (sym c.in-Some.ensures.task))) c.requires.name

pub upload_to-requires-clause-sums : goal.upload_to-requires-clause-sums
upload_to-requires-clause-sums g c =
    c.requires.may_run.sums c.in-Some.task.now (found_own c.args.name.now c.args.tasks.now c.in-Some.task.now (sym c.in-Some.ensures.task))

pub returns : goal.returns
returns g c =
    let f = g.V.Vdaf.of_kind in
    let tasks : List PlainTask = c.args.tasks.now in
    let task : PlainTask = c.in-Some.task.now in
    let own : Functions = g.V.Vdaf.functions c.in-Some.vdaf.now in
    let name = c.args.name.now in
    let it = c.args.given.now in
    let bytes = c.deref.result.now in
    let made : AreBytesOf task.name (honest_report own task it.id it.time it.value.now it.seed) bytes =
    subst (λ bytes. AreBytesOf task.name (honest_report own task it.id it.time it.value.now it.seed) bytes) (sym c.deref.ensures.value) (rw c.in-Some-2.is at c.in_ok-bytes.ensures) in
    let is = ap (λ (h : Functions). honest_report h task it.id it.time it.value.now it.seed) (sym c.in-Some.ensures.of_kind) ∙ made.is in
    let found = sym c.in-Some.ensures.task in
    IfOk-map c.upload_to.result _ _ c.upload_to.ensures
    (λ printed up. record {
      outcome = up.outcome tasks ∙ measure-upload f (state_of tasks c.args.self.now) c.args.line name it.id it.time it.value.now it.seed bytes task made.made found is made.read;
      at = up.at;
      sums = keeps_all f tasks task c.args.self.now c.upload_to.new.self (found_own name tasks task found) c.requires.may_run.sums up.sums;
      counted = up.counted ∙ ap (λ r. with_report r c.args.self.now.offered) (measure-offers f tasks name it.id it.time it.value.now it.seed bytes task made.made found is made.read);
    })
