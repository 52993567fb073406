use Rattle.std.proofs.Common.{List, take, refl, ap, arith}
use Rattle.dap_tasks.specs.Task.{PlainTask}
use Rattle.dap_direct.proofs.RunLemmas.{goes_on, stops}
use Rattle.dap_direct.proofs.printed.run.Goals as goal

pub loop-line-init : goal.loop-line-init
loop-line-init g c =
    let tasks : List PlainTask = c.args.tasks.now in
    record {
      all = refl;
      next = refl;
      at = c.new-direct.ensures.at;
      state = c.new-direct.ensures.state tasks;
      sums = c.new-direct.ensures.sums g.V.Vdaf.of_kind tasks;
      offered = c.new-direct.ensures.offered;
      told = record {
        text = c.new-told.ensures.text;
        within = omega (arith, c.new-told.ensures.whole);
        whole = ap (λ n. take n c.new-told.result.text.items) c.new-told.ensures.whole;
      };
      passed = refl;
    }

pub returns-in-Some : goal.returns-in-Some
returns-in-Some g c = λ given known.
    stops g.V.Vdaf.of_kind c.args.limits.now c.args.tasks.now c.args.script.now c.loop-line.line-index c.line-item.result c.loop-line.number c.loop-line.direct c.step.new.self c.loop-line.told
    c.in_ok-printed.printed c.passed_limit.result given c.into_whole-text.result.items c.in-Some.limit known
    (record {
      within = c.loop-line-test.true;
      here = c.line-item.is;
      before = c.loop-line.invariant;
      runs = c.in_ok-printed.ensures;
      passes = c.passed_limit.ensures;
    }) c.in-Some.is c.into_whole-text.ensures

pub loop-line-preserved : goal.loop-line-preserved
loop-line-preserved g c =
    goes_on g.V.Vdaf.of_kind c.args.limits.now c.args.tasks.now c.args.script.now c.loop-line.line-index c.line-item.result c.loop-line.number c.loop-line.direct c.step.new.self c.loop-line.told
    c.in_ok-printed.printed c.passed_limit.result c.add.new.self
    (record {
      within = c.loop-line-test.true;
      here = c.line-item.is;
      before = c.loop-line.invariant;
      runs = c.in_ok-printed.ensures;
      passes = c.passed_limit.ensures;
    }) c.in_default.is c.in_ok-add.ensures.text c.in_ok-add.ensures.whole
