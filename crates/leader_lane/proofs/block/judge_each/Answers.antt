use Rattle.std.proofs.Common.{List, take, sym, subst}
use Rattle.std.proofs.lemmas.List.{take_all}
use Rattle.dap_wire.specs.declared.upload.Upload.{Upload}
use Rattle.lane_records.specs.declared.record.Record.{Record}
use Rattle.legal_journals.proofs.Results.{told_err}
use Rattle.leader_lane.specs.Catalog.{Lists}
use Rattle.leader_lane.specs.Judge.{Env}
use Rattle.leader_lane.specs.Ready.{Ready}
use Rattle.leader_lane.proofs.CatalogLaws.{take_next}
use Rattle.leader_lane.proofs.ReadyLaws.{ready_first}
use Rattle.leader_lane.proofs.block.judge_each.Goals as goal

pub loop-u-init : goal.loop-u-init
loop-u-init g c =
    let env : Env = record { tasks = c.args.tasks.now; place = c.args.place } in
    record {
      ready = ready_first env c.args.records.now c.new-block.result.records.items c.new-block.result.answers.items c.new-block.ensures.records c.new-block.ensures.answers c.requires.sound;
      lists = subst (λ (l : List Record). Lists c.args.catalog.now c.args.records.now l) (sym c.new-block.ensures.records) c.requires.lists;
    }

pub judge-requires-clause-sound : goal.judge-requires-clause-sound
judge-requires-clause-sound g c = c.loop-u.invariant.ready.sound

pub judge-requires-clause-lists : goal.judge-requires-clause-lists
judge-requires-clause-lists g c = c.loop-u.invariant.lists

pub returns-in_err-judge-clause-err : goal.returns-in_err-judge-clause-err
returns-in_err-judge-clause-err g c = told_err c.from_residual.result c.in_err-judge.ensures.err

pub loop-u-preserved : goal.loop-u-preserved
loop-u-preserved g c =
    let env : Env = record { tasks = c.args.tasks.now; place = c.args.place } in
    record {
      ready = subst (λ (l : List Upload). Ready env c.args.records.now c.judge.new.self.records.items c.judge.new.self.answers.items l) (take_next c.args.us.now c.loop-u.u-index c.u-item.result c.u-item.is c.loop-u-test.true)
          (c.in_ok-judge.ensures.ready (take c.loop-u.u-index c.args.us.now) c.loop-u.invariant.ready);
      lists = c.in_ok-judge.ensures.lists;
    }

pub returns-clause-ready : goal.returns-clause-ready
returns-clause-ready g c =
    let env : Env = record { tasks = c.args.tasks.now; place = c.args.place } in
    subst (λ (l : List Upload). Ready env c.args.records.now c.loop-u.block.records.items c.loop-u.block.answers.items l) (take_all c.loop-u.u-index c.args.us.now c.loop-u-test.false) c.loop-u.invariant.ready

pub returns-clause-lists : goal.returns-clause-lists
returns-clause-lists g c = c.loop-u.invariant.lists
