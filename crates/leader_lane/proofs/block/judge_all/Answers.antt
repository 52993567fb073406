use Rattle.std.proofs.Common.{[], List, sym, refl, subst, append-nil}
use Rattle.lane_records.specs.declared.record.Record.{Record}
use Rattle.legal_journals.proofs.Results.{told_err}
use Rattle.leader_lane.specs.Catalog.{Lists}
use Rattle.leader_lane.proofs.block.judge_all.Goals as goal

pub returns-in_err-catch_up-clause-err : goal.returns-in_err-catch_up-clause-err
returns-in_err-catch_up-clause-err g c = told_err c.from_residual.result c.in_err-catch_up.ensures.err

pub judge_each-requires-clause-lists : goal.judge_each-requires-clause-lists
judge_each-requires-clause-lists g c = let l = c.requires.lists in c.in_ok-catch_up.ensures.ok l.0 l.1 l.3 l.2

pub returns-in-Ok-clause-ready : goal.returns-in-Ok-clause-ready
returns-in-Ok-clause-ready g c = c.in-Ok.ensures.ready

pub returns-in-Ok-clause-lists : goal.returns-in-Ok-clause-lists
returns-in-Ok-clause-lists g c = c.in-Ok.ensures.lists

pub returns-in-Err-clause-err : goal.returns-in-Err-clause-err
returns-in-Err-clause-err g c seen more l e =
    let lost = c.in-Err.ensures.err in
    (more, [], sym (append-nil more), subst (λ (r : List Record). Lists c.settle.new.self r []) e (c.settle.ensures.lost refl c.args.records.now lost.0 lost.1))
