use Rattle.std.proofs.Common.{List, refl, sym, subst}
use Rattle.lane_records.specs.declared.record.Record.{Record}
use Rattle.legal_journals.proofs.Results.{told_err}
use Rattle.leader_lane.specs.Catalog.{Lists}
use Rattle.leader_lane.proofs.block.Block.accept.Goals as goal

pub enter-requires : goal.enter-requires
enter-requires c = (c.args.r, refl, refl)

pub returns-clause-lists : goal.returns-clause-lists
returns-clause-lists c records h =
    subst (λ (l : List Record). Lists c.enter.new.self records l) (sym c.in_ok-push.ensures.items) (c.in_ok-enter.ensures.ok records c.args.self.now.records.items h)

pub returns-in_err-enter-clause-err : goal.returns-in_err-enter-clause-err
returns-in_err-enter-clause-err c = told_err c.from_residual.result (λ records h. (c.args.self.now.records.items, c.in_err-enter.ensures.err records c.args.self.now.records.items h))

pub returns-in_err-push-clause-err : goal.returns-in_err-push-clause-err
returns-in_err-push-clause-err c = told_err c.from_residual-in_err-push.result (λ records h. (_, c.in_ok-enter.ensures.ok records c.args.self.now.records.items h))
