use Rattle.std.proofs.Common.{◌++◌, ◌∷◌, [], ap, ◌∙◌}
use Rattle.legal_journals.proofs.Results.{told_err}
use Rattle.leader_lane.proofs.CatalogLaws.{lists_more, lists_kept}
use Rattle.leader_lane.proofs.catalog.Catalog.enter.Goals as goal

pub returns-clause-ok : goal.returns-clause-ok
returns-clause-ok c records block h =
    lists_more c.args.self.now (record c.args.self.now { index = c.push.new.self; entered = c.push_reserved.new.self }) records block c.args.x.now c.args.key c.requires.0 c.requires.1 c.requires.2
    (c.in_ok-push.ensures.ok (records ++ block) h.indexed) (c.push_reserved.ensures.items ∙ ap (λ l. l ++ c.args.key ∷ []) c.try_reserve.ensures.items) h

pub returns-in_err-push-clause-err : goal.returns-in_err-push-clause-err
returns-in_err-push-clause-err c =
    told_err c.from_residual-in_err-push.result (λ records block h.
    lists_kept c.args.self.now (record c.args.self.now { index = c.push.new.self; entered = c.try_reserve.new.self }) records block (c.in_err-push.ensures.err (records ++ block) h.indexed) c.try_reserve.ensures.items h)

pub returns-in_err-try_reserve-clause-err : goal.returns-in_err-try_reserve-clause-err
returns-in_err-try_reserve-clause-err c =
    told_err c.from_residual.result (λ records block h. lists_kept c.args.self.now (record c.args.self.now { entered = c.try_reserve.new.self }) records block h.indexed c.try_reserve.ensures.items h)
