use Rattle.std.proofs.Common.{◌-◌, ◌++◌, ◌∷◌, [], List, length, take, drop, refl, sym, ap, subst, ◌∙◌, append-nil, append_assoc}
use Rattle.std.proofs.lemmas.List.{take_rest}
use Rattle.legal_journals.specs.LeaderIndexed.{LeaderIndexes}
use Rattle.lane_records.specs.declared.record.Record.{Record}
use Rattle.legal_journals.proofs.Results.{told_err}
use Rattle.leader_lane.specs.Catalog.{Lists}
use Rattle.leader_lane.proofs.CatalogLaws.{take_next, lists_next, lists_kept, caught_up, caught_some}
use Rattle.leader_lane.proofs.catalog.Catalog.catch_up.Goals as goal

pub loop-x-init : goal.loop-x-init
loop-x-init c seen more h e = subst (λ (l : List Record). Lists c.args.self.now l []) (sym (append-nil seen)) h

pub loop-x-preserved : goal.loop-x-preserved
loop-x-preserved c seen more h e =
    let rest : List Record = take (length c.args.records.now - c.min-from.result) (drop c.min-from.result c.args.records.now) in
    let k = c.loop-x.invariant seen more h e in
    let here : List Record = seen ++ take c.loop-x.x-index rest in
    let next = lists_next c.loop-x.self (record c.loop-x.self { index = c.push.new.self }) here c.x-item.result
    (c.in_ok-push.ensures.ok here (subst (λ (l : List Record). LeaderIndexes c.loop-x.self.index l) (append-nil here) k.indexed)) refl k in
    subst (λ (l : List Record). Lists (record c.loop-x.self { index = c.push.new.self }) l [])
    (append_assoc seen (take c.loop-x.x-index rest) (c.x-item.result ∷ []) ∙ ap (λ (l : List Record). seen ++ l) (take_next rest c.loop-x.x-index c.x-item.result c.x-item.is c.loop-x-test.true)) next

pub returns-in_err-push-clause-err : goal.returns-in_err-push-clause-err
returns-in_err-push-clause-err c =
    told_err c.from_residual.result (λ seen more h e.
    let rest : List Record = take (length c.args.records.now - c.min-from.result) (drop c.min-from.result c.args.records.now) in
    let k = c.loop-x.invariant seen more h e in
    let here : List Record = seen ++ take c.loop-x.x-index rest in
    let kept = c.in_err-push.ensures.err (here ++ []) k.indexed in
    caught_some (record c.loop-x.self { index = c.push.new.self }) c.args.records.now seen more rest c.min-from.result c.len.result c.loop-x.x-index e (c.len.ensures (seen ++ []) h.indexed ∙ ap length (append-nil seen)) c.min-from.ensures
    (take_rest c.args.records.now c.min-from.result) (lists_kept c.loop-x.self (record c.loop-x.self { index = c.push.new.self }) here [] kept refl k))

pub returns-clause-ok : goal.returns-clause-ok
returns-clause-ok c seen more h e =
    let rest : List Record = take (length c.args.records.now - c.min-from.result) (drop c.min-from.result c.args.records.now) in
    caught_up c.loop-x.self c.args.records.now seen more rest c.min-from.result c.len.result c.loop-x.x-index e (c.len.ensures (seen ++ []) h.indexed ∙ ap length (append-nil seen)) c.min-from.ensures
    (take_rest c.args.records.now c.min-from.result) c.loop-x-test.false (c.loop-x.invariant seen more h e)
