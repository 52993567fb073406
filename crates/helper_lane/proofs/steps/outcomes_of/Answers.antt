use Rattle.std.proofs.Common.{◌≡◌, ◌<◌, ◌≤◌, List, [], ◌∷◌, ◌++◌, length, sym, ap, ◌∙◌, arith}
use Rattle.std.specs.Prelude.{min}
use Rattle.dap_messages.specs.declared.body.Step.{Step}
use Rattle.dap_messages.specs.declared.item.Tagged.{Tagged}
use Rattle.dap_seal.specs.Steps.{outcome_by}
use Rattle.dap_tasks.specs.Task.{PlainTask}
use Rattle.lane_records.specs.declared.outcome.Outcome.{Outcome}
use Rattle.helper_lane.specs.Reply.{as_outcome, prepared_outcome}
use Rattle.helper_lane.proofs.Prepared.{prepared_all, prepared_more}
use Rattle.helper_lane.proofs.steps.outcomes_of.Goals as goal

pub loop-place-preserved : goal.loop-place-preserved
loop-place-preserved g c =
    let f = g.V.Vdaf.of_kind in
    let t = c.args.task.now in
    let hs = c.args.halves.now in
    let xs = c.args.steps.now in
    let i = c.loop-place.place in
    let h = c.index-halves-place.result in
    let x = c.index-steps-place.result in
    let within : i < min (length hs) (length xs) = omega (arith, c.loop-place-test.true) in
    let body : c.as_outcome.result ≡ prepared_outcome f t t.name h x.body =
    c.as_outcome.ensures ∙ ap as_outcome (c.in_ok-outcome.ensures ∙ ap (λ (z : Tagged Step). outcome_by f t c.task.inside.name h z.body) (sym c.index-steps-place.is) ∙ ap (λ (z : PlainTask). outcome_by f t z.name h x.body) c.task.view_is) in
    c.in_ok-push.ensures.items
    ∙ ap (λ (o : Outcome). c.loop-place.outs.items ++ record { id = h.id; body = o } ∷ []) body
    ∙ ap (λ (l : List (Tagged Outcome)). l ++ record { id = h.id; body = prepared_outcome f t t.name h x.body } ∷ []) c.loop-place.invariant
    ∙ sym (prepared_more f t t.name hs xs i h x (omega (arith, within)) (omega (arith, within)) c.index-halves-place.is c.index-steps-place.is)

pub returns : goal.returns
returns g c =
    let f = g.V.Vdaf.of_kind in
    let t = c.args.task.now in
    let hs = c.args.halves.now in
    let xs = c.args.steps.now in
    let all : min (length hs) (length xs) ≤ c.loop-place.place = omega (arith, c.loop-place-test.false) in
    c.new.ensures ∙ c.loop-place.invariant ∙ prepared_all f t t.name hs xs c.loop-place.place all
