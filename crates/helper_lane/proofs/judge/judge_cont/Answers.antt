use Rattle.std.proofs.Common.{List, reverse, Ok, Err, sym, subst}
use Rattle.dap_messages.specs.declared.body.Step.{Step}
use Rattle.dap_messages.specs.declared.item.Tagged.{Tagged}
use Rattle.helper_lane.specs.Judged.{JudgesCont, input_with}
use Rattle.helper_lane.specs.Refusals.{env_of}
use Rattle.helper_lane.proofs.Requests.{cont_found, cont_refused, whole_cont}
use Rattle.helper_lane.proofs.judge.judge_cont.Goals as goal

pub returns-in-Ok-check_cont : goal.returns-in-Ok-check_cont
returns-in-Ok-check_cont g c =
    let env = env_of g.V.Vdaf.of_kind c.args.place c.args.tasks.now in
    let l = reverse c.args.known.records.now in
    let b = c.args.bytes.now in
    let j = c.in-Some.job.now in
    let xs = c.in-Some.steps.now in
    let found = c.in-Ok-check_cont.found in
    let whole = whole_cont env l b c.in-Ok.message j xs c.in-Ok.ensures.first_fault (sym c.in-Some.ensures) in
    let judged = subst (λ (ys : List (Tagged Step)). JudgesCont env l j ys (Ok found)) c.as_slice.ensures c.in-Ok-check_cont.ensures in
    cont_found env l b j xs (input_with b found) whole judged.0 (judged.1 b)

pub returns : goal.returns
returns g c =
    let env = env_of g.V.Vdaf.of_kind c.args.place c.args.tasks.now in
    let l = reverse c.args.known.records.now in
    let b = c.args.bytes.now in
    let j = c.in-Some.job.now in
    let xs = c.in-Some.steps.now in
    let whole = whole_cont env l b c.in-Ok.message j xs c.in-Ok.ensures.first_fault (sym c.in-Some.ensures) in
    let judged = subst (λ (ys : List (Tagged Step)). JudgesCont env l j ys (Err c.in-Err.why)) c.as_slice.ensures c.in-Err.ensures in
    cont_refused env l b j xs c.in-Err.why whole judged
