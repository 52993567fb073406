use Rattle.std.proofs.Common.{ℕ, List, [], reverse, Option, Some, Ok, Err, sym, ap, subst, ◌∙◌, arith}
use Rattle.dap_views.specs.Request.{parts_left}
use Rattle.helper_lane.specs.declared.refusal.TakeRefusal.{TakeRefusal}
use Rattle.helper_lane.specs.Judged.{JudgesInit}
use Rattle.helper_lane.specs.Refusals.{env_of}
use Rattle.helper_lane.proofs.Requests.{AreCells, init_form, init_found, init_refused, name_is, whole_is}
use Rattle.helper_lane.proofs.judge.judge_init.Goals as goal

pub returns-in-Err : goal.returns-in-Err
returns-in-Err g c = init_form (env_of g.V.Vdaf.of_kind c.args.place c.args.tasks.now) (reverse c.args.known.records.now) c.args.bytes.now c.requires.first.0 c.in-Err.form.at c.requires.first.1 c.in-Err.ensures

pub name_in-name-requires : goal.name_in-name-requires
name_in-name-requires g c =
    let cells : AreCells c.args.bytes.now = λ i. omega (arith, c.type_inv.bytes i) in
    name_is c.args.bytes.now cells c.in-Ok.request.job c.in-Ok.request.name.now _ (whole_is (env_of g.V.Vdaf.of_kind c.args.place c.args.tasks.now) [] c.args.bytes.now c.requires.first.0 _ c.requires.first.1 c.in-Ok.ensures.0)

pub returns-in-Ok-check_request : goal.returns-in-Ok-check_request
returns-in-Ok-check_request g c =
    let env = env_of g.V.Vdaf.of_kind c.args.place c.args.tasks.now in
    let l = reverse c.args.known.records.now in
    let b = c.args.bytes.now in
    let q = c.in-Ok.request in
    let whole = whole_is env l b c.requires.first.0 _ c.requires.first.1 c.in-Ok.ensures.0 in
    let judged = subst (λ (n : List ℕ). JudgesInit env l q.job n (parts_left q) (Ok c.in-Ok-check_request.task)) c.name_in-name.ensures c.in-Ok-check_request.ensures in
    init_found env l b q.job q.name.now (parts_left q) c.in-Ok-check_request.task.now whole judged.0 judged.1

pub returns-in-Err-check_request : goal.returns-in-Err-check_request
returns-in-Err-check_request g c =
    let env = env_of g.V.Vdaf.of_kind c.args.place c.args.tasks.now in
    let l = reverse c.args.known.records.now in
    let b = c.args.bytes.now in
    let q = c.in-Ok.request in
    let whole = whole_is env l b c.requires.first.0 _ c.requires.first.1 c.in-Ok.ensures.0 in
    let judged = subst (λ (n : List ℕ). JudgesInit env l q.job n (parts_left q) (Err c.in-Err-check_request.why)) c.name_in-name.ensures c.in-Err-check_request.ensures in
    init_refused env l b q.job q.name.now (parts_left q) c.as_taken.result whole (judged ∙ ap (λ (w : TakeRefusal). let o : Option TakeRefusal = Some w in o) (sym c.as_taken.ensures))
