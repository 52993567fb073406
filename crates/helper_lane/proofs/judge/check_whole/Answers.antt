use Rattle.std.proofs.Common.{◌≡◌, ℕ, true, false, List, [], reverse, Option, Some, None, Ok, Err, sym, ap, subst, ◌∙◌, arith}
use Rattle.dap_messages.specs.declared.message.Message.TheVariants.{InitReq}
use Rattle.dap_views.specs.Request.{parts_left}
use Rattle.dap_views.specs.Whole.{is_headed}
use Rattle.helper_lane.specs.declared.refusal.TakeRefusal.{TakeRefusal}
use Rattle.helper_lane.specs.Judged.{JudgesInit}
use Rattle.helper_lane.specs.Refusals.{as_taken, env_of}
use Rattle.helper_lane.proofs.Requests.{AreCells, name_is, viewed_refused, whole_of}
use Rattle.helper_lane.proofs.judge.check_whole.Goals as goal

pub unreachable-unreachable : goal.unreachable-unreachable
unreachable-unreachable g c =
    let told = c.requires.request in
    let bad : false ≡ true = sym (ap (is_headed told.0 told.1) c.in_default.ensures) ∙ told.2 in
    absurd (cc bad)

pub name_in-requires : goal.name_in-requires
name_in-requires g c =
    let b = c.args.bytes.now in
    let q = c.in-Ok.whole in
    let cells : AreCells b = λ i. omega (arith, c.type_inv.bytes i) in
    name_is b cells q.job q.name.now (parts_left q) (whole_of (env_of g.V.Vdaf.of_kind c.args.place c.args.tasks.now) [] b (InitReq q.job q.name.now (parts_left q)) c.in-Ok.ensures.0)

pub returns-in-Ok-check_request : goal.returns-in-Ok-check_request
returns-in-Ok-check_request g c =
    let e = env_of g.V.Vdaf.of_kind c.args.place c.args.tasks.now in
    let l = reverse c.args.known.records.now in
    let q = c.in-Ok.whole in
    let judged = subst (λ (n : List ℕ). JudgesInit e l q.job n (parts_left q) (Ok c.in-Ok-check_request.field-0)) c.name_in.ensures c.in-Ok-check_request.ensures in
    viewed_refused e l c.args.bytes.now q.job q.name.now (parts_left q) None c.in-Ok.ensures.0 judged.0

pub returns-in-Err : goal.returns-in-Err
returns-in-Err g c =
    let e = env_of g.V.Vdaf.of_kind c.args.place c.args.tasks.now in
    let l = reverse c.args.known.records.now in
    let q = c.in-Ok.whole in
    let judged = subst (λ (n : List ℕ). JudgesInit e l q.job n (parts_left q) (Err c.in-Err.why)) c.name_in.ensures c.in-Err.ensures in
    let some : Option TakeRefusal = Some (as_taken c.in-Err.why) in
    viewed_refused e l c.args.bytes.now q.job q.name.now (parts_left q) some c.in-Ok.ensures.0 judged
