use Rattle.std.proofs.Common.{◌≡◌, ℕ, List, None, Some, Result, sym, ap, subst, ◌∙◌, arith}
use Rattle.dap_messages.specs.declared.body.Half.{Half}
use Rattle.dap_messages.specs.declared.item.Tagged.{Tagged}
use Rattle.dap_messages.specs.declared.message.Message.{Message}
use Rattle.dap_messages.specs.Grammar.{whole}
use Rattle.dap_messages.specs.Messages.{message}
use Rattle.std.specs.List.{find}
use Rattle.dap_tasks.specs.Task.{PlainTask, has_name}
use Rattle.dap_views.specs.Request.{parts_left}
use Rattle.helper_lane.specs.declared.made.Made.TheVariants.{Steps}
use Rattle.helper_lane.specs.Reply.{first_steps}
use Rattle.helper_lane.specs.Work.{Makes}
use Rattle.helper_lane.proofs.Requests.{AreCells, input_init, request_is}
use Rattle.helper_lane.proofs.working.init_made.Goals as goal

pub unreachable-unreachable : goal.unreachable-unreachable
unreachable-unreachable g c =
    let b = c.args.bytes.now in
    let t = c.args.task.now in
    let w = input_init t (whole message b) c.requires.input in
    let cells : AreCells b = λ i. omega (arith, c.type_inv.bytes i) in
    let read = request_is b cells w.0 t.name w.1 w.2 in
    absurd (cc (sym read ∙ c.in_default.ensures))

pub returns : goal.returns
returns g c =
    let b = c.args.bytes.now in
    let t = c.args.task.now in
    let q = c.in-Ok.request in
    let w = input_init t (whole message b) c.requires.input in
    let cells : AreCells b = λ i. omega (arith, c.type_inv.bytes i) in
    let read = request_is b cells w.0 t.name w.1 w.2 in
    let same : w.1 ≡ parts_left q = cc (sym read ∙ c.in-Ok.ensures.0) in
    subst (λ (r : Result Message ℕ). Makes g.V.Vdaf.of_kind t None r (Steps c.in_ok-steps.steps)) (sym w.2)
    (c.in_ok-steps.ensures t (subst (λ (z : PlainTask). find (has_name z.name) c.args.tasks.now ≡ Some t) (sym c.task.view_is) c.requires.held)
    ∙ ap (λ (z : PlainTask). first_steps g.V.Vdaf.of_kind t z.name (parts_left q)) c.task.view_is
    ∙ ap (λ (hs : List (Tagged Half)). first_steps g.V.Vdaf.of_kind t t.name hs) (sym same))
