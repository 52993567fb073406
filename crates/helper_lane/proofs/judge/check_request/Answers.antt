use Rattle.std.proofs.Common.{◌≡◌, true, false, List, reverse, Some, None, sym, subst, ◌∙◌}
use Rattle.dap_messages.specs.declared.body.Half.{Half}
use Rattle.dap_messages.specs.declared.item.Tagged.{Tagged}
use Rattle.dap_messages.specs.declared.job.JobNo.{JobNo}
use Rattle.dap_views.specs.Request.{parts_left}
use Rattle.helper_lane.specs.declared.refusal.TakeRefusal.TheVariants.{JobConflict}
use Rattle.helper_lane.specs.Refusals.{env_of, refusal_of, started}
use Rattle.helper_lane.specs.Reply.{init_reply, same_start}
use Rattle.helper_lane.proofs.Judging.{init_again, init_conflict, init_new}
use Rattle.helper_lane.proofs.judge.check_request.Goals as goal

pub returns-in-None : goal.returns-in-None
returns-in-None g c =
    let e = env_of g.V.Vdaf.of_kind c.args.place c.args.tasks.now in
    let l = reverse c.args.known.records.now in
    let n = c.args.name.now in
    let hs = parts_left c.args.request in
    let mine = sym c.is_mine.ensures ∙ c.if-not-is_mine.false in
    let found = sym c.in-Some.ensures.task in (
      subst (λ (j : JobNo). refusal_of (init_reply e l j n hs) ≡ None) c.job-job.ensures (init_new e l c.job-job.result n hs c.in-Some.task.now mine found (sym c.in-None.ensures)),
      found,
    )

pub returns-then-same_start : goal.returns-then-same_start
returns-then-same_start g c =
    let e = env_of g.V.Vdaf.of_kind c.args.place c.args.tasks.now in
    let l = reverse c.args.known.records.now in
    let n = c.args.name.now in
    let hs = parts_left c.args.request in
    let s = started c.in-Some-start_of.other.now c.in-Some-start_of.halves.now in
    let mine = sym c.is_mine.ensures ∙ c.if-not-is_mine.false in
    let found = sym c.in-Some.ensures.task in
    let same : same_start s n hs ≡ true =
    subst (λ (ys : List (Tagged Half)). same_start (started c.in-Some-start_of.other.now ys) n hs ≡ true) c.as_slice.ensures (sym c.same_start.ensures ∙ c.if-same_start.true) in (
      subst (λ (j : JobNo). refusal_of (init_reply e l j n hs) ≡ None) c.job-job.ensures
          (init_again e l c.job-job.result n hs c.in-Some.task.now s mine found (sym c.in-Some-start_of.ensures) same),
      found,
    )

pub returns-else-same_start : goal.returns-else-same_start
returns-else-same_start g c =
    let e = env_of g.V.Vdaf.of_kind c.args.place c.args.tasks.now in
    let l = reverse c.args.known.records.now in
    let n = c.args.name.now in
    let hs = parts_left c.args.request in
    let s = started c.in-Some-start_of.other.now c.in-Some-start_of.halves.now in
    let mine = sym c.is_mine.ensures ∙ c.if-not-is_mine.false in
    let other : same_start s n hs ≡ false =
    subst (λ (ys : List (Tagged Half)). same_start (started c.in-Some-start_of.other.now ys) n hs ≡ false) c.as_slice.ensures (sym c.same_start.ensures ∙ c.if-same_start.false) in
    subst (λ (j : JobNo). refusal_of (init_reply e l j n hs) ≡ Some JobConflict) c.job-job.ensures
    (init_conflict e l c.job-job.result n hs c.in-Some.task.now s mine (sym c.in-Some.ensures.task) (sym c.in-Some-start_of.ensures) other)
