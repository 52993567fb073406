use Rattle.std.proofs.Common.{List, length, ap, arith, rules}
use Rattle.dap_messages.specs.declared.body.Half.{Half}
use Rattle.dap_messages.specs.declared.item.Tagged.{Tagged}
use Rattle.dap_views.specs.Request.{Request}
use Rattle.dap_views.proofs.Walk.{is_left, is_walked}
use Rattle.dap_views.proofs.request.RequestViewIterator.next.Goals as goal

pub invariant_of-self : goal.invariant_of-self
invariant_of-self c =
    let old = c.args.self.now in
    let walked = is_walked old.left old.place c.in-Ok.place old.bytes.now c.in-Ok.part (omega arith) old.parts c.in-Ok.ensures in
    record { within = c.in-Ok.ensures.within; parts = walked.others; request = old.request }

pub returns-in-Err-clause-steps : goal.returns-in-Err-clause-steps
returns-in-Err-clause-steps c =
    let old = c.args.self.now in
    absurd (is_left old.left old.place c.in-Err.field-0.at old.bytes.now (omega arith) old.parts c.in-Err.ensures)

pub returns-in-Ok-clause-steps : goal.returns-in-Ok-clause-steps
returns-in-Ok-clause-steps c =
    let old = c.args.self.now in
    let walked = is_walked old.left old.place c.in-Ok.place old.bytes.now c.in-Ok.part (omega arith) old.parts c.in-Ok.ensures in
    record {
      first = ap (λ (ps : List (Tagged Half)). let r : Request = record { message = old.bytes.now; job = old.job; name = old.name.now; parts = ps } in r) walked.first;
      stands = c.in-Ok.ensures.spelled;
    }

pub returns-in-Ok-clause-goes : goal.returns-in-Ok-clause-goes
returns-in-Ok-clause-goes c =
    let old = c.args.self.now in
    let walked = is_walked old.left old.place c.in-Ok.place old.bytes.now c.in-Ok.part (omega arith) old.parts c.in-Ok.ensures in
    let shorter = ap length walked.first in search rules
