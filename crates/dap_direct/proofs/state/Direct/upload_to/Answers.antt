use Rattle.std.proofs.Common.{◌≡◌, length, Some, sym, ap, ◌∙◌}
use Rattle.std.specs.Prelude.{IsTrue}
use Rattle.dap_messages.specs.Messages.{report}
use Rattle.dap_messages.specs.declared.report.Report.{Report}
use Rattle.dap_model.specs.Step.{report_in}
use Rattle.dap_direct.proofs.DirectLemmas.{IfOk-map}
use Rattle.dap_direct.proofs.StepLemmas.{at_next, counted_upload, few_bytes, offered-upload}
use Rattle.dap_direct.specs.Direct.{state_of}
use Rattle.dap_direct.specs.Offered.{with_report}
use Rattle.dap_direct.proofs.state.Direct.upload_to.Goals as goal

pub returns-in-Some : goal.returns-in-Some
returns-in-Some g c =
    let new : Report = c.in-Some.new in
    let bytes = c.args.bytes.now in
    let old = c.args.self.now in
    let read : report_in bytes ≡ Some new = sym c.in_ok-report_in.ensures.report ∙ c.in-Some.is in
    let allowed : IsTrue (report.allowed new) = rw c.in-Some.is at c.in_ok-report_in.ensures.spelled in
    let is : bytes ≡ report.spell new = rw c.in-Some.is at c.in_ok-report_in.ensures.bytes in
    IfOk-map c.offer.result _ _ c.offer.ensures
    (λ printed made. record {
      outcome = λ tasks. made.outcome tasks ∙ offered-upload (state_of tasks old) c.args.line bytes c.args.task.now new read;
      sums = record { own = made.sums.own; others = made.sums.others };
      at = at_next c.args.line old c.offer.new.self c.count.new.self (length bytes) c.requires.at (few_bytes new bytes allowed is) c.count.ensures made.accepted made.counted;
      counted = made.counted ∙ c.count.ensures ∙ counted_upload old.offered bytes new is ∙ ap (λ r. with_report r old.offered) (sym read);
    })
