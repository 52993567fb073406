use Rattle.std.specs.Prelude.{IsTrue}
use Rattle.std.proofs.lemmas.List.Elements.{All-push, All-same}
use Rattle.dap_messages.specs.Messages.{report}
use Rattle.dap_messages.specs.declared.report.Report.{Report}
use Rattle.dap_direct.proofs.accepted.Accepted.push.Goals as goal

pub invariant_of-self-2 : goal.invariant_of-self-2
invariant_of-self-2 c =
    All-same (λ (r : Report). IsTrue (report.allowed r)) _ _ c.in_ok-push.ensures.items
    (All-push (λ (r : Report). IsTrue (report.allowed r)) c.self.inside.reports.items c.args.new c.self.invariant c.requires)
