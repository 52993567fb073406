use Rattle.std.proofs.Common.{ap, ◌∙◌}
use Rattle.std.specs.Ordering.{is_eq}
use Rattle.legal_journals.specs.Reports.{Report, report_order}
use Rattle.legal_journals.specs.Tables.{at, without}
use Rattle.legal_journals.proofs.LeaderPush.{accept_less, same_key}
use Rattle.legal_journals.proofs.leader_index.LeaderIndex.take_back_accept.Goals as goal

pub returns : goal.returns
returns c records r name id h =
    accept_less c.args.self.now records c.without_accept-self.result (c.without_accept-self.ensures records r h.opens) r c.leave_at.new.self h
    (λ q. c.leave_at.ensures q ∙ ap (λ (k : Report). without c.without_accept-self.result.count (is_eq (report_order k q)) (at report_order q c.args.self.now.accepted)) (same_key r c.args.name.now c.args.id.now name id))
