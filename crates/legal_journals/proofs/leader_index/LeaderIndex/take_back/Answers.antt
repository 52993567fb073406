use Rattle.lane_records.specs.declared.record.Record.TheVariants.{Accept, Continue, Finish, LeaderClose}
use Rattle.legal_journals.proofs.LeaderPush.{with_record, accept_less, continue_less, finish_less, close_less, other_less, other_is}
use Rattle.legal_journals.proofs.leader_index.LeaderIndex.take_back.Goals as goal

pub returns-in-Accept : goal.returns-in-Accept
returns-in-Accept c records h =
    accept_less c.args.self.now records c.without-self.result (c.without-self.ensures records h.opens) c.in-Accept.report c.leave_at.new.self
    (with_record c.args.self.now records c.args.x.now (Accept c.in-Accept.report) c.in-Accept.is h) c.leave_at.ensures

pub returns-in-Continue : goal.returns-in-Continue
returns-in-Continue c records h =
    continue_less c.args.self.now records c.without-self.result (c.without-self.ensures records h.opens) c.in-Continue.name c.in-Continue.job c.in-Continue.steps c.as_slice.result.now c.job_key.result
    c.leave_all.new.table c.leave_at-in-Continue.new.self c.job_key.ensures c.as_slice.ensures
    (with_record c.args.self.now records c.args.x.now (Continue c.in-Continue.name c.in-Continue.job c.in-Continue.steps) c.in-Continue.is h) c.leave_all.ensures c.leave_at-in-Continue.ensures

pub returns-in-Finish : goal.returns-in-Finish
returns-in-Finish c records h =
    finish_less c.args.self.now records c.without-self.result (c.without-self.ensures records h.opens) c.in-Finish.job c.in-Finish.field-1 c.job_key-in-Finish.result c.leave_at-in-Finish.new.self c.job_key-in-Finish.ensures
    (with_record c.args.self.now records c.args.x.now (Finish c.in-Finish.job c.in-Finish.field-1) c.in-Finish.is h) c.leave_at-in-Finish.ensures

pub returns-in-LeaderClose : goal.returns-in-LeaderClose
returns-in-LeaderClose c records h =
    close_less c.args.self.now records c.without-self.result (c.without-self.ensures records h.opens) c.in-LeaderClose.name c.in-LeaderClose.start c.in-LeaderClose.field-2 c.leave_at-in-LeaderClose.new.self
    (with_record c.args.self.now records c.args.x.now (LeaderClose c.in-LeaderClose.name c.in-LeaderClose.start c.in-LeaderClose.field-2) c.in-LeaderClose.is h) c.leave_at-in-LeaderClose.ensures

pub returns-in_default : goal.returns-in_default
returns-in_default c records h =
    other_less c.args.self.now records c.without-self.result (c.without-self.ensures records h.opens) c.args.x.now
    (other_is c.args.x.now c.in_default.not-Accept c.in_default.not-Continue c.in_default.not-Finish c.in_default.not-LeaderClose) h
