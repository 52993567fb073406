use Rattle.lane_records.specs.declared.record.Record.TheVariants.{Start, Commit, HelperClose}
use Rattle.legal_journals.proofs.HelperPush.{with_record, start_less, commit_less, close_less, other_less, other_is}
use Rattle.legal_journals.proofs.helper_index.HelperIndex.take_back.Goals as goal

pub returns-in-Start : goal.returns-in-Start
returns-in-Start c records h =
    start_less c.args.self.now records c.without-self.result (c.without-self.ensures records h.opens) c.in-Start.job c.in-Start.field-1 c.in-Start.field-2 c.job_key.result
    c.leave_start.new.started c.leave_start.new.names c.job_key.ensures
    (with_record c.args.self.now records c.args.x.now (Start c.in-Start.job c.in-Start.field-1 c.in-Start.field-2) c.in-Start.is h) c.leave_start.ensures.started c.leave_start.ensures.name

pub returns-in-Commit : goal.returns-in-Commit
returns-in-Commit c records h =
    commit_less c.args.self.now records c.without-self.result (c.without-self.ensures records h.opens) c.in-Commit.job c.in-Commit.outs c.as_slice.result.now c.job_key-key.result c.get-name.result
    c.leave_finished.new.table c.leave_at.new.self c.job_key-key.ensures c.as_slice.ensures c.get-name.ensures
    (with_record c.args.self.now records c.args.x.now (Commit c.in-Commit.job c.in-Commit.outs) c.in-Commit.is h) c.leave_finished.ensures c.leave_at.ensures

pub returns-in-HelperClose : goal.returns-in-HelperClose
returns-in-HelperClose c records h =
    close_less c.args.self.now records c.without-self.result (c.without-self.ensures records h.opens) c.in-HelperClose.name c.in-HelperClose.start c.in-HelperClose.field-2 c.leave_at-in-HelperClose.new.self
    (with_record c.args.self.now records c.args.x.now (HelperClose c.in-HelperClose.name c.in-HelperClose.start c.in-HelperClose.field-2) c.in-HelperClose.is h) c.leave_at-in-HelperClose.ensures

pub returns-in_default : goal.returns-in_default
returns-in_default c records h =
    other_less c.args.self.now records c.without-self.result (c.without-self.ensures records h.opens) c.args.x.now
    (other_is c.args.x.now c.in_default.not-Start c.in_default.not-Commit c.in_default.not-HelperClose) h
