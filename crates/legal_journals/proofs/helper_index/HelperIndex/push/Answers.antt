use Rattle.std.proofs.Common.{refl, sym, ◌∙◌}
use Rattle.lane_records.specs.declared.record.Record.TheVariants.{Start, Commit, HelperClose}
use Rattle.legal_journals.proofs.HelperPush.{at_record, start_more, commit_more, close_more, other_more, other_is, new_finished, new_start, same_tables, out_again}
use Rattle.legal_journals.proofs.Results.{on_ok, on_err, told_err}
use Rattle.legal_journals.proofs.helper_index.HelperIndex.push.Goals as goal
use Rattle.legal_journals.proofs.helper_index.HelperIndex.push.Goals.{in-Start+in_ok-enter_start-in-Start, in-Commit+in_ok-enter_finished-in-Commit+else-is_err, in-HelperClose+in_ok-enter-in-HelperClose, in_default-x}

pub returns-in_err-enter_start-in-Start-clause-err : goal.returns-in_err-enter_start-in-Start-clause-err
returns-in_err-enter_start-in-Start-clause-err c =
    told_err c.from_residual.result (λ records h.
    same_tables c.args.self.now records c.enter_start.new.started c.args.self.now.committed c.enter_start.new.names c.args.self.now.finished h
    (c.in_err-enter_start-in-Start.ensures.err (new_start c.args.self.now records h)) c.in_err-enter_start-in-Start.ensures.err_name refl (λ q. refl))

pub returns-in_err-enter_finished-in-Commit-clause-err : goal.returns-in_err-enter_finished-in-Commit-clause-err
returns-in_err-enter_finished-in-Commit-clause-err c =
    told_err c.from_residual-in_err-enter_finished-in-Commit.result (λ records h.
    same_tables c.args.self.now records c.args.self.now.started c.args.self.now.committed c.args.self.now.names c.enter_finished.new.table h
    (λ q. refl) refl refl (c.in_err-enter_finished-in-Commit.ensures.err (new_finished c.args.self.now records h)))

pub returns-then-is_err-clause-err : goal.returns-then-is_err-clause-err
returns-then-is_err-clause-err c records h =
    same_tables c.args.self.now records c.args.self.now.started c.enter.new.self c.args.self.now.names c.leave_finished.new.table h (λ q. refl) refl
    (on_err c.enter.result c.enter.ensures.err (sym c.if-is_err.ensures.value))
    (out_again c.args.self.now records c.get-name.result c.as_slice.result.now c.as_slice-then-is_err.result.now c.enter_finished.new.table c.leave_finished.new.table
    (c.as_slice-then-is_err.ensures ∙ sym c.as_slice.ensures) h c.in_ok-enter_finished-in-Commit.ensures.ok c.leave_finished.ensures)

pub returns-clause-ok : goal.returns-clause-ok
returns-clause-ok c records h =
    elim c.match-x.branch [
      | in-Start+in_ok-enter_start-in-Start w ↦ rw w.self-is (
          at_record _ records c.in-Some.opens c.args.x.now (Start w.in-Start.job w.in-Start.name w.in-Start.field-2) w.in-Start.is (c.in-Some.ensures records h.opens) (λ opens.
          start_more c.args.self.now records c.in-Some.opens w.in-Start.job w.in-Start.name w.in-Start.field-2 w.job_key.result w.enter_start.new.started w.enter_start.new.names w.job_key.ensures h opens
          w.in_ok-enter_start-in-Start.ensures.place w.in_ok-enter_start-in-Start.ensures.name))
      | in-Commit+in_ok-enter_finished-in-Commit+else-is_err w ↦ rw w.self-is (
          at_record _ records c.in-Some.opens c.args.x.now (Commit w.in-Commit.job w.in-Commit.outs) w.in-Commit.is (c.in-Some.ensures records h.opens) (λ opens.
          commit_more c.args.self.now records c.in-Some.opens w.in-Commit.job w.in-Commit.outs w.as_slice.result.now w.job_key-key.result w.get-name.result w.enter_finished.new.table w.enter.new.self
          w.job_key-key.ensures w.as_slice.ensures w.get-name.ensures h opens w.in_ok-enter_finished-in-Commit.ensures.ok (on_ok w.enter.result w.enter.ensures.ok (sym w.if-is_err.ensures.value))))
      | in-HelperClose+in_ok-enter-in-HelperClose w ↦ rw w.self-is (
          at_record _ records c.in-Some.opens c.args.x.now (HelperClose w.in-HelperClose.name w.in-HelperClose.start w.in-HelperClose.field-2) w.in-HelperClose.is (c.in-Some.ensures records h.opens) (λ opens.
          close_more c.args.self.now records c.in-Some.opens w.in-HelperClose.name w.in-HelperClose.start w.in-HelperClose.field-2 w.enter-in-HelperClose.new.self h opens
          w.in_ok-enter-in-HelperClose.ensures.ok))
      | in_default-x w ↦ rw w.self-is (
          other_more c.args.self.now records c.in-Some.opens c.args.x.now
          (other_is c.args.x.now w.in_default-x.not-Start w.in_default-x.not-Commit w.in_default-x.not-HelperClose) h (c.in-Some.ensures records h.opens))
    ]
