use Rattle.std.proofs.Common.{sym, ◌∙◌}
use Rattle.lane_records.specs.declared.record.Record.TheVariants.{Accept, Continue, Finish, LeaderClose}
use Rattle.legal_journals.proofs.LeaderPush.{at_record, accept_more, continue_more, finish_more, close_more, other_more, other_is, new_place, same_reports, same_jobs, out_again}
use Rattle.legal_journals.proofs.Results.{on_ok, on_err, told_err}
use Rattle.legal_journals.proofs.leader_index.LeaderIndex.push.Goals as goal
use Rattle.legal_journals.proofs.leader_index.LeaderIndex.push.Goals.{in-Accept+in_ok-enter-in-Accept, in-Continue+in_ok-enter_all-in-Continue+else-is_err, in-Finish+in_ok-enter-in-Finish, in-LeaderClose+in_ok-enter-in-LeaderClose, in_default-x}

pub returns-in_err-enter_all-in-Continue-clause-err : goal.returns-in_err-enter_all-in-Continue-clause-err
returns-in_err-enter_all-in-Continue-clause-err c =
    told_err c.from_residual-in_err-enter_all-in-Continue.result (λ records h.
    same_reports c.args.self.now records c.enter_all.new.table h (c.in_err-enter_all-in-Continue.ensures.err (new_place c.args.self.now records h)))

pub returns-then-is_err-clause-err : goal.returns-then-is_err-clause-err
returns-then-is_err-clause-err c records h =
    same_jobs c.args.self.now records c.leave_all.new.table c.enter-in-Continue.new.self h
    (out_again c.args.self.now records c.in-Continue.name c.as_slice.result.now c.as_slice-then-is_err.result.now c.enter_all.new.table c.leave_all.new.table (c.as_slice-then-is_err.ensures ∙ sym c.as_slice.ensures) h c.in_ok-enter_all-in-Continue.ensures.ok c.leave_all.ensures)
    (on_err c.enter-in-Continue.result c.enter-in-Continue.ensures.err (sym c.if-is_err.ensures.value))

pub returns-clause-ok : goal.returns-clause-ok
returns-clause-ok c records h =
    elim c.match-x.branch [
      | in-Accept+in_ok-enter-in-Accept w ↦ rw w.self-is (
          at_record _ records c.in-Some.opens c.args.x.now (Accept w.in-Accept.report) w.in-Accept.is (c.in-Some.ensures records h.opens) (λ opens.
          accept_more c.args.self.now records c.in-Some.opens w.in-Accept.report w.enter.new.self h opens w.in_ok-enter-in-Accept.ensures.ok))
      | in-Continue+in_ok-enter_all-in-Continue+else-is_err w ↦ rw w.self-is (
          at_record _ records c.in-Some.opens c.args.x.now (Continue w.in-Continue.name w.in-Continue.job w.in-Continue.steps) w.in-Continue.is (c.in-Some.ensures records h.opens) (λ opens.
          continue_more c.args.self.now records c.in-Some.opens w.in-Continue.name w.in-Continue.job w.in-Continue.steps w.as_slice.result.now w.job_key.result w.enter_all.new.table w.enter-in-Continue.new.self
          w.job_key.ensures w.as_slice.ensures h opens w.in_ok-enter_all-in-Continue.ensures.ok (on_ok w.enter-in-Continue.result w.enter-in-Continue.ensures.ok (sym w.if-is_err.ensures.value))))
      | in-Finish+in_ok-enter-in-Finish w ↦ rw w.self-is (
          at_record _ records c.in-Some.opens c.args.x.now (Finish w.in-Finish.job w.in-Finish.field-1) w.in-Finish.is (c.in-Some.ensures records h.opens) (λ opens.
          finish_more c.args.self.now records c.in-Some.opens w.in-Finish.job w.in-Finish.field-1 w.job_key-in-Finish.result w.enter-in-Finish.new.self w.job_key-in-Finish.ensures h opens
          w.in_ok-enter-in-Finish.ensures.ok))
      | in-LeaderClose+in_ok-enter-in-LeaderClose w ↦ rw w.self-is (
          at_record _ records c.in-Some.opens c.args.x.now (LeaderClose w.in-LeaderClose.name w.in-LeaderClose.start w.in-LeaderClose.field-2) w.in-LeaderClose.is (c.in-Some.ensures records h.opens) (λ opens.
          close_more c.args.self.now records c.in-Some.opens w.in-LeaderClose.name w.in-LeaderClose.start w.in-LeaderClose.field-2 w.enter-in-LeaderClose.new.self h opens
          w.in_ok-enter-in-LeaderClose.ensures.ok))
      | in_default-x w ↦ rw w.self-is (
          other_more c.args.self.now records c.in-Some.opens c.args.x.now
          (other_is c.args.x.now w.in_default-x.not-Accept w.in_default-x.not-Continue w.in_default-x.not-Finish w.in_default-x.not-LeaderClose) h (c.in-Some.ensures records h.opens))
    ]
