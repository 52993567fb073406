use Rattle.std.proofs.lemmas.Result.{on_ok_weaker}
use Rattle.journal_checkpoint.proofs.Moments.{live_file, staged_moments, live_moments}
use Rattle.journal_checkpoint.proofs.making.make_live.Goals as goal

pub returns-in_err-write_synced-clause-any_moment : goal.returns-in_err-write_synced-clause-any_moment
returns-in_err-write_synced-clause-any_moment g c =
    let disk = g.D.Disk in
    staged_moments disk.moment disk.left_since disk.may_leave disk.holds c.args.bytes.now c.args.disk.now c.make_ready.new.disk c.write_synced.new.disk c.in_ok-make_ready.ensures.done c.in_ok-make_ready.ensures.durable c.make_ready.ensures.any_moment c.write_synced.ensures.any_moment

pub returns-clause-done : goal.returns-clause-done
returns-clause-done g c =
    let disk = g.D.Disk in
    on_ok_weaker c.write_synced-2.result (λ h. live_file (disk.holds c.args.disk.now) (disk.holds c.make_ready.new.disk) (disk.holds c.write_synced.new.disk) (disk.holds c.write_synced-2.new.disk) c.args.bytes.now c.in_ok-make_ready.ensures.done c.in_ok-write_synced.ensures.done h) c.write_synced-2.ensures.done

pub returns-clause-any_moment : goal.returns-clause-any_moment
returns-clause-any_moment g c =
    let disk = g.D.Disk in
    let old = c.args.disk.now in
    live_moments disk.moment disk.left_since disk.may_leave disk.holds c.args.bytes.now old c.make_ready.new.disk c.write_synced.new.disk c.write_synced-2.new.disk c.in_ok-make_ready.ensures.done c.in_ok-write_synced.ensures.done c.in_ok-write_synced.ensures.durable
    (staged_moments disk.moment disk.left_since disk.may_leave disk.holds c.args.bytes.now old c.make_ready.new.disk c.write_synced.new.disk c.in_ok-make_ready.ensures.done c.in_ok-make_ready.ensures.durable c.make_ready.ensures.any_moment c.write_synced.ensures.any_moment)
    c.write_synced-2.ensures.any_moment
