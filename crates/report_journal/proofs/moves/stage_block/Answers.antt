use Rattle.std.proofs.Common.{length, take, drop, sym, ◌∙◌, arith}
use Rattle.std.proofs.lemmas.Result.{on_ok_weaker}
use Rattle.dap_disk.specs.RunLaws.{weaker}
use Rattle.report_journal.specs.Journal.{Closed, Staged}
use Rattle.report_journal.specs.Log.{contents}
use Rattle.report_journal.proofs.Steps.{torn_behind}
use Rattle.report_journal.proofs.Appends.{on_ok_both, first_images, first_held, only_held}
use Rattle.report_journal.proofs.moves.stage_block.Goals as goal

pub write_synced-requires-clause-within : goal.write_synced-requires-clause-within
write_synced-requires-clause-within g c = λ f is. omega (arith, (c.requires.held f is).within)

pub returns-clause-staged : goal.returns-clause-staged
returns-clause-staged g c =
    let b = contents (take c.args.durable c.args.kept.now) in
    let k = contents (drop c.args.durable c.args.kept.now) in
    on_ok_weaker c.write_synced.result (first_held b k c.args.gate c.args.bytes.now (g.D.Disk.holds c.args.disk.now) (g.D.Disk.holds c.write_synced.new.disk) c.requires.bytes c.requires.held) c.write_synced.ensures.done

pub returns-clause-durable : goal.returns-clause-durable
returns-clause-durable g c =
    let b = contents (take c.args.durable c.args.kept.now) in
    let k = contents (drop c.args.durable c.args.kept.now) in
    on_ok_both c.write_synced.result
    (λ staged only. only_held b k c.args.gate (g.D.Disk.holds c.write_synced.new.disk) (g.D.Disk.may_leave c.write_synced.new.disk) (Staged b k c.args.gate) staged only)
    (returns-clause-staged g c) c.write_synced.ensures.durable

pub returns-clause-images : goal.returns-clause-images
returns-clause-images g c =
    let b = contents (take c.args.durable c.args.kept.now) in
    let k = contents (drop c.args.durable c.args.kept.now) in
    first_images b k c.args.gate (length c.args.bytes.now) (g.D.Disk.may_leave c.args.disk.now) (g.D.Disk.may_leave c.write_synced.new.disk) c.requires.images c.write_synced.ensures.images

pub returns-clause-any_moment : goal.returns-clause-any_moment
returns-clause-any_moment g c =
    let b = contents (take c.args.durable c.args.kept.now) in
    let k = contents (drop c.args.durable c.args.kept.now) in
    weaker g.D.Disk.moment g.D.Disk.left_since c.args.disk.now c.write_synced.new.disk _ (Closed b c.args.gate)
    (λ f p. torn_behind b c.args.gate (length c.args.bytes.now) p.0 f p.2 (c.requires.images p.0 p.1)) c.write_synced.ensures.any_moment

pub returns-clause-memory : goal.returns-clause-memory
returns-clause-memory g c = λ was. (let m = c.write_synced.ensures.memory was in (m.1, λ f is. c.requires.held f (sym m.0 ∙ is)))
