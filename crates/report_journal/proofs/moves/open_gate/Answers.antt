use Rattle.std.proofs.Common.{take, drop, sym, ◌∙◌, arith}
use Rattle.std.proofs.lemmas.Result.{on_ok_weaker}
use Rattle.dap_disk.specs.RunLaws.{weaker}
use Rattle.report_journal.specs.Journal.{Closed, Either}
use Rattle.report_journal.specs.Log.{contents}
use Rattle.report_journal.proofs.Steps.{torn_gate}
use Rattle.report_journal.proofs.Appends.{on_ok_both, second_images, second_held, only_held}
use Rattle.report_journal.proofs.moves.open_gate.Goals as goal

pub write_synced-requires-clause-within : goal.write_synced-requires-clause-within
write_synced-requires-clause-within g c = λ f is. (let within = (c.requires.held f is).closed.within in omega (arith, within))

pub returns-clause-held : goal.returns-clause-held
returns-clause-held g c =
    let b = contents (take c.args.durable c.args.kept.now) in
    let k = contents (drop c.args.durable c.args.kept.now) in
    on_ok_weaker c.write_synced.result (second_held b k c.args.gate (g.D.Disk.holds c.args.disk.now) (g.D.Disk.holds c.write_synced.new.disk) c.requires.block c.requires.held) c.write_synced.ensures.done

pub returns-clause-durable : goal.returns-clause-durable
returns-clause-durable g c =
    let b = contents (take c.args.durable c.args.kept.now) in
    let k = contents (drop c.args.durable c.args.kept.now) in
    on_ok_both c.write_synced.result
    (λ held only. only_held b k c.args.gate (g.D.Disk.holds c.write_synced.new.disk) (g.D.Disk.may_leave c.write_synced.new.disk) (Closed _ _) held only)
    (returns-clause-held g c) c.write_synced.ensures.durable

pub returns-clause-images : goal.returns-clause-images
returns-clause-images g c =
    let b = contents (take c.args.durable c.args.kept.now) in
    let k = contents (drop c.args.durable c.args.kept.now) in
    second_images b k c.args.gate (g.D.Disk.may_leave c.args.disk.now) (g.D.Disk.may_leave c.write_synced.new.disk) c.requires.block c.requires.images c.write_synced.ensures.images

pub returns-clause-any_moment : goal.returns-clause-any_moment
returns-clause-any_moment g c =
    let b = contents (take c.args.durable c.args.kept.now) in
    let k = contents (drop c.args.durable c.args.kept.now) in
    weaker g.D.Disk.moment g.D.Disk.left_since c.args.disk.now c.write_synced.new.disk _ (Either b k c.args.gate)
    (λ f p. torn_gate b c.args.gate k p.0 f c.requires.block p.2 (c.requires.images p.0 p.1)) c.write_synced.ensures.any_moment

pub returns-clause-memory : goal.returns-clause-memory
returns-clause-memory g c = λ was.
    let m = c.write_synced.ensures.memory was in
    (m.1, (λ f is. (c.requires.held f (sym m.0 ∙ is)).closed), (λ f left. (c.requires.images f (m.2 f left)).closed))
