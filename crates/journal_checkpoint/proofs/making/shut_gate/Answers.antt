use Rattle.std.proofs.Common.{[], ◌∷◌}
use Rattle.std.proofs.lemmas.Result.{on_ok_weaker}
use Rattle.journal_checkpoint.proofs.Files.{all_is, zero_file}
use Rattle.journal_checkpoint.proofs.making.shut_gate.Goals as goal

pub returns-then-is_shut-clause-done : goal.returns-then-is_shut-clause-done
returns-then-is_shut-clause-done g c = all_is (0 ∷ []) (g.D.Disk.holds c.args.disk.now) (λ f is. c.requires.shut f is c.if-is_shut.true)

pub returns-clause-done : goal.returns-clause-done
returns-clause-done g c =
    on_ok_weaker c.write_synced.result (λ h. zero_file (g.D.Disk.holds c.args.disk.now) (g.D.Disk.holds c.write_synced.new.disk) (λ f is. c.requires.short f is) h) c.write_synced.ensures.done
