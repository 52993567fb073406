use Rattle.std.proofs.Common.{◌≡◌, ℕ, List, arith}
use Rattle.dap_disk.specs.RunLaws.{started}
use Rattle.journal_checkpoint.specs.Heads.{generation_of}
use Rattle.journal_checkpoint.proofs.Heads.{none_short}
use Rattle.journal_checkpoint.proofs.Files.{take_one}
use Rattle.journal_checkpoint.proofs.making.shorten.Goals as goal

pub returns-then-size-le1-clause-done : goal.returns-then-size-le1-clause-done
returns-then-size-le1-clause-done g c = take_one (g.D.Disk.holds c.args.disk.now) (λ f is. (let size = c.requires.size f is in omega (arith, size, c.if-size-le1.true)))

pub returns-then-size-le1-clause-any_moment : goal.returns-then-size-le1-clause-any_moment
returns-then-size-le1-clause-any_moment g c =
    let disk = g.D.Disk in
    let old = c.args.disk.now in
    started disk.moment disk.left_since old (λ (f : List ℕ). generation_of f ≡ 0)
    (λ f left. (let size = c.requires.size f (c.requires.synced f (g.met.D.Disk.only_now old f left)) in none_short f (omega (arith, size, c.if-size-le1.true))))
