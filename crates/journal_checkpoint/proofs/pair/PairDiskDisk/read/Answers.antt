use Rattle.std.proofs.Common.{length, arith, ap, ℕ, ◌+◌}
use Rattle.std.proofs.lemmas.Result.{IfOk-weaker}
use Rattle.std.specs.Prelude.{IsErr}
use Rattle.journal_checkpoint.proofs.PairCounts.{counts_plus}
use Rattle.journal_checkpoint.proofs.Parts.{read_told}
use Rattle.journal_checkpoint.proofs.pair.PairDiskDisk.read.Goals as goal

pub returns-clause-told : goal.returns-clause-told
returns-clause-told g c =
    let s = c.args.self.now in
    IfOk-weaker c.read.result _ _ (λ n told. read_told s.start c.args.at c.saturating_add.result n (length c.args.buf.now) c.read.new.buf (g.D.Disk.holds s.live) (omega (arith, c.saturating_add.ensures)) (λ d is. g.met.D.Disk.fits s.live d is) told) c.read.ensures.told

pub returns-clause-counts : goal.returns-clause-counts
returns-clause-counts g c =
    let s = c.args.self.now in
    let h = c.read.ensures.counts in
    let disk = g.D.Disk in
    let d = disk.deads s.other in
    record { stops = counts_plus (IsErr c.read.result) (disk.downs s.live) (disk.downs c.read.new.self) (disk.downs s.other) h.stops; no_death = ap (λ (n : ℕ). n + d) h.no_death }
