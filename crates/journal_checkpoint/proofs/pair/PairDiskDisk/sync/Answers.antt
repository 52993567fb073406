use Rattle.std.proofs.Common.{ap, ℕ, ◌+◌}
use Rattle.std.proofs.lemmas.Result.{on_ok_weaker}
use Rattle.std.specs.Prelude.{IsErr}
use Rattle.journal_checkpoint.proofs.PairCounts.{counts_plus}
use Rattle.journal_checkpoint.proofs.PairReads.{only_reads}
use Rattle.journal_checkpoint.proofs.pair.PairDiskDisk.sync.Goals as goal

pub returns-clause-durable : goal.returns-clause-durable
returns-clause-durable g c =
    let s = c.args.self.now in
    on_ok_weaker c.sync.result (λ only. only_reads s.second s.start s.generation (g.D.Disk.may_leave s.other) (g.D.Disk.holds s.live) (g.D.Disk.may_leave c.sync.new.self) s.starts s.fits s.older (λ x left. s.images x (c.sync.ensures.images x left)) only) c.sync.ensures.durable

pub returns-clause-counts : goal.returns-clause-counts
returns-clause-counts g c =
    let s = c.args.self.now in
    let h = c.sync.ensures.counts in
    let disk = g.D.Disk in
    let d = disk.deads s.other in
    record { stops = counts_plus (IsErr c.sync.result) (disk.downs s.live) (disk.downs c.sync.new.self) (disk.downs s.other) h.stops; no_death = ap (λ (n : ℕ). n + d) h.no_death }
