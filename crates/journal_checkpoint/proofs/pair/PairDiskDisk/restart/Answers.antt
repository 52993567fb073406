use Rattle.std.proofs.Common.{ap, ℕ, ◌+◌}
use Rattle.std.proofs.lemmas.Result.{on_ok_weaker}
use Rattle.std.specs.Prelude.{IsErr}
use Rattle.journal_checkpoint.proofs.PairCounts.{counts_plus}
use Rattle.journal_checkpoint.proofs.PairReads.{only_reads}
use Rattle.journal_checkpoint.proofs.pair.PairDiskDisk.restart.Goals as goal

pub returns-clause-settled : goal.returns-clause-settled
returns-clause-settled g c =
    let s = c.args.self.now in
    on_ok_weaker c.restart.result (λ only. only_reads s.second s.start s.generation (g.D.Disk.may_leave s.other) (g.D.Disk.holds c.restart.new.self) (g.D.Disk.may_leave c.restart.new.self) s.starts s.fits s.older (λ x left. s.images x (c.restart.ensures.images x left)) only) c.restart.ensures.settled

pub returns-clause-counts : goal.returns-clause-counts
returns-clause-counts g c =
    let s = c.args.self.now in
    let h = c.restart.ensures.counts in
    let disk = g.D.Disk in
    let d = disk.downs s.other in
    record { deaths = counts_plus (IsErr c.restart.result) (disk.deads s.live) (disk.deads c.restart.new.self) (disk.deads s.other) h.deaths; no_stop = ap (λ (n : ℕ). n + d) h.no_stop }
