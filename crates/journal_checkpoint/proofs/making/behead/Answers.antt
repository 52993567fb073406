use Rattle.std.proofs.Common.{inl, inr}
use Rattle.dap_disk.specs.RunLaws.{then, weaker}
use Rattle.journal_checkpoint.specs.Packing.{KeepsGeneration}
use Rattle.journal_checkpoint.proofs.Heads.{first_torn, cut_none}
use Rattle.journal_checkpoint.proofs.Files.{zero_first}
use Rattle.journal_checkpoint.proofs.making.behead.Goals as goal

pub returns-in_err-write_synced-clause-any_moment : goal.returns-in_err-write_synced-clause-any_moment
returns-in_err-write_synced-clause-any_moment g c =
    let disk = g.D.Disk in
    let old = c.args.disk.now in
    weaker disk.moment disk.left_since old c.write_synced.new.disk _ (KeepsGeneration (disk.may_leave old))
    (λ f p. (let two = c.requires.long p.0 (c.requires.synced p.0 p.1) in first_torn (disk.may_leave old) p.0 f p.1 two.0 two.1 p.2)) c.write_synced.ensures.any_moment

pub returns-clause-any_moment : goal.returns-clause-any_moment
returns-clause-any_moment g c =
    let disk = g.D.Disk in
    let old = c.args.disk.now in
    let mid = c.write_synced.new.disk in
    then disk.moment disk.left_since old mid c.cut_synced.new.disk (KeepsGeneration (disk.may_leave old))
    (weaker disk.moment disk.left_since old mid _ (KeepsGeneration (disk.may_leave old))
    (λ f p. (let two = c.requires.long p.0 (c.requires.synced p.0 p.1) in first_torn (disk.may_leave old) p.0 f p.1 two.0 two.1 p.2)) c.write_synced.ensures.any_moment)
    (weaker disk.moment disk.left_since mid c.cut_synced.new.disk _ (KeepsGeneration (disk.may_leave old))
    (λ f p. inl (cut_none p.0 f (inr (zero_first (disk.holds old) (disk.holds mid) p.0 c.in_ok-write_synced.ensures.done (c.in_ok-write_synced.ensures.durable p.0 p.1))) p.2)) c.cut_synced.ensures.any_moment)
