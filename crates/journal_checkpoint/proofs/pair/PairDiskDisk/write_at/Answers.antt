use Rattle.std.proofs.Common.{◌≡◌, ◌≤◌, ◌+◌, ℕ, List, length, take, drop, Some, refl, ◌∙◌, ap, arith, length-drop}
use Rattle.std.proofs.lemmas.Result.{on_ok_weaker}
use Rattle.dap_disk.specs.Disk.{of_told, written}
use Rattle.std.specs.Prelude.{IsErrOf}
use Rattle.dap_disk.specs.declared.disk.StoreFault.TheVariants as store
use Rattle.journal_checkpoint.proofs.PairCounts.{counts_plus}
use Rattle.journal_checkpoint.specs.Heads.{front_of}
use Rattle.journal_checkpoint.proofs.Heads.{front_long}
use Rattle.journal_checkpoint.proofs.PairReads.{front_take, front_written, kept_held, torn_reads}
use Rattle.journal_checkpoint.proofs.Parts.{written_told}
use Rattle.journal_checkpoint.proofs.pair.PairDiskDisk.write_at.Goals as goal

pub write_at-requires-clause-within : goal.write_at-requires-clause-within
write_at-requires-clause-within g c = let s = c.args.self.now in λ f is. (let fits = c.requires.within (drop s.start f) (ap (of_told (drop s.start)) is) in let long = front_long f s.generation s.start s.starts (s.held c.requires.up f is) in let left = length-drop s.start f in omega (arith, fits, long, left))

pub invariant_of-self-clause-held : goal.invariant_of-self-clause-held
invariant_of-self-clause-held g c = λ up.
    let s = c.args.self.now in
    let within : (f : List ℕ) → g.D.Disk.holds s.live ≡ Some f → c.args.at + s.start ≤ length f = λ f is. (let fits = c.requires.within (drop s.start f) (ap (of_told (drop s.start)) is) in let long = front_long f s.generation s.start s.starts (s.held c.requires.up f is) in let left = length-drop s.start f in omega (arith, fits, long, left)) in
    kept_held c.write_at.result (written (c.args.at + s.start) c.args.bytes.now) (g.D.Disk.holds s.live) (g.D.Disk.holds c.write_at.new.self) (g.D.Disk.up c.write_at.new.self) (λ (d : List ℕ). take s.start d ≡ front_of s.generation)
    (λ d is was. front_written s.start (c.args.at + s.start) c.args.bytes.now d (omega arith) (within d is) ∙ was) (s.held c.requires.up) c.write_at.ensures.done (λ was. (c.write_at.ensures.memory was).0) c.write_at.ensures.down up

pub invariant_of-self-clause-images : goal.invariant_of-self-clause-images
invariant_of-self-clause-images g c = λ f left.
    let s = c.args.self.now in
    let from = c.write_at.ensures.images f left in
    front_take s.start (c.args.at + s.start) f from.0 (omega arith) from.2.before ∙ s.images from.0 from.1

pub returns-clause-done : goal.returns-clause-done
returns-clause-done g c =
    let s = c.args.self.now in
    on_ok_weaker c.write_at.result (λ h. written_told s.start c.args.at (c.args.at + s.start) c.args.bytes.now (g.D.Disk.holds s.live) (g.D.Disk.holds c.write_at.new.self) refl (λ f is. (let fits = c.requires.within (drop s.start f) (ap (of_told (drop s.start)) is) in let long = front_long f s.generation s.start s.starts (s.held c.requires.up f is) in let left = length-drop s.start f in omega (arith, fits, long, left))) h) c.write_at.ensures.done

pub returns-clause-images : goal.returns-clause-images
returns-clause-images g c =
    let s = c.args.self.now in
    torn_reads s.second s.start s.generation (g.D.Disk.may_leave s.other) c.args.at (length c.args.bytes.now) (c.args.at + s.start) (g.D.Disk.may_leave s.live) (g.D.Disk.may_leave c.write_at.new.self) refl s.starts s.fits s.older s.images c.write_at.ensures.images

pub returns-clause-counts : goal.returns-clause-counts
returns-clause-counts g c =
    let s = c.args.self.now in
    let h = c.write_at.ensures.counts in
    let disk = g.D.Disk in
    let d = disk.deads s.other in
    record { stops = counts_plus (IsErrOf c.write_at.result store.Down) (disk.downs s.live) (disk.downs c.write_at.new.self) (disk.downs s.other) h.stops; no_death = ap (λ (n : ℕ). n + d) h.no_death }
