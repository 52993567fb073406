use Rattle.std.proofs.Common.{◌≡◌, ◌≤◌, ◌+◌, ℕ, List, length, take, drop, Some, refl, ◌∙◌, ap, arith, length-drop}
use Rattle.std.proofs.lemmas.List.{take-take}
use Rattle.std.proofs.lemmas.Result.{on_ok_weaker}
use Rattle.dap_disk.specs.Disk.{of_told}
use Rattle.std.specs.Prelude.{IsErrOf}
use Rattle.dap_disk.specs.declared.disk.StoreFault.TheVariants as store
use Rattle.journal_checkpoint.proofs.PairCounts.{counts_plus}
use Rattle.journal_checkpoint.specs.Heads.{front_of}
use Rattle.journal_checkpoint.proofs.Heads.{front_long}
use Rattle.journal_checkpoint.proofs.PairReads.{front_take, kept_held, cut_reads}
use Rattle.journal_checkpoint.proofs.Parts.{cut_told}
use Rattle.journal_checkpoint.proofs.pair.PairDiskDisk.cut.Goals as goal

pub cut-requires-clause-within : goal.cut-requires-clause-within
cut-requires-clause-within g c = let s = c.args.self.now in λ f is. (let fits = c.requires.within (drop s.start f) (ap (of_told (drop s.start)) is) in let long = front_long f s.generation s.start s.starts (s.held c.requires.up f is) in let left = length-drop s.start f in omega (arith, fits, long, left))

pub invariant_of-self-clause-held : goal.invariant_of-self-clause-held
invariant_of-self-clause-held g c = λ up.
    let s = c.args.self.now in
    let within : (f : List ℕ) → g.D.Disk.holds s.live ≡ Some f → c.args.len + s.start ≤ length f = λ f is. (let fits = c.requires.within (drop s.start f) (ap (of_told (drop s.start)) is) in let long = front_long f s.generation s.start s.starts (s.held c.requires.up f is) in let left = length-drop s.start f in omega (arith, fits, long, left)) in
    kept_held c.cut.result (take (c.args.len + s.start)) (g.D.Disk.holds s.live) (g.D.Disk.holds c.cut.new.self) (g.D.Disk.up c.cut.new.self) (λ (d : List ℕ). take s.start d ≡ front_of s.generation)
    (λ d is was. take-take s.start (c.args.len + s.start) d (omega arith) ∙ was) (s.held c.requires.up) c.cut.ensures.done (λ was. (c.cut.ensures.memory was).0) c.cut.ensures.down up

pub invariant_of-self-clause-images : goal.invariant_of-self-clause-images
invariant_of-self-clause-images g c = λ f left.
    let s = c.args.self.now in
    let from = c.cut.ensures.images f left in
    front_take s.start (c.args.len + s.start) f from.0 (omega arith) from.2.front ∙ s.images from.0 from.1

pub returns-clause-done : goal.returns-clause-done
returns-clause-done g c =
    let s = c.args.self.now in
    on_ok_weaker c.cut.result (λ h. cut_told s.start c.args.len (c.args.len + s.start) (g.D.Disk.holds s.live) (g.D.Disk.holds c.cut.new.self) refl h) c.cut.ensures.done

pub returns-clause-images : goal.returns-clause-images
returns-clause-images g c =
    let s = c.args.self.now in
    cut_reads s.second s.start s.generation (g.D.Disk.may_leave s.other) c.args.len (c.args.len + s.start) (g.D.Disk.may_leave s.live) (g.D.Disk.may_leave c.cut.new.self) refl s.starts s.fits s.older s.images c.cut.ensures.images

pub returns-clause-counts : goal.returns-clause-counts
returns-clause-counts g c =
    let s = c.args.self.now in
    let h = c.cut.ensures.counts in
    let disk = g.D.Disk in
    let d = disk.deads s.other in
    record { stops = counts_plus (IsErrOf c.cut.result store.Down) (disk.downs s.live) (disk.downs c.cut.new.self) (disk.downs s.other) h.stops; no_death = ap (λ (n : ℕ). n + d) h.no_death }
