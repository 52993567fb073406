use Rattle.std.proofs.Common.{inl, inr, ⊎_elim, ℕ, ◌+◌, ◌<◌, ◌^◌, ◌∷◌, List, Vec, refl, ◌∙◌, ap, subst, arith}
use Rattle.std.specs.declared.alloc.Global.{Global}
use Rattle.dap_disk.specs.Disk.{of_told}
use Rattle.dap_disk.specs.RunLaws.{started, weaker}
use Rattle.report_journal.specs.Log.{contents}
use Rattle.journal_checkpoint.specs.Packing.{Packs}
use Rattle.journal_checkpoint.specs.Steps.{KeepsOrPacks}
use Rattle.journal_checkpoint.proofs.Packs.{stands_plain}
use Rattle.journal_checkpoint.proofs.packing.pack_onto.Goals as goal

pub returns-then-read-over-clause-few : goal.returns-then-read-over-clause-few
returns-then-read-over-clause-few g c = λ few. (λ f told. (contents c.in_ok-read.read.records.items, c.in_ok-read.read.count, c.in_ok-read.ensures.records f told, omega (arith, c.if-read-over.true)), refl)

pub returns-then-read-over-clause-other_moments : goal.returns-then-read-over-clause-other_moments
returns-then-read-over-clause-other_moments g c =
    let disk = g.D.Disk in
    let b = c.args.other.now in
    started disk.moment disk.left_since b (KeepsOrPacks c.args.generation c.args.start (disk.holds c.args.live.now) (disk.may_leave b)) (λ y left. inl (inr (y, g.met.D.Disk.only_now b y left, refl)))

pub returns-then-generation-eq18446744073709551615-clause-last : goal.returns-then-generation-eq18446744073709551615-clause-last
returns-then-generation-eq18446744073709551615-clause-last g c = λ last.
    (λ f told. (contents c.in_ok-read.read.records.items, c.in_ok-read.read.count, c.in_ok-read.ensures.records f told, omega (arith, c.if-read-over.false)), omega (arith, c.if-generation-eq18446744073709551615.true), refl)

pub returns-then-generation-eq18446744073709551615-clause-other_moments : goal.returns-then-generation-eq18446744073709551615-clause-other_moments
returns-then-generation-eq18446744073709551615-clause-other_moments g c =
    let disk = g.D.Disk in
    let b = c.args.other.now in
    started disk.moment disk.left_since b (KeepsOrPacks c.args.generation c.args.start (disk.holds c.args.live.now) (disk.may_leave b)) (λ y left. inl (inr (y, g.met.D.Disk.only_now b y left, refl)))

pub returns-in_err-bytes-clause-other_moments : goal.returns-in_err-bytes-clause-other_moments
returns-in_err-bytes-clause-other_moments g c =
    let disk = g.D.Disk in
    let b = c.args.other.now in
    started disk.moment disk.left_since b (KeepsOrPacks c.args.generation c.args.start (disk.holds c.args.live.now) (disk.may_leave b)) (λ y left. inl (inr (y, g.met.D.Disk.only_now b y left, refl)))

pub returns-in_err-make_live-clause-other_moments : goal.returns-in_err-make_live-clause-other_moments
returns-in_err-make_live-clause-other_moments g c =
    let disk = g.D.Disk in
    let b = c.args.other.now in
    let made = c.in_ok-bytes.ensures in
    let packs = subst (λ (l : List (Vec ℕ Global)). Packs (contents l) made.0) c.deref.ensures.value made.1 in
    let bytes = c.deref-2.ensures.value ∙ made.2 in
    let read = c.in_ok-read in
    let room : c.args.generation + 1 < 2 ^ 64 = omega (arith, c.ranges.generation.fits, c.if-generation-eq18446744073709551615.false) in
    weaker disk.moment disk.left_since b c.make_live.new.disk _ (KeepsOrPacks c.args.generation c.args.start (disk.holds c.args.live.now) (disk.may_leave b))
    (λ y k. ⊎_elim (λ kept. inl kept) (λ whole. inr (made.0, record { records = contents read.read.records.items; stands = λ f told. stands_plain _ _ _ (read.ensures.records f told); packs = packs; room = room }, whole ∙ ap (λ (l : List ℕ). 2 ∷ l) bytes)) k) c.make_live.ensures.any_moment

pub returns-clause-packed : goal.returns-clause-packed
returns-clause-packed g c = λ packed.
    let disk = g.D.Disk in
    let made = c.in_ok-bytes.ensures in
    let packs = subst (λ (l : List (Vec ℕ Global)). Packs (contents l) made.0) c.deref.ensures.value made.1 in
    let bytes = c.deref-2.ensures.value ∙ made.2 in
    let read = c.in_ok-read in
    let room : c.args.generation + 1 < 2 ^ 64 = omega (arith, c.ranges.generation.fits, c.if-generation-eq18446744073709551615.false) in
    record {
      records = contents read.read.records.items;
      count = read.read.count;
      parts = made.0;
      stands = read.ensures.records;
      more = omega (arith, c.if-read-over.false);
      packs = packs;
      room = room;
      done = c.in_ok-make_live.ensures.done ∙ ap (λ (l : List ℕ). of_told (λ _. 2 ∷ l) (disk.holds c.args.other.now)) bytes;
    }

pub returns-clause-other_moments : goal.returns-clause-other_moments
returns-clause-other_moments g c =
    let disk = g.D.Disk in
    let b = c.args.other.now in
    let made = c.in_ok-bytes.ensures in
    let packs = subst (λ (l : List (Vec ℕ Global)). Packs (contents l) made.0) c.deref.ensures.value made.1 in
    let bytes = c.deref-2.ensures.value ∙ made.2 in
    let read = c.in_ok-read in
    let room : c.args.generation + 1 < 2 ^ 64 = omega (arith, c.ranges.generation.fits, c.if-generation-eq18446744073709551615.false) in
    weaker disk.moment disk.left_since b c.make_live.new.disk _ (KeepsOrPacks c.args.generation c.args.start (disk.holds c.args.live.now) (disk.may_leave b))
    (λ y k. ⊎_elim (λ kept. inl kept) (λ whole. inr (made.0, record { records = contents read.read.records.items; stands = λ f told. stands_plain _ _ _ (read.ensures.records f told); packs = packs; room = room }, whole ∙ ap (λ (l : List ℕ). 2 ∷ l) bytes)) k) c.make_live.ensures.any_moment
