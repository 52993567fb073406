use Rattle.std.proofs.Common.{◌≡◌, inl, inr, ⊎_elim, false, refl, sym, ◌∙◌}
use Rattle.dap_disk.specs.Disk.{Tells}
use Rattle.dap_disk.specs.RunLaws.{started, weaker}
use Rattle.journal_checkpoint.specs.Heads.{begins_block}
use Rattle.journal_checkpoint.specs.Steps.{KeepsOrHeads}
use Rattle.journal_checkpoint.proofs.first_head.give_head.Goals as goal

pub returns-then-branch-clause-second_moments : goal.returns-then-branch-clause-second_moments
returns-then-branch-clause-second_moments g c =
    let disk = g.D.Disk in
    let b = c.args.b.now in
    started disk.moment disk.left_since b (KeepsOrHeads (disk.holds c.args.a.now) (disk.may_leave b)) (λ y left. inl (inr (y, g.met.D.Disk.only_now b y left, refl)))

pub returns-in_err-make_live-clause-second_moments : goal.returns-in_err-make_live-clause-second_moments
returns-in_err-make_live-clause-second_moments g c =
    let disk = g.D.Disk in
    let b = c.args.b.now in
    let none : Tells (disk.holds c.args.a.now) (λ f. begins_block f ≡ false) = λ f is. sym (c.in_ok-begins_block.ensures.told f is) ∙ c.if-branch.false in
    weaker disk.moment disk.left_since b c.make_live.new.disk _ (KeepsOrHeads (disk.holds c.args.a.now) (disk.may_leave b)) (λ y k. ⊎_elim (λ kept. inl kept) (λ whole. inr (none, whole)) k) c.make_live.ensures.any_moment

pub returns-clause-second_moments : goal.returns-clause-second_moments
returns-clause-second_moments g c =
    let disk = g.D.Disk in
    let b = c.args.b.now in
    let none : Tells (disk.holds c.args.a.now) (λ f. begins_block f ≡ false) = λ f is. sym (c.in_ok-begins_block.ensures.told f is) ∙ c.if-branch.false in
    weaker disk.moment disk.left_since b c.make_live.new.disk _ (KeepsOrHeads (disk.holds c.args.a.now) (disk.may_leave b)) (λ y k. ⊎_elim (λ kept. inl kept) (λ whole. inr (none, whole)) k) c.make_live.ensures.any_moment
