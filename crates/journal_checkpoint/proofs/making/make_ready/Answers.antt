use Rattle.std.proofs.Common.{◌≡◌, inl, ℕ, List, [], ◌∷◌, length, get_or, take, refl, ◌<◌, sym, ◌∙◌, ap, arith}
use Rattle.dap_disk.specs.RunLaws.{then, weaker}
use Rattle.journal_checkpoint.specs.Packing.{KeepsGeneration}
use Rattle.journal_checkpoint.proofs.Moments.{looked, looked_then}
use Rattle.journal_checkpoint.proofs.making.make_ready.Goals as goal

pub returns-then-byte-eq2-clause-any_moment : goal.returns-then-byte-eq2-clause-any_moment
returns-then-byte-eq2-clause-any_moment g c =
    let disk = g.D.Disk in
    let old = c.args.disk.now in
    looked_then disk.moment disk.left_since disk.may_leave old c.read_into.new.disk c.behead.new.disk (λ f left. c.len.ensures.images f (c.read_into.ensures.images f left))
    (looked disk.moment disk.left_since disk.may_leave old c.len.new.self c.read_into.new.disk (λ f left. g.met.D.Disk.only_now old f left) c.len.ensures.images c.len.ensures.time c.read_into.ensures.any_moment)
    c.behead.ensures.any_moment

pub returns-clause-any_moment : goal.returns-clause-any_moment
returns-clause-any_moment g c =
    let disk = g.D.Disk in
    let old = c.args.disk.now in
    then disk.moment disk.left_since old c.read_into.new.disk c.clear.new.disk (KeepsGeneration (disk.may_leave old))
    (looked disk.moment disk.left_since disk.may_leave old c.len.new.self c.read_into.new.disk (λ f left. g.met.D.Disk.only_now old f left) c.len.ensures.images c.len.ensures.time c.read_into.ensures.any_moment)
    (weaker disk.moment disk.left_since c.read_into.new.disk c.clear.new.disk _ (KeepsGeneration (disk.may_leave old)) (λ f none. inl none) c.clear.ensures.any_moment)

take_first : (l : List ℕ) → 0 < length l → take 1 l ≡ get_or l 0 0 ∷ []
take_first [] some = absurd (omega (arith, some))
take_first (a ∷ l) some = refl

pub clear-requires-clause-shut : goal.clear-requires-clause-shut
clear-requires-clause-shut g c = λ f is shut.
    let both = c.is_zero.ensures.0 shut in
    let told = c.in_ok-n.ensures.told f (sym c.read_into.ensures.same ∙ is) in
    sym (ap (λ (m : ℕ). take m f) both.0) ∙ sym told.0 ∙ ap (λ (m : ℕ). take m c.read_into.new.buf) both.0 ∙ take_first c.read_into.new.buf (omega (arith, c.read_into.auto.buf)) ∙ ap (λ (x : ℕ). x ∷ []) both.1
