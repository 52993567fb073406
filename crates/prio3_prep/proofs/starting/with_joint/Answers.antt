use Rattle.std.proofs.Common.{◌≡◌, ℕ, List, ap, sym, ◌∙◌, arith, rules}
use Rattle.std.proofs.lemmas.Bool.{lt-ltb}
use Rattle.prio3_share.specs.Texts.{part}
use Rattle.prio3_share.specs.Preparing.{own_part, leader_part_for, helper_part_for}
use Rattle.prio3_share.proofs.Fields.{base}
use Rattle.prio3_share.proofs.Shared.{joint-is}
use Rattle.prio3_prep.specs.States.{half_in}
use Rattle.prio3_prep.specs.Parts.{start_of_half}
use Rattle.prio3_prep.proofs.starting.with_joint.Goals as goal

pub returns-in_err-randomness : goal.returns-in_err-randomness
unfolding start_of_half
returns-in_err-randomness g c =
    let b = base g.C.F.Field in
    let kind : ℕ = c.args.asked.kind in
    let h = half_in c.args.half.now in
    let own : c.in_ok-own.own ≡ own_part b (g.C.Circuit.shape c.args.c.now) kind c.args.asked.role c.args.asked.id h = c.in_ok-own.ensures ∙ ap (λ (l : List ℕ). part b kind c.args.asked.role c.args.asked.id l c.deref.result.now) (sym c.requires.blind) ∙ ap (part b kind c.args.asked.role c.args.asked.id h.blind) c.deref.ensures.value in
    rw (← joint-is b (g.C.Circuit.shape c.args.c.now) kind (ap (λ (l : List ℕ). leader_part_for c.args.asked.role l c.args.public.now) own) (ap (λ (l : List ℕ). helper_part_for c.args.asked.role l c.args.public.now) own) c.in_ok-seed.ensures c.joint_len.ensures) (search rules)

pub returns : goal.returns
unfolding start_of_half
returns g c =
    let b = base g.C.F.Field in
    let shape = g.C.Circuit.shape c.args.c.now in
    let kind : ℕ = c.args.asked.kind in
    let h = half_in c.args.half.now in
    let own : c.in_ok-own.own ≡ own_part b shape kind c.args.asked.role c.args.asked.id h = c.in_ok-own.ensures ∙ ap (λ (l : List ℕ). part b kind c.args.asked.role c.args.asked.id l c.deref.result.now) (sym c.requires.blind) ∙ ap (part b kind c.args.asked.role c.args.asked.id h.blind) c.deref.ensures.value in
    rw (
      ← joint-is b shape kind (ap (λ (l : List ℕ). leader_part_for c.args.asked.role l c.args.public.now) own) (ap (λ (l : List ℕ). helper_part_for c.args.asked.role l c.args.public.now) own) c.in_ok-seed.ensures c.joint_len.ensures,
      c.in_ok-randomness.ensures.drawn,
      lt-ltb 0 shape.joint_len (omega arith),
      ← own,
      ← c.in_ok-seed.ensures,
      ← c.deref-2.ensures.value,
    ) c.at_point.ensures
