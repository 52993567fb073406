use Rattle.std.proofs.Common.{rules, ap, sym, ◌∙◌, length}
use Rattle.std.specs.Prelude.{if◌then◌else◌}
use Rattle.std.proofs.lemmas.Bool.{eq-eqb, ne_eqb}
use Rattle.aes_cmac_prg.proofs.Drawing.{drawn-none}
use Rattle.prio3_share.specs.Sharing.{joint_bytes}
use Rattle.prio3_share.specs.Preparing.{start}
use Rattle.prio3_prep.specs.Parts.{start_at_drawn, start_of_half}
use Rattle.prio3_prep.proofs.Cuts.{blind-joint, no_blind-joint, joint-some, joint-zero}
use Rattle.prio3_prep.proofs.starting.begin.Goals as goal

pub returns-then-public-joint_bytes : goal.returns-then-public-joint_bytes
unfolding start
returns-then-public-joint_bytes g c = rw (ne_eqb (length c.args.public.now) (joint_bytes (g.C.Circuit.shape c.args.c.now) 32) (λ e. c.if-public-joint_bytes.true (e ∙ sym c.joint_bytes.ensures)))

pub returns-in_err-half : goal.returns-in_err-half
unfolding start
returns-in_err-half g c = rw (eq-eqb (length c.args.public.now) (joint_bytes (g.C.Circuit.shape c.args.c.now) 32) (c.if-public-joint_bytes.false ∙ c.joint_bytes.ensures)) (search rules)

pub with_joint-requires-clause-public : goal.with_joint-requires-clause-public
with_joint-requires-clause-public g c =
    c.if-public-joint_bytes.false ∙ c.joint_bytes.ensures
    ∙ ap (λ j. if j then 32 else 0) (blind-joint (g.C.Circuit.shape c.args.c.now) c.in_ok-half.half.blind c.in-Some.blind c.in-Some.is c.in_ok-half.half.blind_size c.in_ok-half.ensures.sizes.blind)

pub with_joint-requires-clause-joint : goal.with_joint-requires-clause-joint
with_joint-requires-clause-joint g c =
    let shape = g.C.Circuit.shape c.args.c.now in
    joint-some shape (blind-joint shape c.in_ok-half.half.blind c.in-Some.blind c.in-Some.is c.in_ok-half.half.blind_size c.in_ok-half.ensures.sizes.blind)

pub returns-in-Some : goal.returns-in-Some
unfolding start start_of_half start_at_drawn
returns-in-Some g c = rw (eq-eqb (length c.args.public.now) (joint_bytes (g.C.Circuit.shape c.args.c.now) 32) (c.if-public-joint_bytes.false ∙ c.joint_bytes.ensures), c.in_ok-half.ensures.half) c.with_joint.ensures

pub at_point-requires-clause-joint : goal.at_point-requires-clause-joint
at_point-requires-clause-joint g c =
    let shape = g.C.Circuit.shape c.args.c.now in
    sym (joint-zero shape (no_blind-joint shape c.in_ok-half.half.blind c.in-None.is c.in_ok-half.ensures.sizes.blind))

pub returns : goal.returns
unfolding start start_at_drawn
returns g c =
    let shape = g.C.Circuit.shape c.args.c.now in
    rw (
      eq-eqb (length c.args.public.now) (joint_bytes shape 32) (c.if-public-joint_bytes.false ∙ c.joint_bytes.ensures),
      c.in_ok-half.ensures.half,
      joint-zero shape (no_blind-joint shape c.in_ok-half.half.blind c.in-None.is c.in_ok-half.ensures.sizes.blind),
      drawn-none,
    ) c.at_point.ensures
