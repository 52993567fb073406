use Rattle.std.proofs.Common.{rules, Some, sym, ap, ◌∙◌, subst}
use Rattle.aes_cmac_prg.proofs.Drawing.{drawn-none}
use Rattle.prio3_share.specs.Splits.{Splits}
use Rattle.prio3_share.proofs.Fields.{base}
use Rattle.prio3_share.proofs.Shared.{joint-is}
use Rattle.prio3_share.proofs.joint.joint_of.Goals as goal

pub returns-then-joint_len-eq0-clause-randomness : goal.returns-then-joint_len-eq0-clause-randomness
returns-then-joint_len-eq0-clause-randomness g c =
    rw (sym c.joint_len.ensures ∙ c.if-joint_len-eq0.true) (drawn-none g.C.F.Field.residue g.C.F.Field.MODULUS g.C.F.Field.WIDTH _ _ ∙ ap Some (sym c.new-then-joint_len-eq0.ensures.items))

pub returns-in_err-randomness-clause-randomness : goal.returns-in_err-randomness-clause-randomness
returns-in_err-randomness-clause-randomness g c =
    subst (λ o. Splits (λ joint. joint.randomness.items) c.from_residual-in_err-randomness.result o)
    (joint-is (base g.C.F.Field) (g.C.Circuit.shape c.args.c.now) c.args.kind c.in_ok-parts.ensures.leader c.in_ok-parts.ensures.helper c.in_ok-seed.ensures c.joint_len-2.ensures)
    (search rules)

pub returns-clause-randomness : goal.returns-clause-randomness
returns-clause-randomness g c =
    sym (joint-is (base g.C.F.Field) (g.C.Circuit.shape c.args.c.now) c.args.kind c.in_ok-parts.ensures.leader c.in_ok-parts.ensures.helper c.in_ok-seed.ensures c.joint_len-2.ensures)
    ∙ c.in_ok-randomness.ensures.drawn
