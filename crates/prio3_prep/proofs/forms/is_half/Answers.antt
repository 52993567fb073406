use Rattle.std.proofs.Common.{◌∙◌}
use Rattle.prio3_share.proofs.Fields.{base}
use Rattle.prio3_prep.proofs.Formed.{helper-form}
use Rattle.prio3_prep.proofs.forms.is_half.Goals as goal

pub returns-in-Helper : goal.returns-in-Helper
returns-in-Helper g c = λ kind.
    helper-form (base g.C.F.Field) (g.C.Circuit.shape c.args.c.now) kind c.args.role c.args.public.now c.args.input.now c.joint_bytes-in-Helper.result c.in-Helper.is
    (c.if-public-joint_bytes.false ∙ c.joint_bytes.ensures) c.joint_bytes-in-Helper.ensures
