use Rattle.vdaf_api.specs.declared.role.Role.TheVariants.{Leader, Helper}
use Rattle.prio3_share.proofs.Fields.{base, kept}
use Rattle.prio3_prep.specs.States.{Sizes, half_in}
use Rattle.prio3_prep.proofs.Answering.{of-value}
use Rattle.prio3_prep.proofs.Inversions.{half-sizes}
use Rattle.prio3_prep.proofs.reading.half_for.Goals as goal

pub returns-in-Leader-clause-sizes : goal.returns-in-Leader-clause-sizes
returns-in-Leader-clause-sizes g c =
    of-value half_in (Sizes (g.C.Circuit.shape c.args.c.now)) _ c.leader_half.result (half-sizes (base g.C.F.Field) (g.C.Circuit.shape c.args.c.now) c.args.kind (kept g.met.C.F.Field) Leader c.args.input.now) (c.leader_half.ensures c.args.kind)

pub returns-in-Helper-clause-sizes : goal.returns-in-Helper-clause-sizes
returns-in-Helper-clause-sizes g c =
    of-value half_in (Sizes (g.C.Circuit.shape c.args.c.now)) _ c.helper_half.result (half-sizes (base g.C.F.Field) (g.C.Circuit.shape c.args.c.now) c.args.kind (kept g.met.C.F.Field) Helper c.args.input.now) c.helper_half.ensures
