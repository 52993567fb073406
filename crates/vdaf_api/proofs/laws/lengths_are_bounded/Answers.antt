use Rattle.std.proofs.Common.{arith}
use Rattle.vdaf_api.specs.Vectors.{SpaceLaws}
use Rattle.vdaf_api.specs.VectorLaws.{Spells, vector_of-back}
use Rattle.vdaf_api.proofs.laws.lengths_are_bounded.Goals as goal

pub returns-clause-parts : goal.returns-clause-parts
returns-clause-parts g c = (g.met.V.Vdaf.laws c.args.v.now).parts

pub returns-clause-share : goal.returns-clause-share
returns-clause-share g c = (g.met.V.Vdaf.laws c.args.v.now).share

pub returns-clause-message : goal.returns-clause-message
returns-clause-message g c = (g.met.V.Vdaf.laws c.args.v.now).message

pub returns-clause-out : goal.returns-clause-out
returns-clause-out g c out is_out =
    let s = (g.V.Vdaf.functions c.args.v.now).space in
    let laws : SpaceLaws s = (g.met.V.Vdaf.laws c.args.v.now).space in
    let spells : Spells s.modulus s.width s.size out is_out.0 = vector_of-back s.modulus s.width s.size out is_out.0 is_out.1 in
    omega (arith, spells.bytes, laws.few_entries)
