use Rattle.std.proofs.Common.{◌≡◌, ◌∙◌, sym, subst}
use Rattle.vdaf_api.specs.Vectors.{IsOut, plus}
use Rattle.vdaf_api.specs.SumLaws.{plus-is_out}
use Rattle.vdaf_api.proofs.space.Space.sum_numbers.Goals as goal

pub numbers-requires-clause-out : goal.numbers-requires-clause-out
numbers-requires-clause-out c =
    let is : c.deref.result.now ≡ plus c.args.self.now c.args.leader.now c.args.helper.now = c.deref.ensures.value ∙ c.in_ok-total.ensures in
    subst (IsOut c.args.self.now) (sym is) (plus-is_out c.requires.space c.args.leader.now c.args.helper.now c.requires.leader c.requires.helper)
