use Rattle.std.proofs.Common.{◌≡◌, ◌^◌, ap, ◌∙◌, length, arith}
use Rattle.std.proofs.lemmas.Nat.{one_shl}
use Rattle.flp_tests.proofs.tests.transforms.check_interpolations.Goals as goal

pub interpolate-requires : goal.interpolate-requires
interpolate-requires g c =
    let size : length c.sized-values.result.items ≡ 2 ^ c.args.log = omega (arith, c.sized-values.ensures, one_shl c.args.log 64 (omega arith)) in
    (c.args.log, c.requires, ap length c.deref.ensures.value ∙ size)

pub inverse-requires : goal.inverse-requires
inverse-requires g c =
    let size : length c.sized-values.result.items ≡ 2 ^ c.args.log = omega (arith, c.sized-values.ensures, one_shl c.args.log 64 (omega arith)) in
    (c.args.log, c.requires, ap length c.deref_mut.ensures.value ∙ size)
