use Rattle.std.proofs.Common.{◌≡◌, ◌^◌, ap, ◌∙◌, length, arith}
use Rattle.std.proofs.lemmas.Nat.{one_shl}
use Rattle.flp_tests.proofs.tests.polynomials.check_interpolation.Goals as goal

pub interpolate-requires : goal.interpolate-requires
interpolate-requires g c =
    let size : length c.in_ok-values.values.items ≡ 2 ^ c.args.log = omega (arith, c.in_ok-values.ensures, one_shl c.args.log 64 (omega arith)) in
    (c.args.log, c.requires, ap length c.deref.ensures.value ∙ size)
