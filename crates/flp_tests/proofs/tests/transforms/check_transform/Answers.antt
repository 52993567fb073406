use Rattle.std.proofs.Common.{◌≡◌, ◌^◌, ap, ◌∙◌, length, arith}
use Rattle.std.proofs.lemmas.Nat.{one_shl}
use Rattle.flp_tests.proofs.tests.transforms.check_transform.Goals as goal

pub ntt-requires : goal.ntt-requires
ntt-requires g c =
    let size : length c.in_ok-p.p.items ≡ 2 ^ c.args.log = omega (arith, c.in_ok-p.ensures, one_shl c.args.log 64 (omega arith)) in
    (c.args.log, c.requires, ap length c.deref_mut.ensures.value ∙ size)

pub inverse-requires : goal.inverse-requires
inverse-requires g c =
    let size : length c.sized-back.result.items ≡ 2 ^ c.args.log = omega (arith, c.sized-back.ensures, one_shl c.args.log 64 (omega arith)) in
    (c.args.log, c.requires, ap length c.deref_mut-2.ensures.value ∙ size)
