use Rattle.std.proofs.Common.{◌≡◌, ◌+◌, ℕ, List, length, take, ap, ◌∙◌, arith}
use Rattle.prio3_share.specs.Sharing.{joint_bytes}
use Rattle.prio3_share.specs.Preparing.{verifier_bytes}
use Rattle.prio3_share.proofs.Fields.{base}
use Rattle.prio3_prep.proofs.Formed.{share-form, tested}
use Rattle.prio3_prep.proofs.forms.is_share.Goals as goal

pub returns : goal.returns
returns g c = λ kind.
    let b = base g.C.F.Field in
    let shape = g.C.Circuit.shape c.args.c.now in
    let share : List ℕ = c.args.share.now in
    let size : length share ≡ verifier_bytes b shape kind + joint_bytes shape 16 = omega (arith, c.if-share-size.false, c.verifier_bytes-size.ensures.bytes, c.joint_bytes.ensures) in
    let front : c.split_at.result.0.now ≡ take (verifier_bytes b shape kind) share = c.split_at.ensures.front ∙ ap (λ k. take k share) c.verifier_bytes-size.ensures.bytes in
    let entries : c.arity.result + 2 ≡ shape.arity + 2 = omega (arith, c.arity.ensures) in
    tested b c.MODULUS.result c.WIDTH.result (c.arity.result + 2) (shape.arity + 2) c.split_at.result.0.now (take (verifier_bytes b shape kind) share) c.is_vector.result c.is_vector.ensures c.MODULUS.ensures c.WIDTH.ensures entries front
    ∙ share-form b shape kind share size
