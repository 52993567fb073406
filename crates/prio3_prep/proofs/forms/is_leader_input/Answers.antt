use Rattle.std.proofs.Common.{◌≡◌, ◌+◌, ◌&&◌, ℕ, List, length, take, drop, sym, ap, ◌∙◌, refl, arith}
use Rattle.std.specs.Option.{is_some}
use Rattle.flp_proof.specs.Proof.{proof_len}
use Rattle.prio3_share.specs.Sharing.{joint_bytes}
use Rattle.prio3_share.specs.Preparing.{elements_of, proof_bytes, x_bytes}
use Rattle.prio3_share.proofs.Fields.{base}
use Rattle.prio3_prep.proofs.Formed.{leader-form, no_leader-form, tested}
use Rattle.prio3_prep.proofs.forms.is_leader_input.Goals as goal

pub returns-then-input-x_bytes : goal.returns-then-input-x_bytes
returns-then-input-x_bytes g c = λ kind.
    no_leader-form (base g.C.F.Field) (g.C.Circuit.shape c.args.c.now) kind c.args.input.now
    (λ e. c.if-input-x_bytes.true (omega (arith, e, c.input_bytes-x_bytes.ensures.bytes, c.proof_bytes-proof_bytes.ensures.bytes, c.joint_bytes.ensures)))

pub returns-then-is_vector : goal.returns-then-is_vector
returns-then-is_vector g c = λ kind.
    let b = base g.C.F.Field in
    let shape = g.C.Circuit.shape c.args.c.now in
    let input : List ℕ = c.args.input.now in
    let size : length input ≡ x_bytes b shape kind + (proof_bytes b shape kind + joint_bytes shape 16) =
    omega (arith, c.if-input-x_bytes.false, c.input_bytes-x_bytes.ensures.bytes, c.proof_bytes-proof_bytes.ensures.bytes, c.joint_bytes.ensures) in
    let front : c.split_at.result.0.now ≡ take (x_bytes b shape kind) input = c.split_at.ensures.front ∙ ap (λ k. take k input) c.input_bytes-x_bytes.ensures.bytes in
    let back : c.split_at.result.1.now ≡ drop (x_bytes b shape kind) input = c.split_at.ensures.back ∙ ap (λ k. drop k input) c.input_bytes-x_bytes.ensures.bytes in
    let next : c.split_at-2.result.0.now ≡ take (proof_bytes b shape kind) (drop (x_bytes b shape kind) input) =
    c.split_at-2.ensures.front ∙ ap (λ k. take k c.split_at.result.1.now) c.proof_bytes-proof_bytes.ensures.bytes ∙ ap (take (proof_bytes b shape kind)) back in
    let first = tested b c.MODULUS.result c.WIDTH.result c.input_len.result shape.input_len c.split_at.result.0.now (take (x_bytes b shape kind) input) c.is_vector.result c.is_vector.ensures c.MODULUS.ensures c.WIDTH.ensures c.input_len.ensures front in
    let second = tested b c.MODULUS-then-is_vector.result c.WIDTH-then-is_vector.result c.proof_len.result (proof_len shape) c.split_at-2.result.0.now (take (proof_bytes b shape kind) (drop (x_bytes b shape kind) input))
    c.is_vector-then-is_vector.result c.is_vector-then-is_vector.ensures c.MODULUS-then-is_vector.ensures c.WIDTH-then-is_vector.ensures c.proof_len.ensures next in
    ap (λ t. t && c.is_vector-then-is_vector.result) (sym c.if-is_vector.true) ∙ leader-form b shape kind input c.is_vector.result c.is_vector-then-is_vector.result size first second

pub returns-else-is_vector : goal.returns-else-is_vector
returns-else-is_vector g c = λ kind.
    let b = base g.C.F.Field in
    let shape = g.C.Circuit.shape c.args.c.now in
    let input : List ℕ = c.args.input.now in
    let size : length input ≡ x_bytes b shape kind + (proof_bytes b shape kind + joint_bytes shape 16) =
    omega (arith, c.if-input-x_bytes.false, c.input_bytes-x_bytes.ensures.bytes, c.proof_bytes-proof_bytes.ensures.bytes, c.joint_bytes.ensures) in
    let front : c.split_at.result.0.now ≡ take (x_bytes b shape kind) input = c.split_at.ensures.front ∙ ap (λ k. take k input) c.input_bytes-x_bytes.ensures.bytes in
    let first = tested b c.MODULUS.result c.WIDTH.result c.input_len.result shape.input_len c.split_at.result.0.now (take (x_bytes b shape kind) input) c.is_vector.result c.is_vector.ensures c.MODULUS.ensures c.WIDTH.ensures c.input_len.ensures front in
    let rest = is_some (elements_of b (proof_len shape) (take (proof_bytes b shape kind) (drop (x_bytes b shape kind) input))) in
    c.if-is_vector.false ∙ sym (ap (λ t. t && rest) c.if-is_vector.false) ∙ leader-form b shape kind input c.is_vector.result rest size first refl
