use Rattle.std.proofs.Common.{◌≡◌, ◌+◌, ℕ, List, length, take, drop, ap, ◌∙◌, arith}
use Rattle.std.proofs.lemmas.Bool.{eq-eqb}
use Rattle.prio3_share.specs.Sharing.{joint_bytes}
use Rattle.prio3_share.specs.Preparing.{half_of}
use Rattle.prio3_prep.specs.States.{bytes_in}
use Rattle.prio3_share.proofs.Lengths.{proof_len-few}
use Rattle.prio3_prep.proofs.Cuts.{blind-len}
use Rattle.prio3_prep.proofs.reading.helper_half.Goals as goal

pub draw-requires-2 : goal.draw-requires-2
draw-requires-2 g c = omega (arith, proof_len-few (g.met.C.Circuit.laws c.args.c.now), c.proof_len.ensures)

pub blind_from-requires : goal.blind_from-requires
blind_from-requires g c =
    blind-len (g.C.Circuit.shape c.args.c.now) (length c.split_at-2.result.1.now) (omega (arith, c.split_at-2.ensures.back_len, c.split_at.ensures.back_len, c.if-input-joint_bytes.false, c.joint_bytes.ensures))

pub returns : goal.returns
unfolding half_of
returns g c =
    let shape = g.C.Circuit.shape c.args.c.now in
    let input : List ℕ = c.args.input.now in
    let first : c.key_from-x_key.result ≡ take 16 input = c.key_from-x_key.ensures ∙ c.split_at.ensures.front in
    let second : c.key_from-proof_key.result ≡ take 16 (drop 16 input) = c.key_from-proof_key.ensures ∙ c.split_at-2.ensures.front ∙ ap (take 16) c.split_at.ensures.back in
    let last : bytes_in c.blind_from.result ≡ drop 16 (drop 16 input) = c.blind_from.ensures.bytes ∙ c.split_at-2.ensures.back ∙ ap (drop 16) c.split_at.ensures.back in
    rw (
      eq-eqb (length input) (32 + joint_bytes shape 16) (c.if-input-joint_bytes.false ∙ ap (λ (k : ℕ). 32 + k) c.joint_bytes.ensures),
      ← first,
      ← second,
      ← c.input_len.ensures,
      ← c.proof_len.ensures,
      c.in_ok-x.ensures.drawn,
      c.in_ok-proof.ensures.drawn,
      ← last,
    )
