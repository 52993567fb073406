-- Lemmas: a circuit's measurement function keeps the laws.
use Rattle.std.proofs.Common.{◌≡◌, ℕ, ◌+◌, ◌*◌, ◌<◌, ◌≤◌, List, ◌++◌, length, map, drop, true, Some, sym, ap, ◌∙◌, arith, subst}
use Rattle.std.specs.Prelude.{replicate}
use Rattle.std.specs.Str.{bytes_eq}
use Rattle.std.specs.Option.{option_and_then}
use Rattle.std.proofs.Math.ListN.{length-append}
use Rattle.std.proofs.Math.Nat.{mul-le-mul}
use Rattle.std.proofs.lemmas.List.{length-map}
use Rattle.field_laws.specs.Polynomial.{add_polynomials}
use Rattle.flp_circuits.specs.Shape.{Shape, ShapeLaws, EncodeLaws}
use Rattle.vdaf_api.specs.declared.role.Role.{Role}
use Rattle.vdaf_api.specs.declared.answer.Answer.{Answer}
use Rattle.vdaf_api.specs.declared.shares.TheConstants.{MOST_LEADER, MOST_STEP}
use Rattle.vdaf_api.specs.Functions.{Parts}
use Rattle.vdaf_api.specs.Vectors.{SpaceLaws, IsOut, Below, vector}
use Rattle.vdaf_api.specs.Verdict.{numbers_of, opened, verdict}
use Rattle.vdaf_api.specs.VectorLaws.{when-some}
use Rattle.vdaf_api.specs.Promises.{FunctionLaws, PartsAreShort}
use Rattle.prio3_share.specs.Base.{Base, BaseLaws}
use Rattle.prio3_share.specs.declared.usage.Usage.TheVariants.{JointSeed}
use Rattle.prio3_share.specs.Texts.{info, bytes_of, joint_seed}
use Rattle.prio3_share.specs.Sharing.{if_joint, sharing, shard, encoding}
use Rattle.prio3_share.specs.Preparing.{Started, x_bytes, proof_bytes, verifier_bytes, own_part, verifier, start, share_of, finish, out_of, accepts, verifier_of, combine, is_fair}
use Rattle.prio3_share.specs.Functions.{functions_of, space_of}
use Rattle.prio3_share.proofs.Elements.{bind-some, length-bytes, vector-bytes, below-numbers}
use Rattle.prio3_share.proofs.Lengths.{length-stream, length-part}
use Rattle.prio3_share.specs.Added.{HaveLengths}
use Rattle.prio3_share.proofs.Added.{lengths}
use Rattle.prio3_prep.proofs.Cuts.{joint-le, joint-short}
use Rattle.prio3_prep.proofs.Steps.{length-query}
use Rattle.prio3_prep.specs.States.{Sizes}
use Rattle.prio3_prep.proofs.Inversions.{half-sizes, Began, began}
use Rattle.prio3_prep.proofs.Formed.{start-form, message-form}
use Rattle.prio3_prep.proofs.Honest.{honest}

module _ {F : Type 0} {b : Base F} (laws : BaseLaws b) (c : Shape F) (keeps : ShapeLaws b.ring c) (codes : EncodeLaws b.ring c) (kind : ℕ) where
  pub space_laws : SpaceLaws (space_of b c)
  space_laws = record {
    some_number = let l : 1 < b.modulus = laws.residues.large in omega arith;
    some_byte = laws.some_byte;
    few_bytes = laws.few_bytes;
    room = laws.room;
    some_entry = codes.some_out;
    few_entries = let m : c.out_len * b.width ≤ 1024 * 16 = mul-le-mul codes.few_out laws.few_bytes in omega arith;
  }

  pub honest_laws : (answer : List ℕ → Answer) (verify id seed ms : List ℕ) (p : Parts) → shard b c kind id ms seed ≡ Some p → is_fair b c kind verify id ≡ true
      → numbers_of (functions_of b c kind answer) (verdict (functions_of b c kind answer) (opened verify id p)) ≡ encoding b c kind ms
  honest_laws answer verify id seed ms p = honest laws c keeps codes kind answer verify id seed ms p space_laws

  parts_short : (id seed : List ℕ) (x : List F) (p : Parts) → length x ≡ c.input_len → x_bytes b c kind + proof_bytes b c kind + 16 ≤ MOST_LEADER → sharing b c kind id x seed ≡ Some p → PartsAreShort p
  parts_short id seed x p hx small e =
      let have : HaveLengths b c kind p = lengths laws c keeps kind id seed x p hx e in
      record { public = omega (arith, have.public, joint-le c 32); leader = omega (arith, have.leader, joint-le c 16); helper = omega (arith, have.helper, joint-le c 16) }

  share_short : (role : Role) (verify id public input share : List ℕ) → share_of b c kind role verify id public input ≡ Some share → length share ≤ MOST_STEP
  share_short role verify id public input share e =
      let one = bind-some (start b c kind role verify id public input) (λ s. Some s.share) share e in
      let g : Began b c kind role verify id public input one.0 = began b c kind role verify id public input one.0 one.1 in
      let some : Some one.0.share ≡ Some share = one.2 in
      let is : one.0.share ≡ share = cc in
      let v : List F = verifier b c kind g.h g.r g.t in
      let own : List ℕ = own_part b c kind role id g.h in
      let lv : length (bytes_of b v) ≡ (c.arity + 2) * b.width = length-bytes laws v ∙ ap (λ n. n * b.width) (length-query laws c kind b.half g.h.x g.h.proof g.r g.t) in
      let le : length (if_joint c own) ≤ 16 = joint-short c own 16 (length-part b kind role id g.h.blind g.h.x) in
      let few : (c.arity + 2) * b.width ≤ 4 * 16 = mul-le-mul (let a : c.arity + 2 ≤ 4 = omega (arith, keeps.few_wires) in a) laws.few_bytes in
      let whole : length share ≡ length (bytes_of b v ++ if_joint c own) = sym (ap length is) ∙ ap (λ (s : Started). length s.share) g.is in
      omega (arith, length-append (bytes_of b v) (if_joint c own))

  message_short : (leader helper message : List ℕ) → combine b c kind leader helper ≡ Some message → length message ≤ MOST_STEP
  unfolding combine
  message_short leader helper message e =
      let one = bind-some (verifier_of b c kind leader) _ message e in
      let two = bind-some (verifier_of b c kind helper) _ message one.2 in
      let parts : List ℕ = drop (verifier_bytes b c kind) leader ++ drop (verifier_bytes b c kind) helper in
      let seed : List ℕ = joint_seed kind (drop (verifier_bytes b c kind) leader) (drop (verifier_bytes b c kind) helper) in
      let three = when-some (accepts b c kind (add_polynomials b.ring one.0 two.0)) (Some (if_joint c seed)) message two.2 in
      let some : Some (if_joint c seed) ≡ Some message = three.1 in
      let is : if_joint c seed ≡ message = cc in
      let le : length (if_joint c seed) ≤ 16 = joint-short c seed 16 (length-stream (replicate 16 0) (info kind JointSeed parts) 16) in
      omega (arith, ap length is)

  out_is : (role : Role) (verify id public input message out : List ℕ) → out_of b c kind role verify id public input message ≡ Some out → IsOut (space_of b c) out
  out_is role verify id public input message out e =
      let one = bind-some (start b c kind role verify id public input) (λ s. finish s message) out e in
      let g : Began b c kind role verify id public input one.0 = began b c kind role verify id public input one.0 one.1 in
      let two = when-some (bytes_eq message one.0.message) (Some one.0.out) out one.2 in
      let some : Some one.0.out ≡ Some out = two.1 in
      let is : one.0.out ≡ out = cc in
      let v : List F = c.truncate g.h.x in
      let sizes : Sizes c g.h = half-sizes b c kind laws role input g.h g.half in
      let size : length v ≡ c.out_len = codes.length-truncate g.h.x sizes.x in
      let here : out ≡ bytes_of b v = sym is ∙ ap (λ (s : Started). s.out) g.is in
      (map b.number v, ap (vector (space_of b c)) here ∙ vector-bytes laws c.out_len v size)

  encoding_is : (ms v : List ℕ) → encoding b c kind ms ≡ Some v → (length v ≡ c.out_len) × Below b.modulus v
  encoding_is ms v e =
      let one = bind-some (c.encode ms) (λ x. Some (map b.number (c.truncate x))) v e in
      let some : Some (map b.number (c.truncate one.0)) ≡ Some v = one.2 in
      let is : map b.number (c.truncate one.0) ≡ v = cc in
      subst (λ v. (length v ≡ c.out_len) × Below b.modulus v) is (length-map (c.truncate one.0) b.number ∙ codes.length-truncate one.0 (codes.length-encode ms one.0 one.1), below-numbers laws (c.truncate one.0))

  -- a leader's share has to be short, which is the circuit's affair: the laws of circuits alone allow longer ones
  pub prio_laws : (answer : List ℕ → Answer) → x_bytes b c kind + proof_bytes b c kind + 16 ≤ MOST_LEADER → FunctionLaws (functions_of b c kind answer)
  unfolding shard
  prio_laws answer small = record {
    space = space_laws;
    parts = λ id ms seed p e. let one = bind-some (c.encode ms) (λ x. sharing b c kind id x seed) p e in parts_short id seed one.0 p (codes.length-encode ms one.0 one.1) small one.2;
    share = share_short;
    message = message_short;
    halves = λ role key id public input share e. let one = bind-some (start b c kind role key id public input) (λ s. Some s.share) share e in start-form b c kind role key id public input one.0 one.1;
    shares = message-form b c kind;
    out = out_is;
    encoding = encoding_is;
    measured = λ id ms seed p hi hs e. let one = bind-some (c.encode ms) (λ x. sharing b c kind id x seed) p e in (map b.number (c.truncate one.0), ap (option_and_then (λ x. Some (map b.number (c.truncate x)))) one.1);
    honest = λ key id ms seed p hk hi hs. honest_laws answer key id seed ms p;
  }
