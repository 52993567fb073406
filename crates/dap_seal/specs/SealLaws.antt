-- Lemmas: opening undoes sealing.
use Rattle.std.proofs.Common.{◌≡◌, ℕ, ◌+◌, ◌-◌, List, ◌++◌, length, take, drop, true, Some, None, cond, sym, ap, ◌∙◌, refl, arith}
use Rattle.std.specs.Prelude.{nat_le, ◌&&◌}
use Rattle.std.specs.Str.{bytes_eq}
use Rattle.std.proofs.Math.ListN.{length-append}
use Rattle.std.proofs.Math.Seq.{take-append_seam, drop-append_seam}
use Rattle.std.proofs.lemmas.Bool.Decides.{nat_tests}
use Rattle.std.proofs.lemmas.List.FromFn.{length-map-range_with_len}
use Rattle.std.specs.Cmp.Lexicographic.{nat_list_eq_equiv}
use Rattle.aes_block.specs.Cipher.{encrypt, last_round}
use Rattle.aes_block.specs.State.{add_round_key}
use Rattle.aes_cmac_prg.specs.Cmac.{cmac}
use Rattle.aes_cmac_prg.specs.Stream.{stream, byte_at}
use Rattle.dap_batch.specs.Checksum.{xor_bytes}
use Rattle.dap_batch.specs.XorLaws.{length-xor_bytes, xor_bytes-undo}
use Rattle.vdaf_api.specs.declared.keys.SealKeys.{SealKeys}
use Rattle.vdaf_api.specs.declared.role.Role.{Role}
use Rattle.dap_seal.specs.declared.head.Head.{Head}
use Rattle.dap_seal.specs.Sealed.{cipher_info, covered_by, tag_text, tag_by, sealed_by, ciphertext_of, given_tag, is_tagged, opened_by}

-- a tag has 16 bytes
pub length-cmac : (key text : List ℕ) → length (cmac key text) ≡ 16
unfolding cmac encrypt last_round add_round_key
length-cmac key text = refl

pub length-stream : (key info : List ℕ) (n : ℕ) → length (stream key info n) ≡ n
length-stream key info n = length-map-range_with_len (byte_at (cmac key info)) 0 n

pub length-covered_by : (keys : SealKeys) (role : Role) (id bytes : List ℕ) → length (covered_by keys role id bytes) ≡ length bytes
length-covered_by keys role id bytes =
    length-xor_bytes bytes (stream keys.enc (cipher_info role id) (length bytes)) (sym (length-stream keys.enc (cipher_info role id) (length bytes)))

pub length-sealed_by : (keys : SealKeys) (role : Role) (head : Head) (plain : List ℕ) → length (sealed_by keys role head plain) ≡ length plain + 16
length-sealed_by keys role head plain =
    let c : List ℕ = covered_by keys role head.id plain in
    let tag : List ℕ = tag_by keys role head c in
    let long : length (c ++ tag) ≡ length c + length tag = length-append c tag in
    let short : length tag ≡ 16 = length-cmac keys.mac (tag_text role head c) in
    let same : length c ≡ length plain = length-covered_by keys role head.id plain in
    omega arith

-- bytes that are covered twice are plain
pub covered_by-covered_by : (keys : SealKeys) (role : Role) (id bytes : List ℕ) → covered_by keys role id (covered_by keys role id bytes) ≡ bytes
covered_by-covered_by keys role id bytes =
    let info : List ℕ = cipher_info role id in
    ap (λ n. xor_bytes (covered_by keys role id bytes) (stream keys.enc info n)) (length-covered_by keys role id bytes)
    ∙ xor_bytes-undo bytes (stream keys.enc info (length bytes)) (sym (length-stream keys.enc info (length bytes)))

pub opened_by-sealed_by : (keys : SealKeys) (role : Role) (head : Head) (plain : List ℕ) → opened_by keys role head (sealed_by keys role head plain) ≡ Some plain
opened_by-sealed_by keys role head plain =
    let c : List ℕ = covered_by keys role head.id plain in
    let tag : List ℕ = tag_by keys role head c in
    let sealed : List ℕ = c ++ tag in
    let long : length sealed ≡ length c + length tag = length-append c tag in
    let short : length tag ≡ 16 = length-cmac keys.mac (tag_text role head c) in
    let place : length sealed - 16 ≡ length c = omega arith in
    let cipher : ciphertext_of sealed ≡ c = ap (λ n. take n sealed) place ∙ take-append_seam c tag in
    let given : given_tag sealed ≡ tag = ap (λ n. drop n sealed) place ∙ drop-append_seam c tag in
    let enough : nat_le 16 (length sealed) ≡ true = grind (arith, nat_tests) in
    let same : bytes_eq tag tag ≡ true = nat_list_eq_equiv.refl tag in
    let is : is_tagged keys role head sealed ≡ true =
    ap (λ b. b && bytes_eq (tag_by keys role head (ciphertext_of sealed)) (given_tag sealed)) enough
    ∙ ap (λ x. bytes_eq (tag_by keys role head x) (given_tag sealed)) cipher ∙ ap (bytes_eq tag) given ∙ same in
    ap (λ b. cond b (Some (covered_by keys role head.id (ciphertext_of sealed))) None) is
    ∙ ap (λ x. Some (covered_by keys role head.id x)) cipher ∙ ap Some (covered_by-covered_by keys role head.id plain)
