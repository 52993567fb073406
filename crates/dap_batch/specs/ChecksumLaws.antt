-- Checksums of lists of identifiers.
use Rattle.std.proofs.Common.{◌≡◌, ℕ, List, [], ◌∷◌, ◌++◌, length, sym, ap, ◌∙◌, refl}
use Rattle.sha2.specs.Sha256.{sha256}
use Rattle.sha2.proofs.Facts256.{length-sha256}
use Rattle.dap_batch.specs.Checksum.{xor_bytes, no_checksum, checksum_of}
use Rattle.dap_batch.specs.XorLaws.{xor_bytes-comm, xor_bytes-assoc, xor_bytes-undo, xor_bytes-zeros, length-xor_bytes}

pub length-checksum_of : (ids : List (List ℕ)) → length (checksum_of ids) ≡ 32
length-checksum_of [] = refl
length-checksum_of (id ∷ ids) = length-xor_bytes (sha256 id) (checksum_of ids) (length-sha256 id ∙ sym (length-checksum_of ids)) ∙ length-sha256 id

pub checksum_of-push : (ids : List (List ℕ)) (id : List ℕ) → checksum_of (ids ++ id ∷ []) ≡ xor_bytes (checksum_of ids) (sha256 id)
checksum_of-push [] id = xor_bytes-comm (sha256 id) no_checksum
checksum_of-push (x ∷ ids) id = ap (xor_bytes (sha256 x)) (checksum_of-push ids id) ∙ sym (xor_bytes-assoc (sha256 x) (checksum_of ids) (sha256 id))

pub checksum_of-append : (ids more : List (List ℕ)) → checksum_of (ids ++ more) ≡ xor_bytes (checksum_of ids) (checksum_of more)
checksum_of-append [] more = sym (xor_bytes-zeros 32 (checksum_of more) (length-checksum_of more))
checksum_of-append (x ∷ ids) more = ap (xor_bytes (sha256 x)) (checksum_of-append ids more) ∙ sym (xor_bytes-assoc (sha256 x) (checksum_of ids) (checksum_of more))

swapped : (a b c : List ℕ) → xor_bytes a (xor_bytes b c) ≡ xor_bytes b (xor_bytes a c)
swapped a b c = sym (xor_bytes-assoc a b c) ∙ ap (λ l. xor_bytes l c) (xor_bytes-comm a b) ∙ xor_bytes-assoc b a c

pub checksum_of-middle : (id : List ℕ) (before after : List (List ℕ)) → checksum_of (before ++ id ∷ after) ≡ checksum_of (id ∷ (before ++ after))
checksum_of-middle id [] after = refl
checksum_of-middle id (x ∷ before) after =
    ap (xor_bytes (sha256 x)) (checksum_of-middle id before after) ∙ swapped (sha256 x) (sha256 id) (checksum_of (before ++ after))

pub checksum_of-twice : (id : List ℕ) (ids : List (List ℕ)) → checksum_of (id ∷ (id ∷ ids)) ≡ checksum_of ids
checksum_of-twice id ids =
    let sum = checksum_of ids in
    let hash = sha256 id in
    xor_bytes-comm hash (xor_bytes hash sum) ∙ ap (λ l. xor_bytes l hash) (xor_bytes-comm hash sum)
    ∙ xor_bytes-undo sum hash (length-checksum_of ids ∙ sym (length-sha256 id))
