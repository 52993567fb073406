-- Checksums of identifiers.
use Rattle.std.specs.Prelude.{ℕ, List, [], ◌∷◌, replicate, bit_xor}
use Rattle.sha2.specs.Sha256.{sha256}

-- byte by byte, the bits in which the two differ
abbrev pub xor_bytes : List ℕ → List ℕ → List ℕ
xor_bytes [] ys = []
xor_bytes (x ∷ xs) [] = []
xor_bytes (x ∷ xs) (y ∷ ys) = bit_xor x y ∷ xor_bytes xs ys

-- the checksum of no identifiers
abbrev pub no_checksum : List ℕ
no_checksum = replicate 32 0

-- the exclusive or of the identifiers' SHA-256 digests
abbrev pub checksum_of : List (List ℕ) → List ℕ
checksum_of [] = no_checksum
checksum_of (id ∷ ids) = xor_bytes (sha256 id) (checksum_of ids)
