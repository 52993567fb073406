-- Sealed shares.
use Rattle.std.specs.Prelude.{ℕ, ◌-◌, ◌%◌, ◌^◌, List, [], ◌∷◌, ◌++◌, length, take, drop, codes, Bool, ◌&&◌, nat_le, Option, Some, None, if◌then◌else◌}
use Rattle.std.specs.Int.{w32, w64, to_be_bytes}
use Rattle.std.specs.Str.{bytes_eq}
use Rattle.aes_cmac_prg.specs.Cmac.{cmac}
use Rattle.aes_cmac_prg.specs.Stream.{stream}
use Rattle.dap_batch.specs.Checksum.{xor_bytes}
use Rattle.vdaf_api.specs.declared.keys.SealKeys.{SealKeys}
use Rattle.vdaf_api.specs.Role.{role_byte}
use Rattle.vdaf_api.specs.declared.role.Role.{Role}
use Rattle.dap_seal.specs.declared.head.Head.{Head}

-- what tells a stream from the others of its key
abbrev pub cipher_info : Role → List ℕ → List ℕ
cipher_info role id = codes "dap seal" ++ role_byte role ∷ [] ++ id

-- bytes joined with the stream of an aggregator's key and an identifier
abbrev pub covered_by : SealKeys → Role → List ℕ → List ℕ → List ℕ
covered_by keys role id bytes = xor_bytes bytes (stream keys.enc (cipher_info role id) (length bytes))

-- what a tag is made of: the aggregator, the task's name with its length, the identifier, the time, the public share with its length, and the ciphertext
abbrev pub tag_text : Role → Head → List ℕ → List ℕ
tag_text role head ciphertext =
    role_byte role ∷ [] ++ length head.name ∷ head.name ++ head.id ++ to_be_bytes w64 head.time ++ to_be_bytes w32 (length head.public % 2 ^ 32) ++ head.public ++ ciphertext

-- the tag of a head and a ciphertext
abbrev pub tag_by : SealKeys → Role → Head → List ℕ → List ℕ
tag_by keys role head ciphertext = cmac keys.mac (tag_text role head ciphertext)

-- a ciphertext with its tag behind it
abbrev pub tagged : SealKeys → Role → Head → List ℕ → List ℕ
tagged keys role head ciphertext = ciphertext ++ tag_by keys role head ciphertext

-- plain bytes, sealed
abbrev pub sealed_by : SealKeys → Role → Head → List ℕ → List ℕ
sealed_by keys role head plain = tagged keys role head (covered_by keys role head.id plain)

-- the bytes before the last 16
abbrev pub ciphertext_of : List ℕ → List ℕ
ciphertext_of sealed = take (length sealed - 16) sealed

-- the last 16 bytes
abbrev pub given_tag : List ℕ → List ℕ
given_tag sealed = drop (length sealed - 16) sealed

-- the last 16 bytes are there and are the tag of the others
abbrev pub is_tagged : SealKeys → Role → Head → List ℕ → Bool
is_tagged keys role head sealed = nat_le 16 (length sealed) && bytes_eq (tag_by keys role head (ciphertext_of sealed)) (given_tag sealed)

-- the plain bytes of sealed ones, if their tag is right
abbrev pub opened_by : SealKeys → Role → Head → List ℕ → Option (List ℕ)
opened_by keys role head sealed = if is_tagged keys role head sealed then Some (covered_by keys role head.id (ciphertext_of sealed)) else None
