-- What a seed is used for, and the bytes that this gives. A kind is the byte that names the kind of measurement.
use Rattle.std.specs.Prelude.{ℕ, ◌*◌, List, [], ◌∷◌, ◌++◌, map, take, drop, replicate, codes, Option}
use Rattle.aes_cmac_prg.specs.Stream.{stream}
use Rattle.aes_cmac_prg.specs.Drawn.{drawn}
use Rattle.vdaf_api.specs.declared.role.Role.{Role}
use Rattle.vdaf_api.specs.Role.{role_byte}
use Rattle.vdaf_api.specs.Vectors.{spelled}
use Rattle.prio3_share.specs.Base.{Base}
use Rattle.prio3_share.specs.declared.usage.Usage.{Usage}
use Rattle.prio3_share.specs.declared.usage.Usage.TheVariants.{Keys, HelperInput, Part, JointSeed, JointRandomness, WireSeeds, HelperProof, QueryPoint}

-- the byte that names a use
abbrev pub usage_byte : Usage → ℕ
usage_byte Keys = 0
usage_byte HelperInput = 1
usage_byte Part = 2
usage_byte JointSeed = 3
usage_byte JointRandomness = 4
usage_byte WireSeeds = 5
usage_byte HelperProof = 6
usage_byte QueryPoint = 7

-- the info text of a use: `dap prio3`, the kind, the use, and what the use adds
abbrev pub info : ℕ → Usage → List ℕ → List ℕ
info kind usage rest = codes "dap prio3" ++ (kind ∷ (usage_byte usage ∷ rest))

-- the first n bytes of a seed's stream for a use
abbrev pub bytes_for : ℕ → List ℕ → Usage → List ℕ → ℕ → List ℕ
bytes_for kind seed usage rest n = stream seed (info kind usage rest) n

-- n elements drawn from a seed's stream for a use; none where the drawing is spent
abbrev pub drawn_for : {F : Type 0} → Base F → ℕ → List ℕ → Usage → List ℕ → ℕ → Option (List F)
drawn_for b kind seed usage rest n = drawn b.residue b.modulus b.width seed (info kind usage rest) n

-- a vector's bytes: those of its elements, in order
abbrev pub bytes_of : {F : Type 0} → Base F → List F → List ℕ
bytes_of b xs = spelled b.width (map b.number xs)

-- the i-th 16 of the first 80 bytes of a seed's stream
abbrev pub key : ℕ → List ℕ → ℕ → List ℕ
key kind seed i = take 16 (drop (16 * i) (bytes_for kind seed Keys [] 80))

-- the key of the helper's input
abbrev pub input_key : ℕ → List ℕ → List ℕ
input_key kind seed = key kind seed 0

-- the key of the helper's proof
abbrev pub proof_key : ℕ → List ℕ → List ℕ
proof_key kind seed = key kind seed 1

-- the key of the wire seeds
abbrev pub wire_key : ℕ → List ℕ → List ℕ
wire_key kind seed = key kind seed 2

-- the leader's blind
abbrev pub leader_blind : ℕ → List ℕ → List ℕ
leader_blind kind seed = key kind seed 3

-- the helper's blind
abbrev pub helper_blind : ℕ → List ℕ → List ℕ
helper_blind kind seed = key kind seed 4

-- the part of the joint randomness that an input half gives, under its blind
abbrev pub part : {F : Type 0} → Base F → ℕ → Role → List ℕ → List ℕ → List F → List ℕ
part b kind role id blind x = bytes_for kind blind Part (role_byte role ∷ (id ++ bytes_of b x)) 16

-- the joint seed of the leader's and the helper's part
abbrev pub joint_seed : ℕ → List ℕ → List ℕ → List ℕ
joint_seed kind leader helper = bytes_for kind (replicate 16 0) JointSeed (leader ++ helper) 16
