-- A measurement function with two shares, as functions on bytes.
use Rattle.std.specs.Prelude.{ℕ, List, Bool, Option}
use Rattle.std.specs.Option.{option_and_then}
use Rattle.vdaf_api.specs.declared.space.Space.{Space}
use Rattle.vdaf_api.specs.declared.role.Role.{Role}
use Rattle.vdaf_api.specs.declared.answer.Answer.{Answer}

-- what f makes of a value that is there
infixl 10 ◌>>=◌
abbrev pub ◌>>=◌ : {A B : Type 0} → Option A → (A → Option B) → Option B
o >>= f = option_and_then f o

-- the public share of a report, and both input shares
pub record Parts : Type 0 where
  pub public : List ℕ
  pub leader : List ℕ
  pub helper : List ℕ

-- what a measurement function computes
pub record Functions : Type 0 where
  -- how out shares are spelled
  pub space : Space
  -- the shares of an identifier, a measurement, which is a list of numbers, and a seed
  pub shard : List ℕ → List ℕ → List ℕ → Option Parts
  -- the measurement as a vector; none where it isn't one of the kind
  pub encoding : List ℕ → Option (List ℕ)
  -- whether a half has the form of one, by its role, its public share and its input share: their lengths, and that what spells numbers spells them below the modulus
  pub is_half : Role → List ℕ → List ℕ → Bool
  -- the prep share of a half: role, verify key, identifier, public share, input share
  pub share : Role → List ℕ → List ℕ → List ℕ → List ℕ → Option (List ℕ)
  -- whether bytes have the form of a prep share, likewise
  pub is_share : List ℕ → Bool
  -- the prep message of the leader's and the helper's prep shares
  pub combine : List ℕ → List ℕ → Option (List ℕ)
  -- the out share of a half, as `share`, and the prep message
  pub out : Role → List ℕ → List ℕ → List ℕ → List ℕ → List ℕ → Option (List ℕ)
  -- whether an honest report of this verify key and identifier can be prepared
  pub is_fair : List ℕ → List ℕ → Bool
  -- the answer of a vector
  pub answer : List ℕ → Answer
