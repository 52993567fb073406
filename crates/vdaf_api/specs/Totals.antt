-- Sums of many out shares, and of many contents.
use Rattle.std.specs.Prelude.{◌≡◌, ℕ, List, [], ◌∷◌, map}
use Rattle.field_laws.specs.Vector.{sum_of}
use Rattle.vdaf_api.specs.declared.space.Space.{Space}
use Rattle.vdaf_api.specs.Vectors.{plus, zero_share, numbers, IsOut}

-- the sum of out shares
abbrev pub total : Space → List (List ℕ) → List ℕ
total s [] = zero_share s
total s (x ∷ xs) = plus s x (total s xs)

-- the sum of vectors
abbrev pub total_numbers : Space → List (List ℕ) → List ℕ
total_numbers s vs = sum_of s.modulus s.size vs

-- the two out shares of a report
pub record Pair : Type 0 where
  pub leader : List ℕ
  pub helper : List ℕ

-- the leader's out shares
abbrev pub leaders : List Pair → List (List ℕ)
leaders ps = map (λ p. p.leader) ps

-- the helper's out shares
abbrev pub helpers : List Pair → List (List ℕ)
helpers ps = map (λ p. p.helper) ps

-- the contents, as numbers
abbrev pub contents : Space → List Pair → List (List ℕ)
contents s ps = map (λ p. numbers s (plus s p.leader p.helper)) ps

-- all of them are out shares
abbrev pub AreOuts : Space → List Pair → Type 0
AreOuts s [] = Unit {0}
AreOuts s (p ∷ ps) = (IsOut s p.leader × IsOut s p.helper) × AreOuts s ps

-- the sums of both sides' out shares add to the sum of the contents
abbrev pub TotalsAreAnswered : Space → Type 0
TotalsAreAnswered s = (ps : List Pair) → AreOuts s ps → numbers s (plus s (total s (leaders ps)) (total s (helpers ps))) ≡ total_numbers s (contents s ps)
