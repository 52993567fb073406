-- What each measurement function keeps.
use Rattle.std.specs.Prelude.{◌≡◌, ℕ, ◌≤◌, List, length, Some, true, ◌&&◌}
use Rattle.field_laws.specs.Vector.{add_each}
use Rattle.vdaf_api.specs.declared.role.Role.{Role}
use Rattle.vdaf_api.specs.declared.shares.TheConstants.{MOST_PUBLIC, MOST_LEADER, MOST_HELPER, MOST_STEP}
use Rattle.vdaf_api.specs.declared.space.Space.{Space}
use Rattle.vdaf_api.specs.Functions.{Functions, Parts}
use Rattle.vdaf_api.specs.Vectors.{SpaceLaws, IsOut, Below, numbers}
use Rattle.vdaf_api.specs.Verdict.{Opened, opened, ok, verdict, numbers_of}

-- no share is longer than a report has room for, the tags of both seals counted
pub record PartsAreShort (parts : Parts) : Type 0 where
  pub public : length parts.public ≤ MOST_PUBLIC
  pub leader : length parts.leader ≤ MOST_LEADER
  pub helper : length parts.helper ≤ MOST_HELPER

-- two out shares, whose numbers add to the content
pub record AddToContent (s : Space) (ours theirs content : List ℕ) : Type 0 where
  pub leader : IsOut s ours
  pub helper : IsOut s theirs
  pub sum : content ≡ add_each s.modulus (numbers s ours) (numbers s theirs)

module _ (f : Functions) where
  -- the shares of every measurement are short
  abbrev pub MakesShortParts : Type 0
  MakesShortParts = (id ms seed : List ℕ) (p : Parts) → f.shard id ms seed ≡ Some p → PartsAreShort p

  -- every prep share is short
  abbrev pub MakesShortShares : Type 0
  MakesShortShares = (role : Role) (key id public input share : List ℕ) → f.share role key id public input ≡ Some share → length share ≤ MOST_STEP

  -- every prep message is short
  abbrev pub MakesShortMessages : Type 0
  MakesShortMessages = (leader helper message : List ℕ) → f.combine leader helper ≡ Some message → length message ≤ MOST_STEP

  -- what has no form of a half has no prep share
  abbrev pub StartsHalvesAlone : Type 0
  StartsHalvesAlone = (role : Role) (key id public input share : List ℕ) → f.share role key id public input ≡ Some share → f.is_half role public input ≡ true

  -- what has no form of a prep share has no prep message
  abbrev pub CombinesSharesAlone : Type 0
  CombinesSharesAlone = (leader helper message : List ℕ) → f.combine leader helper ≡ Some message → (f.is_share leader && f.is_share helper) ≡ true

  -- an honest fair report is ok, and its content is the measurement's vector
  abbrev pub CountsHonestReports : Type 0
  CountsHonestReports = (key id ms seed : List ℕ) (p : Parts) → length key ≡ 16 → length id ≡ 16 → length seed ≡ 16
      → f.shard id ms seed ≡ Some p → f.is_fair key id ≡ true → numbers_of f (verdict f (opened key id p)) ≡ f.encoding ms

  -- the out shares of a verdict that is ok add to its content
  abbrev pub OutSharesAdd : Type 0
  OutSharesAdd = (r : Opened) (leader helper content : List ℕ) → verdict f r ≡ ok leader helper → numbers_of f (verdict f r) ≡ Some content
      → AddToContent f.space leader helper content

-- what each measurement function keeps
pub record FunctionLaws (f : Functions) : Type 0 where
  pub space : SpaceLaws f.space
  pub parts : MakesShortParts f
  pub share : MakesShortShares f
  pub message : MakesShortMessages f
  pub halves : StartsHalvesAlone f
  pub shares : CombinesSharesAlone f
  pub out : (role : Role) (key id public input message out : List ℕ) → f.out role key id public input message ≡ Some out → IsOut f.space out
  pub encoding : (ms v : List ℕ) → f.encoding ms ≡ Some v → (length v ≡ f.space.size) × Below f.space.modulus v
  -- what has shares is a measurement of the kind
  pub measured : (id ms seed : List ℕ) (p : Parts) → length id ≡ 16 → length seed ≡ 16 → f.shard id ms seed ≡ Some p → (v : List ℕ) × (f.encoding ms ≡ Some v)
  pub honest : CountsHonestReports f
