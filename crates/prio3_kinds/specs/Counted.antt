-- What a measurement function is said to count.
use Rattle.std.specs.Prelude.{◌≡◌, ℕ, List, length, Some, true}
use Rattle.vdaf_api.specs.Functions.{Functions, Parts}
use Rattle.vdaf_api.specs.Verdict.{opened, verdict, numbers_of}

-- each honest fair report of this measurement is prepared, and its content is this vector
abbrev pub IsCountedAs : Functions → List ℕ → List ℕ → Type 0
IsCountedAs f ms v = (key id seed : List ℕ) (p : Parts) → length key ≡ 16 → length id ≡ 16 → length seed ≡ 16
    → f.shard id ms seed ≡ Some p → f.is_fair key id ≡ true → numbers_of f (verdict f (opened key id p)) ≡ Some v
