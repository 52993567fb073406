-- What a reading takes in.
use Rattle.std.specs.Prelude.{◌≡◌, ℕ, ◌++◌, List, length, Option}
use Rattle.std.specs.Io.KnownBytes.{Consumes, IsAtEnd}

-- n bytes left the reader and stand at the end of what was read, none only at the reader's end
pub record TakesIn (before after : Option (List ℕ)) (old new : List ℕ) (n : ℕ) : Type 0 where
  pub fresh : List ℕ
  pub grown : new ≡ old ++ fresh
  pub consumed : Consumes before after fresh
  pub count : length fresh ≡ n
  pub end : n ≡ 0 → IsAtEnd after
