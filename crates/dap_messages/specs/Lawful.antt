-- What a grammar has to keep: what it reads is spelled so, what is spelled so is read, and spellings are bounded.
use Rattle.std.specs.Prelude.{◌≡◌, ℕ, ◌+◌, ◌<◌, ◌≤◌, true, List, ◌++◌, length, get_or, Ok}
use Rattle.dap_bytes.specs.Cursor.{Reading, rest_of}
use Rattle.dap_messages.specs.Grammar.{Grammar}

-- the input is made of bytes
abbrev pub IsInput : Reading → Type 0
IsInput r = (i : ℕ) → get_or r.input i 0 < 256

-- n places further on
abbrev pub further : ℕ → Reading → Reading
further n r = record { input = r.input; place = r.place + n }

-- new is behind the text that stands at old
pub record Takes (old : Reading) (text : List ℕ) (new : Reading) : Type 0 where
  pub rest : rest_of old ≡ text ++ rest_of new
  pub moved : new ≡ further (length text) old

-- what is read is spelled so, what is spelled so is read, and no spelling is longer than most
pub record Lawful {A : Type 0} (g : Grammar A) : Type 0 where
  pub takes : (r : Reading) (x : A) (s : Reading) → IsInput r → g.read r ≡ Ok (x, s) → Takes r (g.spell x) s × (g.allowed x ≡ true)
  pub again : (x : A) (r : Reading) (rest : List ℕ) → g.allowed x ≡ true → rest_of r ≡ g.spell x ++ rest → g.read r ≡ Ok (x, further (length (g.spell x)) r)
  pub within : (x : A) → g.allowed x ≡ true → length (g.spell x) ≤ g.most
