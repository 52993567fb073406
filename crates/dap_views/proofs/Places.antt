-- Places in a message.
use Rattle.std.proofs.Common.{◌≡◌, ℕ, ◌<◌, ◌≤◌, List, length, get_or, true, Ok, sym, ap, subst, ◌∙◌, arith}
use Rattle.std.proofs.lemmas.Bool.{le-leb}
use Rattle.dap_bytes.specs.Cursor.{Reading, has_bytes, past}
use Rattle.dap_messages.specs.Grammar.{Grammar}
use Rattle.dap_messages.specs.Lawful.{Lawful}
use Rattle.dap_messages.specs.Laws as laws
use Rattle.dap_views.specs.Parts.{place_in}

-- the input is the same further on
pub input_past : (n : ℕ) (r : Reading) → (past n r).input ≡ r.input
input_past n r = laws.input_past n r

-- an input is made of bytes
abbrev pub AreBytes : List ℕ → Type 0
AreBytes input = (i : ℕ) → get_or input i 0 < 256

-- a place that is reached from the front
pub from_front : (input : List ℕ) (place : ℕ) → place ≤ length input → past place (place_in input 0) ≡ place_in input place
from_front input place h =
    let enough : has_bytes place (place_in input 0) ≡ true = le-leb place (length input) h in
    rw enough (ap (place_in input) (omega arith))

-- what is read stands in the same input
pub stays : {A : Type 0} (g : Grammar A) → Lawful g → (input : List ℕ) → AreBytes input → (r : Reading) (x : A) (s : Reading) → r.input ≡ input → g.read r ≡ Ok (x, s) → s.input ≡ input
stays g lg input fits r x s is e =
    ap (λ (p : Reading). p.input) (lg.takes r x s (subst AreBytes (sym is) fits) e).0.moved ∙ is

-- a place by its number
pub at_place : (input : List ℕ) (r : Reading) → r.input ≡ input → r ≡ place_in input r.place
at_place input r is = ap (λ (t : List ℕ). place_in t r.place) is
