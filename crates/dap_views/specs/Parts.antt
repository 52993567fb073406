-- The parts of a request, as the grammar of messages reads them.
use Rattle.std.specs.Prelude.{◌≡◌, ℕ, ◌≤◌, Bool, List, [], ◌++◌, length, drop, None, Result, Ok, Err}
use Rattle.std.specs.Result.{is_ok}
use Rattle.std.specs.Borrow.{Bor}
use Rattle.dap_bytes.specs.Cursor.{Reading}
use Rattle.dap_messages.specs.declared.body.Half.{Half}
use Rattle.dap_messages.specs.declared.fault.Form.{Form}
use Rattle.dap_messages.specs.declared.item.Tagged.{Tagged}
use Rattle.dap_messages.specs.Forms.{half}
use Rattle.dap_messages.specs.Grammar.{Grammar, item, items_at}
use Rattle.dap_views.specs.declared.part.PartView.{PartView}

-- a place of an input
abbrev pub place_in : List ℕ → ℕ → Reading
place_in input place = record { input = input; place = place }

-- a report's parts as an item of a message
abbrev pub item_of : PartView → Tagged Half
item_of p = record { id = p.id; body = record { time = p.time; public = p.public.now; helper = p.helper.now } }

-- the items that were read
abbrev pub items_in : Result (List (Tagged Half) × Reading) ℕ → List (Tagged Half)
items_in (Ok read) = read.0
items_in (Err at) = []

-- the parts of so many reports stand at a place, with ascending identifiers
abbrev pub are_parts : ℕ → Reading → Bool
are_parts count r = is_ok (items_at half None count r)

-- and these are they
abbrev pub parts_at : ℕ → Reading → List (Tagged Half)
parts_at count r = items_in (items_at half None count r)

-- ---- what the readers answer

-- a slice of the input whose bytes are the field's value, or the place of the fault
abbrev pub FindsSlice : Grammar (List ℕ) → Reading → Result (Bor (List ℕ)) Form → Reading → Type 0
FindsSlice g old (Ok part) new = g.read old ≡ Ok (part.now, new)
FindsSlice g old (Err form) new = g.read old ≡ Err form.at

-- the parts of a report, as the item that stands there, or the place of the fault
abbrev pub FindsPart : Grammar (Tagged Half) → Reading → Result PartView Form → Reading → Type 0
FindsPart g old (Ok part) new = g.read old ≡ Ok (item_of part, new)
FindsPart g old (Err form) new = g.read old ≡ Err form.at

-- the parts of the report that stands at a place, and the place behind them; the bytes between spell them
pub record IsPartAt (input : List ℕ) (place : ℕ) (part : PartView) (behind : ℕ) : Type 0 where
  pub read : (item half None).read (place_in input place) ≡ Ok (item_of part, place_in input behind)
  pub within : behind ≤ length input
  pub spelled : drop place input ≡ (item half None).spell (item_of part) ++ drop behind input

-- a report's parts at a place of an input, or the place of the fault
abbrev pub FindsPartAt : List ℕ → ℕ → Result (PartView × ℕ) Form → Type 0
FindsPartAt input place (Ok found) = IsPartAt input place found.0 found.1
FindsPartAt input place (Err form) = (item half None).read (place_in input place) ≡ Err form.at

-- the place behind what is there to be read, or the place of the fault
abbrev pub Passes : Result (List (Tagged Half) × Reading) ℕ → Result (Unit {0}) Form → Reading → Type 0
Passes (Ok read) (Ok nothing) new = new ≡ read.1
Passes (Ok read) (Err form) new = ⊥
Passes (Err at) (Ok nothing) new = ⊥
Passes (Err at) (Err form) new = form.at ≡ at
