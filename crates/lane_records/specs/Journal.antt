-- The records of a whole journal.
use Rattle.std.specs.Prelude.{◌≡◌, ℕ, ◌<◌, List, [], length, map, take, get_or, Bool, Result, Ok, Err, Vec}
use Rattle.std.specs.List.{list_all}
use Rattle.std.specs.declared.alloc.Global.{Global}
use Rattle.dap_messages.specs.Grammar.{whole}
use Rattle.lane_records.specs.declared.record.Record.{Record}
use Rattle.lane_records.specs.declared.journal.RecordsFault.{RecordsFault}
use Rattle.lane_records.specs.declared.journal.RecordsFault.TheVariants.{Form, NoMemory}
use Rattle.lane_records.specs.Records.{record_}

-- the bytes of each
abbrev pub bytes_of : List (Vec ℕ Global) → List (List ℕ)
bytes_of texts = map (λ t. t.items) texts

-- each record has a spelling
abbrev pub are_allowed : List Record → Bool
are_allowed xs = list_all record_.allowed xs

-- the spelling of each record
abbrev pub spell_all : List Record → List (List ℕ)
spell_all xs = map record_.spell xs

-- the byte strings are read as these records, in their order
abbrev pub AreRecords : List (List ℕ) → List Record → Type 0
AreRecords texts xs = map (whole record_) texts ≡ map Ok xs

-- the byte string at entry is the first that is no record, with its first fault at a place
pub record IsFirstFault (texts : List (List ℕ)) (entry at : ℕ) : Type 0 where
  pub within : entry < length texts
  pub before : (xs : List Record) × AreRecords (take entry texts) xs
  pub fault : whole record_ (get_or texts entry []) ≡ Err at

-- what a reader of byte strings answers
abbrev pub ReadsAll : List (List ℕ) → Result (Vec Record Global) RecordsFault → Type 0
ReadsAll texts (Ok xs) = AreRecords texts xs.items
ReadsAll texts (Err (Form entry at)) = IsFirstFault texts entry at
ReadsAll texts (Err NoMemory) = Unit {0}

-- these records and no others, unless memory ran out
abbrev pub AreOnly : List Record → Result (Vec Record Global) RecordsFault → Type 0
AreOnly xs (Ok ys) = ys.items ≡ xs
AreOnly xs (Err (Form entry at)) = ⊥
AreOnly xs (Err NoMemory) = Unit {0}

-- what a reader of the byte string at a place of a journal answers
abbrev pub ReadsEntry : ℕ → List ℕ → Result Record RecordsFault → Type 0
ReadsEntry entry text (Ok x) = whole record_ text ≡ Ok x
ReadsEntry entry text (Err (Form e at)) = (e ≡ entry) × (whole record_ text ≡ Err at)
ReadsEntry entry text (Err NoMemory) = Unit {0}
