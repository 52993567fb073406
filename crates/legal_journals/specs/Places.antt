-- Places of records in a journal. Lists of records have the oldest first.
use Rattle.std.specs.Prelude.{◌≡◌, ℕ, suc, length, Bool, true, false, List, [], ◌∷◌, Option, Some, None, cond}
use Rattle.std.specs.Option.{option_map}
use Rattle.std.specs.List.{count_by}
use Rattle.std.specs.declared.cmp.Ordering.{Ordering}
use Rattle.lane_records.specs.declared.format.Format.{Format}
use Rattle.lane_records.specs.Formats.{by_format}
use Rattle.lane_records.specs.declared.record.Record.{Record}
use Rattle.legal_journals.specs.History.{Mem, first, lanes_in, format_in}
use Rattle.legal_journals.specs.HistoryTests.{is_open}
use Rattle.legal_journals.specs.declared.opens.Opens.{Opens}
use Rattle.legal_journals.specs.Tables.{at}

-- the place, from 0, of the first that passes
abbrev pub place_of : {A : Type 0} → (A → Bool) → List A → Option ℕ
place_of test [] = None
place_of test (x ∷ xs) = cond (test x) (Some 0) (option_map suc (place_of test xs))

-- format 2
abbrev pub is_two : Option Format → Bool
is_two None = false
is_two (Some f) = by_format false true f

-- the table has at each key the place of the first record that passes the key's test
abbrev pub HasPlaces : {K : Type 0} → (K → K → Ordering) → (K → Record → Bool) → List (K × ℕ) → List Record → Type 0
HasPlaces cmp test entries records = (q : _) → at cmp q entries ≡ place_of (test q) records

-- the record is an Open of format 2
abbrev pub opens_two : Record → Bool
opens_two x = is_two (format_in x)

-- how many records there are, how many Opens, how many of format 2, and how many lanes the first Open names
pub record AreOpens (o : Opens) (records : List Record) : Type 0 where
  pub count : o.count ≡ length records
  pub opens : o.opens ≡ count_by is_open records
  pub twos : o.twos ≡ count_by opens_two records
  pub lanes : o.lanes ≡ first lanes_in records

-- each Open names as many lanes as the first
abbrev pub HaveOneNumber : List Record → Type 0
HaveOneNumber records = (x : Record) (n : ℕ) → Mem x records → lanes_in x ≡ Some n → first lanes_in records ≡ Some n
