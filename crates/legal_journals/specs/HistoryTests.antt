-- The tests that decide what stands in a journal. Lists of records have the oldest first.
use Rattle.std.specs.Prelude.{ℕ, nat_lt, nat_le, ◌==◌, Bool, true, false, ◌&&◌, List, Option, Some, None, is_some}
use Rattle.std.specs.List.{list_any, list_all}
use Rattle.std.specs.Cmp.Lexicographic.{pointwise}
use Rattle.std.specs.Str.{bytes_eq}
use Rattle.dap_batch.specs.Group.{lane_number}
use Rattle.dap_messages.specs.declared.item.Tagged.{Tagged}
use Rattle.dap_messages.specs.Items.{ids_of}
use Rattle.lane_records.specs.declared.place.TheConstants.{MOST_LANES}
use Rattle.lane_records.specs.declared.format.Format.{Format}
use Rattle.lane_records.specs.Formats.{byte_of_format}
use Rattle.lane_records.specs.declared.record.Record.{Record}
use Rattle.legal_journals.specs.History.{lanes_in, format_in}

-- ---- Opens

-- the record is an Open
abbrev pub is_open : Record → Bool
is_open x = is_some (lanes_in x)

-- no number of lanes but this one
abbrev pub is_none_but : ℕ → Option ℕ → Bool
is_none_but lanes None = true
is_none_but lanes (Some n) = n == lanes

-- at least one lane and no more than the most, as in each Open before
abbrev pub has_lanes : ℕ → List Record → Bool
has_lanes lanes earlier = nat_le 1 lanes && nat_le lanes MOST_LANES && list_all (λ x. is_none_but lanes (lanes_in x)) earlier

-- no format above this one
abbrev pub is_up_to : Format → Option Format → Bool
is_up_to f None = true
is_up_to f (Some g) = nat_le (byte_of_format g) (byte_of_format f)

-- a format not below that of an Open before
abbrev pub has_format : Format → List Record → Bool
has_format f earlier = list_all (λ x. is_up_to f (format_in x)) earlier

-- an Open of this format and number of lanes may follow
abbrev pub may_open : Format → ℕ → List Record → Bool
may_open f lanes earlier = has_lanes lanes earlier && has_format f earlier

-- a number of lanes among which the identifier's is this one
abbrev pub puts_into : ℕ → List ℕ → Option ℕ → Bool
puts_into lane id None = false
puts_into lane id (Some lanes) = nat_lt 0 lanes && lane_number id lanes == lane

-- an Open before puts the identifier into this lane
abbrev pub is_of_lane : ℕ → List ℕ → List Record → Bool
is_of_lane lane id earlier = list_any (λ x. puts_into lane id (lanes_in x)) earlier

-- ---- items

-- the identifier is one of these items'
abbrev pub has_id : {B : Type 0} → List ℕ → List (Tagged B) → Bool
has_id id xs = list_any (λ x. bytes_eq x.id id) xs

-- both lists have the same identifiers in order
abbrev pub same_ids : {A B : Type 0} → List (Tagged A) → List (Tagged B) → Bool
same_ids xs ys = pointwise bytes_eq (ids_of xs) (ids_of ys)
