-- What stands in a journal. Lists here have the newest record first: the records after one in the list are those before it in the journal.
use Rattle.std.specs.Prelude.{◌≡◌, ℕ, suc, ◌≤◌, ◌⊎◌, List, [], ◌∷◌, Option, Some, None}
use Rattle.std.specs.Option.{option_or}
use Rattle.dap_batch.specs.Group.{lane_number}
use Rattle.lane_records.specs.declared.place.TheConstants.{MOST_LANES}
use Rattle.lane_records.specs.declared.format.Format.{Format}
use Rattle.lane_records.specs.Formats.{byte_of_format}
use Rattle.lane_records.specs.declared.record.Record.{Record}
use Rattle.lane_records.specs.declared.record.Record.TheVariants.{LeaderOpen, Accept, Continue, Finish, LeaderClose, HelperOpen, Start, Commit, HelperClose, LeaderFrontOpen, LeaderTask, Ask, LeaderAnswer, HelperFrontOpen, HelperTask, HelperAnswer}

-- ---- lists

-- x stands in the list
abbrev pub Mem : {A : Type 0} → A → List A → Type 0
Mem x [] = ⊥
Mem x (y ∷ ys) = (x ≡ y) ⊎ Mem x ys

-- the first value that a function gives
abbrev pub first : {A B : Type 0} → (A → Option B) → List A → Option B
first f [] = None
first f (x ∷ xs) = option_or (f x) (first f xs)

-- ---- Opens

-- the number of lanes that an Open names
abbrev pub lanes_in : Record → Option ℕ
lanes_in (LeaderOpen f lanes lane) = Some lanes
lanes_in (HelperOpen f lanes lane) = Some lanes
lanes_in (LeaderFrontOpen f lanes) = Some lanes
lanes_in (HelperFrontOpen f lanes) = Some lanes
lanes_in (Accept r) = None
lanes_in (Continue n j xs) = None
lanes_in (Finish j outs) = None
lanes_in (LeaderClose n s c) = None
lanes_in (Start j n hs) = None
lanes_in (Commit j outs) = None
lanes_in (HelperClose n s c) = None
lanes_in (LeaderTask t) = None
lanes_in (Ask n s) = None
lanes_in (LeaderAnswer n s a) = None
lanes_in (HelperTask t) = None
lanes_in (HelperAnswer q a) = None

-- the format that an Open begins
abbrev pub format_in : Record → Option Format
format_in (LeaderOpen f lanes lane) = Some f
format_in (HelperOpen f lanes lane) = Some f
format_in (LeaderFrontOpen f lanes) = Some f
format_in (HelperFrontOpen f lanes) = Some f
format_in (Accept r) = None
format_in (Continue n j xs) = None
format_in (Finish j outs) = None
format_in (LeaderClose n s c) = None
format_in (Start j n hs) = None
format_in (Commit j outs) = None
format_in (HelperClose n s c) = None
format_in (LeaderTask t) = None
format_in (Ask n s) = None
format_in (LeaderAnswer n s a) = None
format_in (HelperTask t) = None
format_in (HelperAnswer q a) = None

-- one more where there is a value
abbrev pub count_some : {A : Type 0} → Option A → ℕ → ℕ
count_some None n = n
count_some (Some x) n = suc n

-- how many Opens there are
abbrev pub opens : List Record → ℕ
opens [] = 0
opens (x ∷ old) = count_some (lanes_in x) (opens old)

-- at least one lane and no more than the most, as in each Open before
abbrev pub HasLanes : ℕ → List Record → Type 0
HasLanes lanes old = (1 ≤ lanes) × (lanes ≤ MOST_LANES) × ((x : Record) (n : ℕ) → Mem x old → lanes_in x ≡ Some n → n ≡ lanes)

-- a format not below that of an Open before
abbrev pub HasFormat : Format → List Record → Type 0
HasFormat f old = (x : Record) (g : Format) → Mem x old → format_in x ≡ Some g → byte_of_format g ≤ byte_of_format f

-- an Open of this format and number of lanes may follow
abbrev pub MayOpen : Format → ℕ → List Record → Type 0
MayOpen f lanes old = HasLanes lanes old × HasFormat f old

-- among the lanes that an Open before names, the identifier's is this one
abbrev pub IsOfLane : ℕ → List ℕ → List Record → Type 0
IsOfLane lane id old = (x : Record) × (lanes : ℕ) × Mem x old × (lanes_in x ≡ Some lanes) × (1 ≤ lanes) × (lane_number id lanes ≡ lane)
