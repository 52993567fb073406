-- Which of two files is read, and from where on.
use Rattle.std.specs.Prelude.{◌≡◌, ℕ, ◌+◌, ◌≤◌, ◌==◌, max, nat_le, Bool, true, false, ◌&&◌, ◌||◌, if◌then◌else◌, List, [], ◌∷◌, ◌++◌, length, take, drop, slice_index}
use Rattle.std.specs.Int.{to_be_bytes, from_be_bytes, w64}
use Rattle.report_journal.specs.Journal.{blocks}
use Rattle.journal_checkpoint.specs.declared.head.TheConstants.{HEAD}

-- the byte 2 and a generation, which stand in front of a headed file's journal
abbrev pub head : ℕ → List ℕ
head generation = 2 ∷ to_be_bytes w64 generation

-- the generation of a file: 0 where it has no head
abbrev pub generation_of : List ℕ → ℕ
generation_of file = if nat_le HEAD (length file) && slice_index file 0 == 2 then from_be_bytes w64 (take 8 (drop 1 file)) else 0

-- how many bytes stand in front of the journal of a file of this generation
abbrev pub start_of : ℕ → ℕ
start_of generation = if generation == 0 then 0 else HEAD

-- these bytes
abbrev pub front_of : ℕ → List ℕ
front_of generation = if generation == 0 then [] else head generation

-- the generation of a file, and what stands in front of its journal
abbrev pub IsGeneration : ℕ → List ℕ → Type 0
IsGeneration g file = (g ≡ generation_of file) × (take (start_of g) file ≡ front_of g)

-- the journal of a file
abbrev pub journal_of : List ℕ → List ℕ
journal_of file = drop (start_of (generation_of file)) file

-- the journal of two files: that of the greater generation, of the first on a tie
abbrev pub pair_journal : List ℕ → List ℕ → List ℕ
pair_journal a b = if nat_le (generation_of b) (generation_of a) then journal_of a else journal_of b

-- the same, where the second file is named first
abbrev pub in_order : {T : Type 0} → Bool → (List ℕ → List ℕ → T) → List ℕ → List ℕ → T
in_order swapped f x y = if swapped then f y x else f x y

-- a file of generation y doesn't count beside the live one of generation g: the second file counts only where it is later
abbrev pub IsOlder : Bool → ℕ → ℕ → Type 0
IsOlder second y g = y + (if second then 1 else 0) ≤ g

-- a file of these blocks behind a head, with a shut gate behind them
abbrev pub headed : ℕ → List (List (List ℕ)) → List ℕ
headed generation parts = head generation ++ (blocks parts ++ 0 ∷ [])

-- the file begins with an open gate and has a byte behind it
abbrev pub begins_block : List ℕ → Bool
begins_block file = nat_le 2 (length file) && slice_index file 0 == 1

-- neither of two files has a head, and the first begins with no block, so that a stop in its first gate might leave a head there
abbrev pub needs_head : List ℕ → List ℕ → Bool
needs_head a b = if nat_le 1 (max (generation_of a) (generation_of b)) || begins_block a then false else true

-- what the second file is once the pair has a head where it needs one
abbrev pub second_after_head : List ℕ → List ℕ → List ℕ
second_after_head a b = if needs_head a b then headed 1 [] else b

-- two files, one of which isn't live: this one in its place
abbrev pub with_other : List ℕ → List ℕ → List ℕ → List ℕ × List ℕ
with_other a b file = if nat_le (generation_of b) (generation_of a) then (a, file) else (file, b)
