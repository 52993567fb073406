-- The lines of a load are those of a script, and their texts spell them.
use Rattle.std.proofs.Common.{◌≡◌, ℕ, zero, suc, ◌<◌, ◌≤◌, ◌%◌, ◌/◌, ◌^◌, List, [], ◌∷◌, ◌++◌, map, replicate, refl, sym, ap, subst, inl, arith}
use Rattle.std.proofs.Math.Nat.{mod-lt}
use Rattle.std.proofs.lemmas.List.Elements.{All-append, All-cons, All-head, All-nil, All-tail}
use Rattle.std.specs.Int.{byte_at, bytes_high_first, to_be_bytes, w32, w64}
use Rattle.std.specs.List.{All, IsDistinct, flat_map, range_with_len}
use Rattle.std.specs.Str.{bytes_eq}
use Rattle.dap_bytes.specs.Spans.{one_bucket}
use Rattle.dap_script.specs.Script.{task_names}
use Rattle.dap_script.specs.Spelling.{AreWords, IsInRange, IsOctets, IsScript, SpellsLines, ended, spelling, words_of}
use Rattle.dap_script.specs.declared.line.Line.{Line}
use Rattle.dap_script.specs.declared.line.Line.TheVariants.{Collect}
use Rattle.load_maker.specs.Load.{collections, identifier_of, load_lines, load_name, load_task, load_text, measurement, seed_of, value_of}

-- ---- spelling

-- lines in their ranges are spelled by their texts, each with its end
pub ended-spells : (lines : List Line) → All IsInRange lines → SpellsLines (flat_map ended lines) lines
ended-spells [] h = refl
ended-spells (line ∷ lines) h = inl (record {
  text = spelling line;
  end = 10 ∷ [];
  rest = flat_map ended lines;
  joined = refl;
  spelled = inl (record { words = words_of line; are_words = inl refl; joined = refl; in_range = All-head IsInRange line lines h });
  ended = inl refl;
  goes_on = ended-spells lines (All-tail IsInRange line lines h);
})

-- ---- ranges

abbrev IsByte : ℕ → Type 0
IsByte byte = byte < 256

zeros_are_bytes : (n : ℕ) → All IsByte (replicate n 0)
zeros_are_bytes zero = All-nil IsByte
zeros_are_bytes (suc n) = All-cons IsByte 0 (replicate n 0) (omega arith) (zeros_are_bytes n)

byte_at-lt : (k n : ℕ) → byte_at k n < 256
byte_at-lt zero n = omega arith
byte_at-lt (suc k) n = mod-lt (n / 256 ^ suc k) (omega arith)

parts_are_bytes : (k n : ℕ) → All IsByte (bytes_high_first k n)
parts_are_bytes zero n = All-nil IsByte
parts_are_bytes (suc k) n = All-cons IsByte (byte_at k n) (bytes_high_first k n) (byte_at-lt k n) (parts_are_bytes k n)

identifier_is_octets : (i : ℕ) → IsOctets (identifier_of i)
identifier_is_octets i = (
  refl,
  All-cons IsByte (i % 256) (replicate 11 0 ++ to_be_bytes w32 i) (omega arith)
      (All-append IsByte (replicate 11 0) (to_be_bytes w32 i) (zeros_are_bytes 11) (parts_are_bytes 4 i)),
)

seed_is_octets : (seed i : ℕ) → IsOctets (seed_of seed i)
seed_is_octets seed i = (refl, All-append IsByte (to_be_bytes w64 seed) (to_be_bytes w64 i) (parts_are_bytes 8 seed) (parts_are_bytes 8 i))

measurement_in_range : (seed i : ℕ) → IsInRange (measurement seed i)
measurement_in_range seed i =
    let word : value_of seed i < 2 ^ 64 = omega arith in
    let words : AreWords (value_of seed i ∷ []) = All-cons (λ n. n < 2 ^ 64) (value_of seed i) [] word (All-nil (λ n. n < 2 ^ 64)) in
    (refl, identifier_is_octets i, omega arith, record { some = omega arith; few = omega arith; words = words }, seed_is_octets seed i)

measurements_in_range : (seed : ℕ) (numbers : List ℕ) → All IsInRange (map (measurement seed) numbers)
measurements_in_range seed [] = All-nil IsInRange
measurements_in_range seed (i ∷ numbers) =
    All-cons IsInRange (measurement seed i) (map (measurement seed) numbers) (measurement_in_range seed i) (measurements_in_range seed numbers)

pub load_in_range : (n seed : ℕ) → All IsInRange (load_lines n seed)
load_in_range n seed =
    let one_each : (1 ≤ 1) × (1 ≤ 64) = (omega arith, omega arith) in
    let last : All IsInRange (Collect load_name (one_bucket 3600) ∷ []) =
    All-cons IsInRange (Collect load_name (one_bucket 3600)) [] (refl, omega arith, one_each) (All-nil IsInRange) in
    let both : All IsInRange collections =
    All-cons IsInRange (Collect load_name (one_bucket 0)) (Collect load_name (one_bucket 3600) ∷ []) (refl, omega arith, one_each) last in
    All-cons IsInRange load_task (map (measurement seed) (range_with_len 0 n) ++ collections)
    (refl, (omega arith, omega arith), omega arith, omega arith, omega arith, omega arith, tt, tt)
    (All-append IsInRange (map (measurement seed) (range_with_len 0 n)) collections (measurements_in_range seed (range_with_len 0 n)) both)

-- ---- one task

no_more_tasks : (seed : ℕ) (numbers : List ℕ) → task_names (map (measurement seed) numbers ++ collections) ≡ []
no_more_tasks seed [] = refl
no_more_tasks seed (i ∷ numbers) = no_more_tasks seed numbers

one_name : IsDistinct bytes_eq (load_name ∷ [])
unfolding IsDistinct
one_name = (tt, tt)

-- a load is a script
pub load_is_script : (n seed : ℕ) → IsScript (load_lines n seed)
load_is_script n seed = record {
  in_range = load_in_range n seed;
  distinct = subst (IsDistinct bytes_eq) (sym (ap (λ (names : List (List ℕ)). load_name ∷ names) (no_more_tasks seed (range_with_len 0 n)))) one_name;
}

-- whose text spells it
pub load_spelled : (n seed : ℕ) → SpellsLines (load_text n seed) (load_lines n seed)
load_spelled n seed = ended-spells (load_lines n seed) (load_in_range n seed)
