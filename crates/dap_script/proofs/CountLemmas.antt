-- How many lines a text has: one for each line feed, and one more where bytes stand behind the last.
use Rattle.std.proofs.Common.{◌≡◌, ℕ, ◌+◌, ◌-◌, ◌<◌, List, [], ◌∷◌, Bool, true, false, cond, length, get_or, if◌then◌else◌, add-one, refl, sym, ap, ◌∙◌, suc, inl, inr, arith}
use Rattle.std.proofs.lemmas.Bool.{cases_Bool, ne_eqb}
use Rattle.std.proofs.lemmas.List.Splits.{join_with_byte-slice_split, length-slice_split, slice_split-cons_no, slice_split-cons_yes}
use Rattle.std.proofs.lemmas.List.Sums.{sum_by-cons}
use Rattle.std.specs.Char.{is_newline}
use Rattle.std.specs.List.{count_by, join_with_byte, onto_first, slice_split}
use Rattle.std.specs.Str.Lines.{lines_of_parts}
use Rattle.dap_script.proofs.TextLaws.{more_lines, one_line}
use Rattle.dap_script.specs.Script.{lines_of}

-- whether bytes stand behind the last line feed
abbrev behind : List ℕ → ℕ
behind [] = 0
behind (c ∷ []) = if is_newline c then 0 else 1
behind (c ∷ d ∷ more) = behind (d ∷ more)

-- a byte before a line begins no other
length-onto_first : (c : ℕ) (parts : List (List ℕ)) → 0 < length (join_with_byte 10 parts)
    → length (lines_of_parts (onto_first c parts)) ≡ length (lines_of_parts parts)
length-onto_first c [] some = absurd (omega arith)
length-onto_first c (part ∷ []) some = ap length (one_line (c ∷ part) (omega arith)) ∙ sym (ap length (one_line part some))
length-onto_first c (part ∷ next ∷ parts) some = refl

line_after_feed : (c : ℕ) (bytes : List ℕ) → is_newline c ≡ true → length (lines_of (c ∷ bytes)) ≡ length (lines_of bytes) + 1
line_after_feed c bytes cut =
    ap (λ (parts : List (List ℕ)). length (lines_of_parts parts)) (slice_split-cons_yes is_newline c bytes cut)
    ∙ ap length (more_lines [] (slice_split is_newline bytes) (omega (arith, length-slice_split is_newline bytes))) ∙ sym (add-one (length (lines_of bytes)))

same_line : (c d : ℕ) (bytes : List ℕ) → is_newline c ≡ false → length (lines_of (c ∷ d ∷ bytes)) ≡ length (lines_of (d ∷ bytes))
same_line c d bytes whole =
    let joined : join_with_byte 10 (slice_split is_newline (d ∷ bytes)) ≡ d ∷ bytes = join_with_byte-slice_split 10 (d ∷ bytes) in
    ap (λ (parts : List (List ℕ)). length (lines_of_parts parts)) (slice_split-cons_no is_newline c (d ∷ bytes) whole)
    ∙ length-onto_first c (slice_split is_newline (d ∷ bytes)) (omega (arith, ap length joined))

counted : (c : ℕ) (bytes : List ℕ) (b : Bool) → is_newline c ≡ b → count_by is_newline (c ∷ bytes) ≡ cond b 1 0 + count_by is_newline bytes
counted c bytes b e = sum_by-cons (λ x. cond (is_newline x) 1 0) c bytes ∙ ap (λ n. n + count_by is_newline bytes) (ap (λ t. cond t 1 0) e)

pub length-lines_of : (bytes : List ℕ) → length (lines_of bytes) ≡ count_by is_newline bytes + behind bytes
length-lines_of [] = refl
length-lines_of (c ∷ []) = elim (cases_Bool (is_newline c)) [
  | inl cut ↦ rw cut refl
  | inr whole ↦ rw whole refl
]
length-lines_of (c ∷ d ∷ more) = elim (cases_Bool (is_newline c)) [
  | inl cut ↦ omega (arith, line_after_feed c (d ∷ more) cut, length-lines_of (d ∷ more), counted c (d ∷ more) true cut)
  | inr whole ↦ omega (arith, same_line c d more whole, length-lines_of (d ∷ more), counted c (d ∷ more) false whole)
]

pub behind-last : (bytes : List ℕ) → 0 < length bytes → behind bytes ≡ (if is_newline (get_or bytes (length bytes - 1) 0) then 0 else 1)
behind-last [] some = absurd (omega arith)
behind-last (c ∷ []) some = refl
behind-last (c ∷ d ∷ more) some =
    let last : length (c ∷ d ∷ more) - 1 ≡ suc (length (d ∷ more) - 1) = omega arith in
    rw last (behind-last (d ∷ more) (omega arith))

-- where the last byte is a line feed, and where it is none
pub ended-lines : (bytes : List ℕ) → 0 < length bytes → get_or bytes (length bytes - 1) 0 ≡ 10 → count_by is_newline bytes ≡ length (lines_of bytes)
ended-lines bytes some last =
    let behind : behind bytes ≡ 0 = behind-last bytes some ∙ rw last refl in
    omega (arith, length-lines_of bytes, behind)

pub unended-lines : (bytes : List ℕ) → 0 < length bytes → (get_or bytes (length bytes - 1) 0 ≡ 10 → ⊥) → count_by is_newline bytes + 1 ≡ length (lines_of bytes)
unended-lines bytes some last =
    let is : is_newline (get_or bytes (length bytes - 1) 0) ≡ false = ne_eqb _ 10 last in
    let behind : behind bytes ≡ 1 = behind-last bytes some ∙ rw is refl in
    omega (arith, length-lines_of bytes, behind)
