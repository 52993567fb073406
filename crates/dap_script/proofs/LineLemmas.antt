-- The lines in the pieces between line feeds.
use Rattle.std.proofs.Common.{◌≡◌, ℕ, ◌<◌, ◌≤◌, List, [], ◌∷◌, ◌++◌, map, length, Bool, true, false, nat_eq, if◌then◌else◌, refl, sym, ap, ◌∙◌, Bor, arith}
use Rattle.std.specs.Bool.{◌==◌}
use Rattle.std.proofs.lemmas.Bool.Decides.{nat_tests}
use Rattle.std.proofs.lemmas.List.{append-nil, length-append, map-append}
use Rattle.std.proofs.lemmas.List.Splits.{join_with_byte-slice_split}
use Rattle.std.specs.Char.{is_newline}
use Rattle.std.specs.List.{join_with_byte, slice_split}
use Rattle.std.specs.Str.Lines.{lines_of_parts, strip_carriage_return}
use Rattle.dap_script.specs.Script.{lines_of}
use Rattle.dap_script.specs.Words.{texts}

-- the last piece is a line unless it is empty, and the others are without a carriage return at their end
pub lines_of_parts-push : (pieces : List (List ℕ)) (last : List ℕ)
    → lines_of_parts (pieces ++ last ∷ []) ≡ map strip_carriage_return pieces ++ (if nat_eq (length last) 0 then [] else last ∷ [])
lines_of_parts-push [] last = refl
lines_of_parts-push (piece ∷ []) last = refl
lines_of_parts-push (piece ∷ next ∷ pieces) last = ap (λ (lines : List (List ℕ)). strip_carriage_return piece ∷ lines) (lines_of_parts-push (next ∷ pieces) last)

at_most_one : (b : Bool) (line : List ℕ) → length (if b then [] else line ∷ []) ≤ 1
at_most_one true line = omega arith
at_most_one false line = omega arith

some_line : (piece : List ℕ) → length (lines_of_parts (piece ∷ [])) ≤ length piece
some_line [] = omega arith
some_line (c ∷ piece) = omega (arith, at_most_one (length (c ∷ piece) == 0) (c ∷ piece))

length-lines_of_parts-le : (pieces : List (List ℕ)) → length (lines_of_parts pieces) ≤ length (join_with_byte 10 pieces)
length-lines_of_parts-le [] = omega arith
length-lines_of_parts-le (piece ∷ []) = some_line piece
length-lines_of_parts-le (piece ∷ next ∷ pieces) =
    omega (arith, length-lines_of_parts-le (next ∷ pieces), length-append piece (10 ∷ join_with_byte 10 (next ∷ pieces)))

-- each line has a byte of its own
pub length-lines_of-le : (bytes : List ℕ) → length (lines_of bytes) ≤ length bytes
length-lines_of-le bytes = omega (arith, length-lines_of_parts-le (slice_split is_newline bytes), ap length (join_with_byte-slice_split 10 bytes))

-- the last piece that isn't empty, after the others
pub lines_with_last : (bytes : List ℕ) (pieces front lines : List (Bor (List ℕ))) (last : Bor (List ℕ)) → texts pieces ≡ slice_split is_newline bytes
    → pieces ≡ front ++ last ∷ [] → texts lines ≡ map strip_carriage_return (texts front) → 0 < length last.now → texts (lines ++ last ∷ []) ≡ lines_of bytes
lines_with_last bytes pieces front lines last cut whole ended some =
    let full : nat_eq (length last.now) 0 ≡ false = grind (arith, nat_tests) in
    map-append (λ (w : Bor (List ℕ)). w.now) lines (last ∷ []) ∙ ap (λ (ls : List (List ℕ)). ls ++ last.now ∷ []) ended
    ∙ sym (ap lines_of_parts (sym cut ∙ ap texts whole ∙ map-append (λ (w : Bor (List ℕ)). w.now) front (last ∷ [])) ∙ lines_of_parts-push (texts front) last.now ∙ rw full refl)

-- the pieces but an empty last one
pub lines_without_last : (bytes : List ℕ) (pieces front lines : List (Bor (List ℕ))) (last : Bor (List ℕ)) → texts pieces ≡ slice_split is_newline bytes
    → pieces ≡ front ++ last ∷ [] → texts lines ≡ map strip_carriage_return (texts front) → length last.now ≡ 0 → texts lines ≡ lines_of bytes
lines_without_last bytes pieces front lines last cut whole ended none =
    let empty : nat_eq (length last.now) 0 ≡ true = grind (arith, nat_tests) in
    ended ∙ sym (ap lines_of_parts (sym cut ∙ ap texts whole ∙ map-append (λ (w : Bor (List ℕ)). w.now) front (last ∷ [])) ∙ lines_of_parts-push (texts front) last.now
    ∙ rw empty (append-nil (map strip_carriage_return (texts front))))
