-- The texts of a script's bytes: each ended by a line feed, which the last one may lack, and before which a carriage return may stand.
use Rattle.std.proofs.Common.{◌≡◌, ◌⊎◌, ℕ, ◌+◌, ◌-◌, ◌<◌, List, [], ◌∷◌, ◌++◌, take, Bool, true, false, nat_eq, length, if◌then◌else◌, get_or, refl, sym, ap, subst, ◌∙◌, inl, inr, arith}
use Rattle.std.proofs.lemmas.Bool.Decides.{nat_tests}
use Rattle.std.proofs.lemmas.Bool.{cases_Bool, eq-eqb, eqb-true, ne_eqb}
use Rattle.std.proofs.lemmas.List.Elements.{All-append, All-cons, All-head, All-nil, All-weaker}
use Rattle.std.proofs.lemmas.List.Splits.{join_with_byte-slice_split, length-slice_split, slice_split_at, slice_split_none}
use Rattle.std.proofs.lemmas.List.{append_assoc, get_or_push, length-append, take_all, take_at, take_more}
use Rattle.std.specs.Bool.{◌==◌}
use Rattle.std.specs.Char.{is_newline}
use Rattle.std.specs.List.{All, join_with_byte, slice_split}
use Rattle.std.specs.Str.Lines.{lines_of_parts, strip_carriage_return}
use Rattle.dap_script.proofs.LineLaws.{All-written, line_chars}
use Rattle.dap_script.proofs.Visible.{IsVisible}
use Rattle.dap_script.proofs.SplitLaws.{Lacks}
use Rattle.dap_script.proofs.WordLaws.{All-left, All-right}
use Rattle.dap_script.specs.Script.{lines_of}
use Rattle.dap_script.specs.Spelling.{Begins, IsComment, IsLineEnd, IsWritten, SpellEach, SpellsLine, SpellsLines}
use Rattle.dap_script.specs.Words.{is_line_char}
use Rattle.dap_script.specs.declared.line.Line.{Line}

-- ---- the carriage return

ends_by_return : (text : List ℕ) → (get_or text (length text - 1) 0 == 13) ≡ true → text ≡ take (length text - 1) text ++ 13 ∷ []
ends_by_return [] e = cc e
ends_by_return (c ∷ cs) e =
    let text : List ℕ = c ∷ cs in
    let next : length text - 1 + 1 ≡ length text = omega arith in
    sym (take_all (length text - 1 + 1) text (omega arith)) ∙ take_more text (length text - 1) 0 (omega arith)
    ∙ ap (λ (last : ℕ). take (length text - 1) text ++ last ∷ []) (eqb-true _ 13 e)

-- what the stripping leaves is the text, or the text has a carriage return after it
pub strip_cases : (text : List ℕ) → (text ≡ strip_carriage_return text) ⊎ (text ≡ strip_carriage_return text ++ 13 ∷ [])
strip_cases text = elim (cases_Bool (get_or text (length text - 1) 0 == 13)) [
  | inl ends ↦ inr (rw ends (ends_by_return text ends))
  | inr whole ↦ inl (rw whole refl)
]

strip-push : (text : List ℕ) → strip_carriage_return (text ++ 13 ∷ []) ≡ text
strip-push text =
    let at : length (text ++ 13 ∷ []) - 1 ≡ length text = omega (arith, length-append text (13 ∷ [])) in
    let last : (get_or (text ++ 13 ∷ []) (length (text ++ 13 ∷ []) - 1) 0 == 13) ≡ true = eq-eqb _ 13 (get_or_push text 13 0 _ (sym at)) in
    rw (last, at) (take_at text (13 ∷ []) (length text) refl)

no_return : (c : ℕ) → IsVisible c → nat_eq c 13 ≡ false
no_return c v = grind (arith, nat_tests)

-- a comment goes on without its last character
comment_front : (rest front : List ℕ) → All (λ c. is_line_char c ≡ true) rest → 35 ∷ rest ≡ front ++ 13 ∷ [] → IsComment front
comment_front rest [] h e = (let head : ◌≡◌ {A = ℕ} 35 13 = cc e in absurd (omega (arith, head)))
comment_front rest (c ∷ front) h e =
    let first : 35 ≡ c = cc e in
    let others : rest ≡ front ++ 13 ∷ [] = cc e in
    (front, ap (λ x. x ∷ front) (sym first), All-left (λ x. is_line_char x ≡ true) front (13 ∷ []) (subst (All (λ x. is_line_char x ≡ true)) others h))

ends_visibly : (text : List ℕ) (line : Line) (front : List ℕ) → IsWritten text line → text ≡ front ++ 13 ∷ [] → ⊥
ends_visibly text line front w e =
    let last = All-head (λ c. nat_eq c 13 ≡ false) 13 []
    (All-right (λ c. nat_eq c 13 ≡ false) front (13 ∷ []) (subst (All (λ c. nat_eq c 13 ≡ false)) e (All-written (λ c. nat_eq c 13 ≡ false) refl no_return text line w))) in
    cc last

strip_spelled : (text : List ℕ) (line : Line) → SpellsLine text line → SpellsLine (strip_carriage_return text) line
strip_spelled text line s = elim (strip_cases text) [
  | inl same ↦ subst (λ t. SpellsLine t line) same s
  | inr cut ↦ front s cut
]
  where
    front : SpellsLine text line → text ≡ strip_carriage_return text ++ 13 ∷ [] → SpellsLine (strip_carriage_return text) line
    front (inl t) cut = absurd (ends_visibly text line (strip_carriage_return text) t cut)
    front (inr t) cut = inr (t.0, comment_front t.1.0 (strip_carriage_return text) t.1.2 (sym t.1.1 ∙ cut))

-- ---- pieces

pub one_line : (text : List ℕ) → 0 < length text → lines_of_parts (text ∷ []) ≡ text ∷ []
one_line text some = ap (λ (b : Bool). if b then [] else text ∷ []) (ne_eqb (length text) 0 (λ e. omega arith))

pub more_lines : (piece : List ℕ) (pieces : List (List ℕ)) → 0 < length pieces → lines_of_parts (piece ∷ pieces) ≡ strip_carriage_return piece ∷ lines_of_parts pieces
more_lines piece [] some = absurd (omega arith)
more_lines piece (next ∷ pieces) some = refl

some_pieces : (bytes : List ℕ) → 0 < length (slice_split is_newline bytes)
some_pieces bytes = omega (arith, length-slice_split is_newline bytes)

lacks_line_feed : (c : ℕ) → is_line_char c ≡ true → nat_eq c 10 ≡ false
lacks_line_feed c h = grind (arith, nat_tests)

pub line_lacks_line_feed : (text : List ℕ) (line : Line) → SpellsLine text line → Lacks 10 text
line_lacks_line_feed text line s = All-weaker (λ c. is_line_char c ≡ true) (λ c. nat_eq c 10 ≡ false) lacks_line_feed text (line_chars text line s)

-- ---- what is read is spelled so

unended : (last : List ℕ) (lines : List Line) → SpellEach (lines_of_parts (last ∷ [])) lines → SpellsLines last lines
unended [] [] h = refl
unended [] (line ∷ lines) h = absurd h
unended (c ∷ cs) [] h = absurd (subst (λ (ts : List (List ℕ)). SpellEach ts []) (one_line (c ∷ cs) (omega arith)) h)
unended (c ∷ cs) (line ∷ []) h =
    inr (refl, omega arith, (subst (λ (ts : List (List ℕ)). SpellEach ts (line ∷ [])) (one_line (c ∷ cs) (omega arith)) h).0)
unended (c ∷ cs) (line ∷ next ∷ lines) h = absurd (subst (λ (ts : List (List ℕ)). SpellEach ts (line ∷ next ∷ lines)) (one_line (c ∷ cs) (omega arith)) h).1

line_feed_joined : (piece text rest : List ℕ) → piece ≡ text → piece ++ 10 ∷ rest ≡ text ++ (10 ∷ []) ++ rest
line_feed_joined piece text rest e = ap (λ (p : List ℕ). p ++ 10 ∷ rest) e ∙ sym (append_assoc text (10 ∷ []) rest)

return_joined : (piece text rest : List ℕ) → piece ≡ text ++ 13 ∷ [] → piece ++ 10 ∷ rest ≡ text ++ (13 ∷ 10 ∷ []) ++ rest
return_joined piece text rest e =
    ap (λ (p : List ℕ). p ++ 10 ∷ rest) e ∙ append_assoc text (13 ∷ []) (10 ∷ rest) ∙ sym (append_assoc text (13 ∷ 10 ∷ []) rest)

begins : (piece rest : List ℕ) (line : Line) (lines : List Line) → SpellsLine (strip_carriage_return piece) line → SpellsLines rest lines
    → SpellsLines (piece ++ 10 ∷ rest) (line ∷ lines)
begins piece rest line lines s more = elim (strip_cases piece) [
  | inl same ↦ inl (record {
    text = strip_carriage_return piece;
    end = 10 ∷ [];
    rest = rest;
    joined = line_feed_joined piece (strip_carriage_return piece) rest same;
    spelled = s;
    ended = inl refl;
    goes_on = more;
  })
  | inr cut ↦ inl (record {
    text = strip_carriage_return piece;
    end = 13 ∷ 10 ∷ [];
    rest = rest;
    joined = return_joined piece (strip_carriage_return piece) rest cut;
    spelled = s;
    ended = inr refl;
    goes_on = more;
  })
]

pieces_spelled : (pieces : List (List ℕ)) (lines : List Line) → 0 < length pieces → SpellEach (lines_of_parts pieces) lines → SpellsLines (join_with_byte 10 pieces) lines
pieces_spelled [] lines some h = absurd (omega arith)
pieces_spelled (last ∷ []) lines some h = unended last lines h
pieces_spelled (piece ∷ next ∷ pieces) [] some h = absurd h
pieces_spelled (piece ∷ next ∷ pieces) (line ∷ lines) some h =
    begins piece (join_with_byte 10 (next ∷ pieces)) line lines h.0 (pieces_spelled (next ∷ pieces) lines (omega arith) h.1)

pub lines_spelled : (bytes : List ℕ) (lines : List Line) → SpellEach (lines_of bytes) lines → SpellsLines bytes lines
lines_spelled bytes lines h =
    subst (λ b. SpellsLines b lines) (join_with_byte-slice_split 10 bytes) (pieces_spelled (slice_split is_newline bytes) lines (some_pieces bytes) h)

-- ---- what is spelled so is read

first_line : (piece rest : List ℕ) (line : Line) (lines : List Line) → Lacks 10 piece → SpellsLine (strip_carriage_return piece) line → SpellEach (lines_of rest) lines
    → SpellEach (lines_of (piece ++ 10 ∷ rest)) (line ∷ lines)
first_line piece rest line lines lacks s more =
    subst (λ (ts : List (List ℕ)). SpellEach ts (line ∷ lines))
    (sym (ap lines_of_parts (slice_split_at is_newline piece 10 rest lacks refl) ∙ more_lines piece (slice_split is_newline rest) (some_pieces rest))) (s, more)

return_lacks : (text : List ℕ) → Lacks 10 text → Lacks 10 (text ++ 13 ∷ [])
return_lacks text h = All-append (λ c. nat_eq c 10 ≡ false) text (13 ∷ []) h (All-cons (λ c. nat_eq c 10 ≡ false) 13 [] refl (All-nil (λ c. nat_eq c 10 ≡ false)))

ended_line : (bytes : List ℕ) (line : Line) (lines : List Line) → (b : Begins line (λ rest. SpellsLines rest lines) bytes) → SpellEach (lines_of b.rest) lines
    → IsLineEnd b.end → SpellEach (lines_of bytes) (line ∷ lines)
ended_line bytes line lines b more (inl e) =
    let joined : bytes ≡ b.text ++ 10 ∷ b.rest = b.joined ∙ ap (λ (end : List ℕ). b.text ++ end ++ b.rest) e ∙ append_assoc b.text (10 ∷ []) b.rest in
    subst (λ t. SpellEach (lines_of t) (line ∷ lines)) (sym joined)
    (first_line b.text b.rest line lines (line_lacks_line_feed b.text line b.spelled) (strip_spelled b.text line b.spelled) more)
ended_line bytes line lines b more (inr e) =
    let joined : bytes ≡ (b.text ++ 13 ∷ []) ++ 10 ∷ b.rest =
    b.joined ∙ ap (λ (end : List ℕ). b.text ++ end ++ b.rest) e ∙ append_assoc b.text (13 ∷ 10 ∷ []) b.rest
    ∙ sym (append_assoc b.text (13 ∷ []) (10 ∷ b.rest)) in
    subst (λ t. SpellEach (lines_of t) (line ∷ lines)) (sym joined)
    (first_line (b.text ++ 13 ∷ []) b.rest line lines (return_lacks b.text (line_lacks_line_feed b.text line b.spelled))
    (subst (λ t. SpellsLine t line) (sym (strip-push b.text)) b.spelled) more)

pub lines_of-spelled : (lines : List Line) (bytes : List ℕ) → SpellsLines bytes lines → SpellEach (lines_of bytes) lines
lines_of-spelled [] bytes e = subst (λ b. SpellEach (lines_of b) []) (sym e) tt
lines_of-spelled (line ∷ lines) bytes (inl b) = ended_line bytes line lines b (lines_of-spelled lines b.rest b.goes_on) b.ended
lines_of-spelled (line ∷ lines) bytes (inr u) =
    let whole : lines_of bytes ≡ bytes ∷ [] = ap lines_of_parts (slice_split_none is_newline bytes (line_lacks_line_feed bytes line u.2)) ∙ one_line bytes u.1 in
    subst (λ ls. SpellEach (lines_of bytes) (line ∷ ls)) (sym u.0) (subst (λ (ts : List (List ℕ)). SpellEach ts (line ∷ [])) (sym whole) (u.2, tt))
