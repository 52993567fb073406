-- A script's lines are read as they are spelled, and a refusal names the first that is not.
use Rattle.std.proofs.Common.{◌≡◌, ℕ, ◌+◌, ◌-◌, ◌<◌, List, [], ◌∷◌, ◌++◌, take, drop, true, false, length, if◌then◌else◌, Some, None, Result, Ok, Err, refl, sym, ap, subst, ◌∙◌, suc, zero, inl, inr, arith}
use Rattle.std.proofs.lemmas.Bool.{cases_lt}
use Rattle.std.proofs.lemmas.List.Elements.{All-cons, All-nil, All-take}
use Rattle.std.proofs.lemmas.List.{append-nil, append_assoc, length-append, take-append-drop, take-take}
use Rattle.std.proofs.lemmas.Option.{same_Some}
use Rattle.std.specs.List.{All}
use Rattle.dap_script.proofs.LineLaws.{line_of-spelled, line_spelled}
use Rattle.dap_script.proofs.NameLaws.{AreFree, follows_others, free_before, free_next, free_none}
use Rattle.dap_script.specs.OptionLaws.{guarded, map_or_cases}
use Rattle.dap_script.proofs.TextLaws.{lines_of-spelled, lines_spelled}
use Rattle.dap_script.specs.Line.{line_of}
use Rattle.dap_script.specs.Script.{follows, is_among, line_after, lines_of, read_after, script_beside, task_names}
use Rattle.dap_script.specs.Spelling.{IsFirstFault, IsInRange, IsReadable, IsScript, IsScriptBeside, SpellEach, SpellsLine, SpellsScript}
use Rattle.dap_script.specs.declared.line.Line.{Line}

-- ---- texts that are read

-- the texts spell lines that go on after those before
record Continue (names : List (List ℕ)) (before : List Line) (texts : List (List ℕ)) (all : List Line) : Type 0 where
  lines : List Line
  joined : all ≡ before ++ lines
  spelled : SpellEach texts lines
  in_range : All IsInRange lines
  free : AreFree names all

line_after-parts : (names : List (List ℕ)) (before : List Line) (text : List ℕ) (line : Line) → line_after names before text ≡ Some line
    → SpellsLine text line × (follows names before line ≡ true)
line_after-parts names before text line h =
    map_or_cases (λ l. if follows names before l then Some l else None) (line_of text) None (Some line) h (λ e k. cc k) (λ l e k.
    let g = guarded (follows names before l) (Some l) line k in
    let same : l ≡ line = same_Some l line g.1 in
    (line_spelled text line (e ∙ ap Some same), rw (← same) g.0))

in_range : (text : List ℕ) (line : Line) → SpellsLine text line → IsInRange line
in_range text line (inl s) = s.in_range
in_range text line (inr s) = subst IsInRange (sym s.0) tt

rest_spelled : (names : List (List ℕ)) (before : List Line) (texts : List (List ℕ)) (all : List Line) → AreFree names before → read_after names before texts ≡ Ok all
    → Continue names before texts all
rest_spelled names before [] all d h =
    let same : before ≡ all = cc h in
    record {
      lines = [];
      joined = sym same ∙ sym (append-nil before);
      spelled = tt;
      in_range = All-nil IsInRange;
      free = subst (AreFree names) same d;
    }
rest_spelled names before (text ∷ more) all d h =
    map_or_cases (λ line. read_after names (before ++ line ∷ []) more) (line_after names before text) (Err (length before + 1)) (Ok all) h (λ e k. cc k) (λ line e k.
    let p = line_after-parts names before text line e in
    let rest = rest_spelled names (before ++ line ∷ []) more all (free_next names before line d p.1) k in
    record {
      lines = line ∷ rest.lines;
      joined = rest.joined ∙ append_assoc before (line ∷ []) rest.lines;
      spelled = (p.0, rest.spelled);
      in_range = All-cons IsInRange line rest.lines (in_range text line p.0) rest.in_range;
      free = rest.free;
    })

read_after-spelled : (names : List (List ℕ)) (before : List Line) (texts : List (List ℕ)) (lines : List Line) → SpellEach texts lines → AreFree names (before ++ lines)
    → read_after names before texts ≡ Ok (before ++ lines)
read_after-spelled names before [] [] s d = ap Ok (sym (append-nil before))
read_after-spelled names before [] (line ∷ lines) s d = absurd s
read_after-spelled names before (text ∷ texts) [] s d = absurd s
read_after-spelled names before (text ∷ texts) (line ∷ lines) s d =
    let is : line_of text ≡ Some line = line_of-spelled text line s.0 in
    let may : follows names before line ≡ true = follows_others names before line lines d in
    let whole : (before ++ line ∷ []) ++ lines ≡ before ++ line ∷ lines = append_assoc before (line ∷ []) lines in
    rw (is, may) (read_after-spelled names (before ++ line ∷ []) texts lines s.1 (subst (AreFree names) (sym whole) d) ∙ ap Ok whole)

IsScriptBeside-free : (names : List (List ℕ)) (lines : List Line) → IsScriptBeside names lines → AreFree names lines
IsScriptBeside-free names lines h = record { distinct = h.is_script.distinct; others = h.others }

readable_is : (names texts : List (List ℕ)) (lines : List Line) → read_after names [] texts ≡ Ok lines → SpellEach texts lines × IsScriptBeside names lines
readable_is names texts lines h =
    let r = rest_spelled names [] texts lines (free_none names) h in
    let same : r.lines ≡ lines = sym r.joined in (
      subst (SpellEach texts) same r.spelled,
      record { is_script = record { in_range = subst (All IsInRange) same r.in_range; distinct = r.free.distinct }; others = r.free.others },
    )

IsReadable-from_read : (names texts : List (List ℕ)) (lines : List Line) → read_after names [] texts ≡ Ok lines → IsReadable names texts
IsReadable-from_read names texts lines h =
    let r = readable_is names texts lines h in
    record { lines = lines; spelled = r.0; is_script = r.1 }

read_after-readable : (names texts : List (List ℕ)) (r : IsReadable names texts) → read_after names [] texts ≡ Ok r.lines
read_after-readable names texts r = read_after-spelled names [] texts r.lines r.spelled (IsScriptBeside-free names r.lines r.is_script)

pub script_spelled : (names : List (List ℕ)) (bytes : List ℕ) (lines : List Line) → script_beside names bytes ≡ Ok lines → SpellsScript names bytes lines
script_spelled names bytes lines h =
    let r = readable_is names (lines_of bytes) lines h in
    record { spelled = lines_spelled bytes lines r.0; is_script = r.1 }

pub script_beside-spelling : (names : List (List ℕ)) (bytes : List ℕ) (lines : List Line) → SpellsScript names bytes lines → script_beside names bytes ≡ Ok lines
script_beside-spelling names bytes lines s =
    read_after-spelled names [] (lines_of bytes) lines (lines_of-spelled lines bytes s.spelled) (IsScriptBeside-free names lines s.is_script)

none_of_none : (names : List (List ℕ)) → All (λ name. is_among [] name ≡ false) names
none_of_none [] = All-nil (λ name. is_among [] name ≡ false)
none_of_none (name ∷ names) = All-cons (λ n. is_among [] n ≡ false) name names refl (none_of_none names)

-- without names, a script is a script beside them
pub alone_beside : (lines : List Line) → IsScript lines → IsScriptBeside [] lines
alone_beside lines h = record { is_script = h; others = none_of_none (task_names lines) }

-- ---- the first text that is refused

-- reading stops at a text, up to which all are read
record Stops (names : List (List ℕ)) (before : List Line) (texts : List (List ℕ)) (n : ℕ) : Type 0 where
  at : ℕ
  number : n ≡ length before + at + 1
  within : at < length texts
  lines : List Line
  read : read_after names before (take at texts) ≡ Ok lines
  refused : read_after names before (take (suc at) texts) ≡ Err n

stops : (names : List (List ℕ)) (before : List Line) (texts : List (List ℕ)) (n : ℕ) → read_after names before texts ≡ Err n → Stops names before texts n
stops names before [] n h = cc h
stops names before (text ∷ more) n h =
    map_or_cases (λ line. read_after names (before ++ line ∷ []) more) (line_after names before text) (Err (length before + 1)) (Err n) h (λ e k.
    let number : length before + 1 ≡ n = cc k in
    record { at = 0; number = omega arith; within = omega arith; lines = before; read = refl; refused = rw e k }) (λ line e k.
    let rest = stops names (before ++ line ∷ []) more n k in
    record {
      at = suc rest.at;
      number = omega (arith, rest.number, length-append before (line ∷ []));
      within = omega (arith, rest.within);
      lines = rest.lines;
      read = rw e rest.read;
      refused = rw e rest.refused;
    })

SpellEach-take : (n : ℕ) (texts : List (List ℕ)) (lines : List Line) → SpellEach texts lines → SpellEach (take n texts) (take n lines)
SpellEach-take zero texts lines s = tt
SpellEach-take (suc n) [] [] s = tt
SpellEach-take (suc n) [] (line ∷ lines) s = absurd s
SpellEach-take (suc n) (text ∷ texts) [] s = absurd s
SpellEach-take (suc n) (text ∷ texts) (line ∷ lines) s = (s.0, SpellEach-take n texts lines s.1)

-- the lines of a script are one up to each of them
IsReadable-take : (names : List (List ℕ)) (n : ℕ) (texts : List (List ℕ)) → IsReadable names texts → IsReadable names (take n texts)
IsReadable-take names n texts r =
    let free = free_before names (take n r.lines) (drop n r.lines)
    (subst (AreFree names) (sym (take-append-drop n r.lines)) (IsScriptBeside-free names r.lines r.is_script)) in
    record {
      lines = take n r.lines;
      spelled = SpellEach-take n texts r.lines r.spelled;
      is_script = record {
        is_script = record { in_range = All-take IsInRange n r.lines r.is_script.is_script.in_range; distinct = free.distinct };
        others = free.others;
      };
    }

pub fault_is_first : (names : List (List ℕ)) (bytes : List ℕ) (n : ℕ) → script_beside names bytes ≡ Err n → IsFirstFault names bytes n
fault_is_first names bytes n h =
    let s = stops names [] (lines_of bytes) n h in
    let last : s.at ≡ n - 1 = omega (arith, s.number) in
    let next : suc s.at ≡ n = omega (arith, s.number) in
    record {
      some = omega (arith, s.number);
      within = omega (arith, s.within, s.number);
      before = rw (← last) (IsReadable-from_read names (take s.at (lines_of bytes)) s.lines s.read);
      at = λ r. cc (read_after-readable names (take n (lines_of bytes)) r, rw next at s.refused);
    }

before_fault : (names texts : List (List ℕ)) (m n : ℕ) → IsReadable names (take m texts) → ¬ IsReadable names (take n texts) → m < n
before_fault names texts m n r not = elim (cases_lt m n) [
  | inl lt ↦ lt
  | inr ge ↦ absurd (not (subst (IsReadable names) (take-take n m texts ge) (IsReadable-take names n (take m texts) r)))
]

by_result : (names : List (List ℕ)) (bytes : List ℕ) (n : ℕ) (r : Result (List Line) ℕ) → script_beside names bytes ≡ r → IsFirstFault names bytes n → r ≡ Err n
by_result names bytes n (Ok lines) h f =
    let whole = IsReadable-from_read names (lines_of bytes) lines h in
    absurd (f.at (IsReadable-take names n (lines_of bytes) whole))
by_result names bytes n (Err m) h f =
    let g = fault_is_first names bytes m h in
    let below = before_fault names (lines_of bytes) (n - 1) m f.before g.at in
    let above = before_fault names (lines_of bytes) (m - 1) n g.before f.at in
    ap Err (omega (arith, f.some, g.some))

pub script_beside-first_fault : (names : List (List ℕ)) (bytes : List ℕ) (n : ℕ) → IsFirstFault names bytes n → script_beside names bytes ≡ Err n
script_beside-first_fault names bytes n f = by_result names bytes n (script_beside names bytes) refl f
