-- What whole segments print is a front of what the script prints.
use Rattle.std.proofs.Common.{◌≡◌, ℕ, ◌+◌, ◌-◌, List, [], ◌∷◌, ◌++◌, length, take, drop, Bool, cond, true, false, ◌||◌, ◌⊎◌, inl, inr, refl, sym, ap, subst, ◌∙◌, append_assoc, arith}
use Rattle.std.proofs.Math.Seq.{take-append_seam}
use Rattle.std.proofs.lemmas.List.{take-append-drop}
use Rattle.std.proofs.lemmas.List.Concat.{flat_map-append}
use Rattle.std.proofs.lemmas.Bool.{both_ways, or_from, or_left, or_right}
use Rattle.std.proofs.lemmas.List.Folds.{list_any-append}
use Rattle.std.specs.List.{list_any}
use Rattle.dap_model.specs.Segments.{AreWholeSegments, EndsSegment, TellsWholeSegments}
use Rattle.vdaf_api.specs.Functions.{Functions}
use Rattle.vdaf_api.specs.declared.kind.Kind.{Kind}
use Rattle.dap_script.specs.declared.line.Line.{Line}
use Rattle.dap_model.specs.Limits.{ends_segment, text_before, whole_segments}
use Rattle.dap_model.specs.Printed.{spelling, text_of}
use Rattle.dap_model.specs.Run.{model_text, opening_of, printed_from, state_after}
use Rattle.dap_model.specs.State.{State}
use Rattle.dap_model.specs.Step.{step}
use Rattle.dap_model.specs.declared.printed.Printed.{Printed}

-- the whole is the part, and then the rest
abbrev pub Begins : {A : Type 0} → List A → List A → Type 0
Begins {A} part whole = (rest : List A) × (whole ≡ part ++ rest)

begins_again : {A : Type 0} (a b c : List A) → Begins a b → Begins b c → Begins a c
begins_again a b c p q = (p.0 ++ q.0, q.1 ∙ ap (λ t. t ++ q.0) p.1 ∙ append_assoc a p.0 q.0)

segments_begin : (lines : List Line) → Begins (whole_segments lines) lines
segments_begin [] = ([], refl)
segments_begin (l ∷ more) =
    let p = segments_begin more in
    elim (ends_segment l || list_any ends_segment more) as (λ b. Begins (cond b (l ∷ whole_segments more) []) (l ∷ more)) [
      | true ↦ (p.0, ap (λ t. l ∷ t) p.1)
      | false ↦ (l ∷ more, refl)
    ]

-- the first lines print the first printed lines
printed_begin : (f : Kind → Functions) (s : State) (k : ℕ) (first rest : List Line) → Begins (printed_from f s k first) (printed_from f s k (first ++ rest))
printed_begin f s k [] rest = (printed_from f s k rest, refl)
printed_begin f s k (l ∷ more) rest =
    let p = printed_begin f (step f s k l).0 (k + 1) more rest in
    (p.0, ap (λ t. (step f s k l).1 ++ t) p.1 ∙ sym (append_assoc (step f s k l).1 (printed_from f (step f s k l).0 (k + 1) more) p.0))

text_begins : (part whole : List Printed) → Begins part whole → Begins (text_of part) (text_of whole)
text_begins part whole p = (text_of p.0, ap text_of p.1 ∙ flat_map-append spelling part p.0)

-- what the rest prints follows on what the first lines print
pub printed_then : (f : Kind → Functions) (s : State) (k n : ℕ) (first rest : List Line) → k + length first ≡ n
    → printed_from f s k (first ++ rest) ≡ printed_from f s k first ++ printed_from f (state_after f s k first) n rest
printed_then f s k n [] rest e = let here : k ≡ n = omega (arith, e) in ap (λ (m : ℕ). printed_from f s m rest) here
printed_then f s k n (l ∷ more) rest e =
    let after : State = (step f s k l).0 in
    ap (λ p. (step f s k l).1 ++ p) (printed_then f after (k + 1) n more rest (omega (arith, e)))
    ∙ sym (append_assoc (step f s k l).1 (printed_from f after (k + 1) more) (printed_from f (state_after f after (k + 1) more) n rest))

-- and so does the state
pub state_then : (f : Kind → Functions) (s : State) (k n : ℕ) (first rest : List Line) → k + length first ≡ n
    → state_after f s k (first ++ rest) ≡ state_after f (state_after f s k first) n rest
state_then f s k n [] rest e = let here : k ≡ n = omega (arith, e) in ap (λ (m : ℕ). state_after f s m rest) here
state_then f s k n (l ∷ more) rest e = state_then f (step f s k l).0 (k + 1) n more rest (omega (arith, e))

-- the whole segments before a line are the first lines
pub told-lines : (lines : List Line) (number : ℕ) → Begins (whole_segments (take (number - 1) lines)) lines
told-lines lines number =
    let upto : List Line = take (number - 1) lines in
    begins_again (whole_segments upto) upto lines (segments_begin upto) (drop (number - 1) lines, sym (take-append-drop (number - 1) lines))

pub text_before-front : (f : Kind → Functions) (opened : State) (lines : List Line) (number : ℕ)
    → (n : ℕ) × (text_before f opened lines number ≡ take n (model_text f opened lines))
text_before-front f opened lines number =
    let s : State = opening_of opened lines in
    let first : List Line = whole_segments (take (number - 1) lines) in
    let cut : Begins first lines = told-lines lines number in
    let printed : Begins (printed_from f s 1 first) (printed_from f s 1 (first ++ cut.0)) = printed_begin f s 1 first cut.0 in
    let text = text_begins (printed_from f s 1 first) (printed_from f s 1 (first ++ cut.0)) printed in (
      length (text_before f opened lines number),
      sym (ap (λ (l : List Line). take (length (text_before f opened lines number)) (text_of (printed_from f s 1 l))) cut.1
          ∙ ap (take (length (text_before f opened lines number))) text.1 ∙ take-append_seam (text_before f opened lines number) text.0),
    )

-- ---- what whole segments are

-- what the lines of a list with one more before them are
segments_with : (l : Line) (more : List Line) → AreWholeSegments more (whole_segments more) → (ends others : Bool) → ends_segment l ≡ ends → list_any ends_segment more ≡ others
    → AreWholeSegments (l ∷ more) (cond (ends || others) (l ∷ whole_segments more) [])
segments_with l more h false false e o = record { rest = l ∷ more; front = refl; whole = inl refl; open_end = or_from _ _ e o }
segments_with l more h ends true e o = with_later h.whole
  where
    with_later : (whole_segments more ≡ []) ⊎ EndsSegment (whole_segments more)
        → AreWholeSegments (l ∷ more) (cond (ends || true) (l ∷ whole_segments more) [])
    with_later (inl none) =
        let all : more ≡ h.rest = h.front ∙ ap (λ (x : List Line). x ++ h.rest) none in
        absurd (both_ways (list_any ends_segment more) (ap (list_any ends_segment) all ∙ h.open_end) o)
    with_later (inr some) =
        let all : AreWholeSegments (l ∷ more) (l ∷ whole_segments more) = record {
          rest = h.rest;
          front = ap (λ (x : List Line). l ∷ x) h.front;
          whole = inr (record { before = l ∷ some.before; last = some.last; joined = ap (λ (x : List Line). l ∷ x) some.joined; ends = some.ends });
          open_end = h.open_end;
        } in
        subst (λ b. AreWholeSegments (l ∷ more) (cond b (l ∷ whole_segments more) [])) (sym (or_right ends true refl)) all
segments_with l more h true false e o = alone h.whole
  where
    alone : (whole_segments more ≡ []) ⊎ EndsSegment (whole_segments more)
        → AreWholeSegments (l ∷ more) (l ∷ whole_segments more)
    alone (inl none) = record {
      rest = h.rest;
      front = ap (λ (x : List Line). l ∷ x) h.front;
      whole = inr (record { before = []; last = l; joined = ap (λ (x : List Line). l ∷ x) none; ends = e });
      open_end = h.open_end;
    }
    alone (inr some) =
        let last_ends : list_any ends_segment (some.last ∷ []) ≡ true = or_left (ends_segment some.last) false some.ends in
        let in_front : list_any ends_segment (whole_segments more) ≡ true =
        ap (list_any ends_segment) some.joined ∙ list_any-append ends_segment some.before (some.last ∷ [])
        ∙ or_right (list_any ends_segment some.before) (list_any ends_segment (some.last ∷ [])) last_ends in
        let in_all : list_any ends_segment more ≡ true =
        ap (list_any ends_segment) h.front ∙ list_any-append ends_segment (whole_segments more) h.rest ∙ or_left (list_any ends_segment (whole_segments more)) (list_any ends_segment h.rest) in_front in
        absurd (both_ways (list_any ends_segment more) o in_all)

pub segments-whole : (lines : List Line) → AreWholeSegments lines (whole_segments lines)
segments-whole [] = record { rest = []; front = refl; whole = inl refl; open_end = refl }
segments-whole (l ∷ more) = segments_with l more (segments-whole more) (ends_segment l) (list_any ends_segment more) refl refl

-- ---- what is told before a line

pub tells-segments : (f : Kind → Functions) (opened : State) (lines : List Line) (number : ℕ) → TellsWholeSegments f opened lines number (text_before f opened lines number)
tells-segments f opened lines number =
    let s : State = opening_of opened lines in
    let upto : List Line = take (number - 1) lines in
    let first : List Line = whole_segments upto in
    let cut : Begins first lines = told-lines lines number in
    record {
      first = first;
      rest = cut.0;
      script = cut.1;
      whole = segments-whole upto;
      told = refl;
      then_others = ap (λ (l : List Line). text_of (printed_from f s 1 l)) cut.1
          ∙ ap text_of (printed_then f s 1 (length first + 1) first cut.0 (omega arith))
          ∙ flat_map-append spelling (printed_from f s 1 first) (printed_from f (state_after f s 1 first) (length first + 1) cut.0);
    }
