-- Lemmas: beginnings of legal journals.
use Rattle.std.proofs.Common.{◌&&◌, true, ◌≡◌, ◌↔◌, ℕ, ◌<◌, ◌⊎◌, List, [], ◌∷◌, ◌++◌, length, reverse, Option, Some, None, refl, sym, ap, subst, ◌∙◌, inl, inr, append_assoc, arith}
use Rattle.std.proofs.lemmas.Bool.{cases_order, and_parts}
use Rattle.std.proofs.lemmas.List.{reverse-append}
use mathlib.Core.List.{reverse-cons}
use Rattle.dap_bytes.specs.declared.node.Node.{Node}
use Rattle.dap_bytes.specs.declared.part.Part.{Part}
use Rattle.lane_records.specs.declared.record.Record.{Record}
use Rattle.dap_messages.specs.declared.job.JobNo.{JobNo}
use Rattle.dap_messages.specs.declared.body.Half.{Half}
use Rattle.dap_messages.specs.declared.body.Step.{Step}
use Rattle.dap_messages.specs.declared.item.Tagged.{Tagged}
use Rattle.dap_messages.specs.Grammar.{name, items}
use Rattle.dap_messages.specs.Forms.{job, half, step}
use Rattle.lane_records.specs.declared.record.Record.TheVariants.{Continue, Start}
use Rattle.legal_journals.specs.History.{Mem}
use Rattle.lane_records.specs.Records.{record_}
use Rattle.legal_journals.specs.Legal.{May, IsLegal, IsLegalJournal, IsFirstRefused}

-- with the newest first, what was before is legal
pub older_legal : (node : Node) (part : Part) (newer old : List Record) → IsLegal node part (newer ++ old) → IsLegal node part old
older_legal node part [] old h = h
older_legal node part (x ∷ newer) old h = older_legal node part newer old h.1

turned : (before after : List Record) (x : Record) → reverse (before ++ x ∷ after) ≡ reverse after ++ x ∷ reverse before
turned before after x =
    reverse-append before (x ∷ after) ∙ ap (λ (ys : List Record). ys ++ reverse before) (reverse-cons x after) ∙ append_assoc (reverse after) (x ∷ []) (reverse before)

-- a record of a legal journal may follow those before it, which are a legal journal
pub legal_at : (node : Node) (part : Part) (before after : List Record) (x : Record) → IsLegalJournal node part (before ++ x ∷ after)
    → May node part x (reverse before) × IsLegalJournal node part before
legal_at node part before after x h =
    older_legal node part (reverse after) (x ∷ reverse before) (subst (λ (ys : List Record). IsLegal node part ys) (turned before after x) h)

pub legal_grown : (node : Node) (part : Part) (journal : List Record) (x : Record)
    → IsLegalJournal node part (journal ++ x ∷ []) ↔ (IsLegalJournal node part journal × May node part x (reverse journal))
legal_grown node part journal x = (
  λ h. let p = legal_at node part journal [] x h in (p.1, p.0),
  λ p. subst (λ (ys : List Record). IsLegal node part ys) (sym (turned journal [] x)) (p.1, p.0),
)

-- the longer of two beginnings goes on as the list does after the shorter one
longer : (a b : List Record) (x y : Record) (c d : List Record) → a ++ x ∷ c ≡ b ++ y ∷ d → length a < length b → (rest : List Record) × (b ≡ a ++ x ∷ rest)
longer [] [] x y c d e lt = absurd (omega arith)
longer [] (z ∷ b) x y c d e lt = let same : x ≡ z = cc in (b, ap (λ (w : Record). w ∷ b) (sym same))
longer (w ∷ a) [] x y c d e lt = absurd (omega arith)
longer (w ∷ a) (z ∷ b) x y c d e lt =
    let same : w ≡ z = cc in
    let tails : a ++ x ∷ c ≡ b ++ y ∷ d = cc in
    let less : length a < length b = omega arith in
    let found = longer a b x y c d tails less in
    (found.0, ap (λ (u : Record). u ∷ b) (sym same) ∙ ap (λ (us : List Record). w ∷ us) found.1)

-- no record is refused in a beginning of a legal journal
none_before : (node : Node) (part : Part) (journal : List Record) (k : ℕ) → IsLegalJournal node part journal → IsFirstRefused node part journal (Some k) → ⊥
none_before node part journal k h (before, x, after, e, len, legal, refused) =
    refused (legal_at node part before after x (subst (λ (ys : List Record). IsLegalJournal node part ys) e h)).0

not_later : (node : Node) (part : Part) (journal : List Record) (k l : ℕ) → IsFirstRefused node part journal (Some k) → IsFirstRefused node part journal (Some l) → k < l → ⊥
not_later node part journal k l (before, x, after, e, len, legal, refused) (before', x', after', e', len', legal', refused') lt =
    let less : length before < length before' = omega arith in
    let found = longer before before' x x' after after' (sym e ∙ e') less in
    refused (legal_at node part before found.0 x (subst (λ (ys : List Record). IsLegalJournal node part ys) found.1 legal')).0

pub first_one : (node : Node) (part : Part) (journal : List Record) (here there : Option ℕ) → IsFirstRefused node part journal here → IsFirstRefused node part journal there → here ≡ there
first_one node part journal None None h t = refl
first_one node part journal None (Some l) h t = absurd (none_before node part journal l h t)
first_one node part journal (Some k) None h t = absurd (none_before node part journal k t h)
first_one node part journal (Some k) (Some l) h t = by_order (cases_order k l) where
  by_order : (k ≡ l) ⊎ ((k < l) ⊎ (l < k)) → Some k ≡ Some l
  by_order (inl e) = ap (λ (n : ℕ). let o : Option ℕ = Some n in o) e
  by_order (inr (inl lt)) = absurd (not_later node part journal k l h t lt)
  by_order (inr (inr gt)) = absurd (not_later node part journal l k t h gt)

-- ---- the grammar

-- a record of a legal list is in the grammar
pub legal_allowed : (node : Node) (part : Part) (l : List Record) (x : Record) → IsLegal node part l → Mem x l → record_.allowed x ≡ true
legal_allowed node part [] x h m = elim m [ ]
legal_allowed node part (y ∷ old) x h (inl e) = ap (λ (z : Record). record_.allowed z) e ∙ h.0.0
legal_allowed node part (y ∷ old) x h (inr m) = legal_allowed node part old x h.1 m

pub steps_allowed : (n : List ℕ) (j : JobNo) (xs : List (Tagged Step)) → record_.allowed (Continue n j xs) ≡ true → (items step).allowed xs ≡ true
steps_allowed n j xs a = (and_parts (job.allowed j) ((items step).allowed xs) (and_parts (name.allowed n) (job.allowed j && (items step).allowed xs) a).1).1

pub halves_allowed : (j : JobNo) (n : List ℕ) (hs : List (Tagged Half)) → record_.allowed (Start j n hs) ≡ true → (items half).allowed hs ≡ true
halves_allowed j n hs a = (and_parts (name.allowed n) ((items half).allowed hs) (and_parts (job.allowed j) (name.allowed n && (items half).allowed hs) a).1).1
