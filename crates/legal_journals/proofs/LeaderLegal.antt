-- Lemmas: in a legal journal of a leader's lane.
use Rattle.std.proofs.Common.{◌≡◌, ℕ, true, false, List, [], ◌∷◌, reverse, get_or, length, nat_lt, Some, None, refl, sym, ap, subst, ◌∙◌, inl, inr}
use Rattle.std.proofs.lemmas.Bool.{and_parts, and_from, false_from_ne_true, lt-ltb}
use Rattle.std.specs.Cmp.{both_ways}
use Rattle.std.specs.List.{list_any}
use Rattle.dap_bytes.specs.declared.node.Node.TheVariants.{Leader}
use Rattle.dap_bytes.specs.declared.part.Part.TheVariants.{Lane}
use Rattle.dap_messages.specs.declared.job.JobNo.{JobNo}
use Rattle.dap_messages.specs.declared.body.Step.{Step}
use Rattle.dap_messages.specs.declared.item.Tagged.{Tagged}
use Rattle.lane_records.specs.declared.outcome.Outcome.{Outcome}
use Rattle.lane_records.specs.declared.record.Record.{Record}
use Rattle.lane_records.specs.declared.record.Record.TheVariants.{Continue}
use Rattle.legal_journals.specs.History.{Mem}
use Rattle.legal_journals.specs.Legal.{May, IsLegal, IsLegalJournal}
use Rattle.dap_messages.specs.Jobs.{is_same_job}
use Rattle.legal_journals.specs.HistoryTests.{same_ids}
use Rattle.legal_journals.specs.LaneTests.{continues_job, continues_with}
use Rattle.legal_journals.proofs.Members.{Mem-reverse, any_tells, any_told}
use Rattle.dap_messages.specs.JobLaws.{same_job-Decides}
use Rattle.legal_journals.specs.LeaderIndexed.{continue_has}
use Rattle.legal_journals.specs.Places.{place_of}
use Rattle.legal_journals.proofs.Firsts.{place_of-within, place_of-passes, Mem-get, none_passes}

-- ---- one Continue of a job

continue_new : (lane : ℕ) (x : Record) (old : List Record) (n m : List ℕ) (j : JobNo) (xs ys : List (Tagged Step)) → May Leader (Lane lane) x old → Continue n j xs ≡ x → Mem (Continue m j ys) old → ⊥
continue_new lane x old n m j xs ys may e i = (subst (λ (z : Record). May Leader (Lane lane) z old) (sym e) may).2.2 (m, ys, i)

continue_one : (lane : ℕ) (l : List Record) → IsLegal Leader (Lane lane) l → (n m : List ℕ) (j : JobNo) (xs ys : List (Tagged Step)) → Mem (Continue n j xs) l → Mem (Continue m j ys) l → Continue n j xs ≡ Continue m j ys
continue_one lane [] h n m j xs ys i i' = elim i [ ]
continue_one lane (x ∷ old) h n m j xs ys (inl e) (inl e') = e ∙ sym e'
continue_one lane (x ∷ old) h n m j xs ys (inl e) (inr i') = absurd (continue_new lane x old n m j xs ys h.0 e i')
continue_one lane (x ∷ old) h n m j xs ys (inr i) (inl e') = absurd (continue_new lane x old m n j ys xs h.0 e' i)
continue_one lane (x ∷ old) h n m j xs ys (inr i) (inr i') = continue_one lane old h.1 n m j xs ys i i'

with_job : (j : JobNo) (outs : List (Tagged Outcome)) (x : Record) → continues_with j outs x ≡ true → continues_job j x ≡ true
with_job j outs (Continue n k xs) e = (and_parts (is_same_job k j) (same_ids xs outs) e).0
with_job j outs _ e = absurd cc

with_ids : (j : JobNo) (outs : List (Tagged Outcome)) (x : Record) → continues_with j outs x ≡ true → (n : List ℕ) × (xs : List (Tagged Step)) × (x ≡ Continue n j xs) × (same_ids xs outs ≡ true)
with_ids j outs (Continue n k xs) e =
    let parts = and_parts (is_same_job k j) (same_ids xs outs) e in
    (n, xs, ap (λ (i : JobNo). Continue n i xs) ((same_job-Decides k j).0 parts.0), parts.1)
with_ids j outs _ e = absurd cc

-- where the job has no Continue
pub without_one : (j : JobNo) (outs : List (Tagged Outcome)) (journal : List Record) → place_of (continues_job j) journal ≡ None → false ≡ list_any (continues_with j outs) journal
without_one j outs journal e =
    sym (false_from_ne_true (list_any (continues_with j outs) journal) (λ t.
    let found = any_tells (continues_with j outs) journal t in
    let yes_one = any_told (continues_job j) journal found.0 found.1 (with_job j outs found.0 found.2) in
    let none = none_passes (continues_job j) journal e in
    absurd cc))

with_one : (lane : ℕ) (j : JobNo) (outs : List (Tagged Outcome)) (journal : List Record) (p : ℕ) (x : Record) (n : List ℕ) (k : JobNo) (xs : List (Tagged Step))
    → IsLegalJournal Leader (Lane lane) journal → place_of (continues_job j) journal ≡ Some p → x ≡ get_or journal p x → x ≡ Continue n k xs
    → same_ids xs outs ≡ list_any (continues_with j outs) journal
with_one lane j outs journal p x n k xs h place at_p is =
    both_ways (same_ids xs outs) (list_any (continues_with j outs) journal)
    (λ e. any_told (continues_with j outs) journal (Continue n k xs) here (and_from (is_same_job k j) (same_ids xs outs) passes e))
    (λ e.
    let found = any_tells (continues_with j outs) journal e in
    let other = with_ids j outs found.0 found.2 in
    let there : Mem (Continue other.0 j other.1) journal = subst (λ (z : Record). Mem z journal) other.2 found.1 in
    let same = continue_one lane (reverse journal) h n other.0 j xs other.1 (Mem-reverse (Continue n j xs) journal here_j) (Mem-reverse (Continue other.0 j other.1) journal there) in
    let ids : xs ≡ other.1 = cc in
    ap (λ ys. same_ids ys outs) ids ∙ other.3)
  where
    passes : is_same_job k j ≡ true
    passes = ap (continues_job j) (sym is ∙ at_p) ∙ place_of-passes (continues_job j) journal p x place

    here : Mem (Continue n k xs) journal
    here = subst (λ (z : Record). Mem z journal) (sym at_p ∙ is) (Mem-get journal p x (place_of-within (continues_job j) journal p place))

    here_j : Mem (Continue n j xs) journal
    here_j = subst (λ (i : JobNo). Mem (Continue n i xs) journal) ((same_job-Decides k j).0 passes) here

pub with_place : (lane : ℕ) (j : JobNo) (outs : List (Tagged Outcome)) (journal : List Record) (p : ℕ) (x : Record)
    → IsLegalJournal Leader (Lane lane) journal → place_of (continues_job j) journal ≡ Some p → x ≡ get_or journal p x → continue_has outs x ≡ list_any (continues_with j outs) journal
with_place lane j outs journal p x h place at_p = by_case x refl where
  by_case : (y : Record) → x ≡ y → continue_has outs y ≡ list_any (continues_with j outs) journal
  by_case (Continue n k xs) e = with_one lane j outs journal p x n k xs h place at_p e
  by_case _ e = let t : continues_job j x ≡ true = ap (continues_job j) at_p ∙ place_of-passes (continues_job j) journal p x place in let f = sym (ap (continues_job j) e) ∙ t in absurd cc

-- the place is one of the journal's
pub has_place : (j : JobNo) (journal : List Record) (p : ℕ) → place_of (continues_job j) journal ≡ Some p → false ≡ nat_lt p (length journal) → ⊥
has_place j journal p place e = let t = lt-ltb p (length journal) (place_of-within (continues_job j) journal p place) in absurd cc
