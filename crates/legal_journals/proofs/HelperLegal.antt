-- Lemmas: in a legal journal of a helper's lane.
use Rattle.std.proofs.Common.{◌≡◌, ℕ, Bool, true, false, ◌&&◌, cond, List, [], ◌∷◌, reverse, get_or, length, nat_lt, Option, Some, None, is_some, bytes_eq, refl, sym, ap, subst, ◌∙◌, inl, inr}
use Rattle.std.proofs.lemmas.Bool.{and_parts, and_from, false_from_ne_true, lt-ltb}
use Rattle.std.proofs.lemmas.Slice.Eq.{bytes_eq-Decides}
use Rattle.std.specs.Cmp.{both_ways}
use Rattle.std.specs.Option.{option_or}
use Rattle.std.specs.List.{list_any, list_all}
use Rattle.dap_bytes.specs.declared.node.Node.TheVariants.{Helper}
use Rattle.dap_bytes.specs.declared.part.Part.TheVariants.{Lane}
use Rattle.dap_messages.specs.declared.job.JobNo.{JobNo}
use Rattle.dap_messages.specs.declared.body.Half.{Half}
use Rattle.dap_messages.specs.declared.item.Tagged.{Tagged}
use Rattle.lane_records.specs.declared.outcome.Outcome.{Outcome}
use Rattle.lane_records.specs.declared.record.Record.{Record}
use Rattle.lane_records.specs.declared.record.Record.TheVariants.{Start, Commit}
use Rattle.legal_journals.specs.History.{Mem, first}
use Rattle.legal_journals.specs.Legal.{IsLegal, IsLegalJournal}
use Rattle.dap_messages.specs.Jobs.{is_same_job}
use Rattle.legal_journals.specs.HistoryTests.{same_ids}
use Rattle.legal_journals.specs.LaneTests.{starts_job, starts_under, starts_for, commits_report, was_finished, finishes, is_new}
use Rattle.legal_journals.proofs.Members.{Mem-reverse, Mem-from_reverse, any_tells, any_told}
use Rattle.dap_messages.specs.JobLaws.{same_job-Decides}
use Rattle.legal_journals.proofs.HelperRules.{starts_under-tells, commits_report-tells, finishes-Decides}
use Rattle.legal_journals.proofs.Once.{start_new, has_start, start_one}
use Rattle.legal_journals.specs.Finished.{name_under, is_named, finishes_now, finished_first, finished_place, start_has}
use Rattle.legal_journals.specs.Places.{place_of}
use Rattle.legal_journals.specs.Reports.{Report}
use Rattle.legal_journals.proofs.Firsts.{place_of-within, place_of-passes, Mem-get, none_passes}
use Rattle.legal_journals.proofs.Lanes.{first_member, first_none}

-- ---- finished reports

named_start : (n : List ℕ) (j : JobNo) (x : Record) (m : List ℕ) → name_under j x ≡ Some m → bytes_eq m n ≡ true → starts_under n j x ≡ true
named_start n j (Start k name hs) m e t = by_job (is_same_job k j) e where
  by_job : (b : Bool) → cond b (Some name) None ≡ Some m → (b && bytes_eq name n) ≡ true
  by_job true f = let same : name ≡ m = cc in ap (λ i. bytes_eq i n) same ∙ t
  by_job false f = absurd cc
named_start n j _ m e t = absurd cc

name_is : (j : JobNo) (n : List ℕ) (hs : List (Tagged Half)) → name_under j (Start j n hs) ≡ Some n
name_is j n hs = ap (λ b. cond b (Some n) None) ((same_job-Decides j j).1 refl)

-- the first name is that of the one Start
first_name : (lane : ℕ) (old : List Record) (n : List ℕ) (j : JobNo) (hs : List (Tagged Half)) → IsLegal Helper (Lane lane) old → Mem (Start j n hs) old → first (name_under j) (reverse old) ≡ Some n
first_name lane old n j hs h m = by_first (first (name_under j) (reverse old)) refl where
  by_first : (o : Option (List ℕ)) → first (name_under j) (reverse old) ≡ o → o ≡ Some n
  by_first None is = let none = first_none (name_under j) (reverse old) is (Start j n hs) (Mem-reverse (Start j n hs) old m) in let named = name_is j n hs in absurd cc
  by_first (Some k) is =
      let found = first_member (name_under j) (reverse old) k is in
      let start = starts_under-tells k j found.0 (named_start k j found.0 k found.2 ((bytes_eq-Decides k k).1 refl)) in
      let there : Mem (Start j k start.0) old = Mem-from_reverse (Start j k start.0) old (subst (λ (z : Record). Mem z (reverse old)) start.1 found.1) in
      let same = start_one lane old h n k j hs start.0 m there in
      let names : n ≡ k = cc in
      ap (λ (i : List ℕ). let o : Option (List ℕ) = Some i in o) (sym names)

-- what is told of a report that has a place
abbrev IsTold : Report → List Record → Type 0
IsTold q l = (j : JobNo) × (outs : List (Tagged Outcome)) × Mem (Commit j outs) l × (finishes q.1 outs ≡ true) × ((y : Record) × Mem y l × (starts_under q.0 j y ≡ true))

older_told : (q : Report) (x : Record) (old : List Record) → IsTold q old → IsTold q (x ∷ old)
older_told q x old (j, outs, m, f, (y, n, s)) = (j, outs, inr m, f, (y, inr n, s))

now_tells : (q : Report) (x : Record) (old : List Record) → finishes_now q x (reverse old) ≡ true → IsTold q (x ∷ old)
now_tells q (Commit j outs) old e =
    let parts = and_parts (is_named q.0 (first (name_under j) (reverse old))) (finishes q.1 outs) e in
    let start = by_name (first (name_under j) (reverse old)) refl parts.0 in
    (j, outs, inl refl, parts.1, (start.0, inr start.1, start.2))
  where
    by_name : (o : Option (List ℕ)) → first (name_under j) (reverse old) ≡ o → is_named q.0 o ≡ true → (y : Record) × Mem y old × (starts_under q.0 j y ≡ true)
    by_name None is e = absurd cc
    by_name (Some m) is e =
        let found = first_member (name_under j) (reverse old) m is in
        (found.0, Mem-from_reverse found.0 old found.1, named_start q.0 j found.0 m found.2 e)
now_tells q _ old e = absurd cc

tells : (q : Report) (l : List Record) → is_some (finished_first q l) ≡ true → IsTold q l
tells q [] e = absurd cc
tells q (x ∷ old) e = by_old (finished_first q old) (tells q old) (finishes_now q x (reverse old)) refl e where
  by_old : (o : Option ℕ) → (is_some o ≡ true → IsTold q old) → (b : Bool) → finishes_now q x (reverse old) ≡ b → is_some (option_or o (cond b (Some (length old)) None)) ≡ true → IsTold q (x ∷ old)
  by_old (Some n) rest b is e = older_told q x old (rest refl)
  by_old None rest true is e = now_tells q x old is
  by_old None rest false is e = absurd cc

some_left : (o more : Option ℕ) → is_some o ≡ true → is_some (option_or o more) ≡ true
some_left None more e = absurd cc
some_left (Some n) more e = refl

some_right : (o : Option ℕ) (b : Bool) (n : ℕ) → b ≡ true → is_some (option_or o (cond b (Some n) None)) ≡ true
some_right None true n e = refl
some_right None false n e = absurd cc
some_right (Some m) b n e = refl

told : (lane : ℕ) (q : Report) (l : List Record) → IsLegal Helper (Lane lane) l → (j : JobNo) (outs : List (Tagged Outcome)) (hs : List (Tagged Half)) → Mem (Commit j outs) l → finishes q.1 outs ≡ true
    → Mem (Start j q.0 hs) l → is_some (finished_first q l) ≡ true
told lane q [] h j outs hs m f s = elim m [ ]
told lane q (x ∷ old) h j outs hs (inl e) f (inl s) = let same : Commit j outs ≡ Start j q.0 hs = e ∙ sym s in absurd cc
told lane q (x ∷ old) h j outs hs (inl e) f (inr s) =
    some_right (finished_first q old) (finishes_now q x (reverse old)) (length old)
    (ap (λ (z : Record). finishes_now q z (reverse old)) (sym e)
    ∙ and_from (is_named q.0 (first (name_under j) (reverse old))) (finishes q.1 outs) (ap (is_named q.0) (first_name lane old q.0 j hs h.1 s) ∙ (bytes_eq-Decides q.0 q.0).1 refl) f)
told lane q (x ∷ old) h j outs hs (inr m) f (inl s) = absurd (start_new lane x old q.0 j hs h.0 s (has_start lane old h.1 j outs m))
told lane q (x ∷ old) h j outs hs (inr m) f (inr s) =
    some_left (finished_first q old) (cond (finishes_now q x (reverse old)) (Some (length old)) None) (told lane q old h.1 j outs hs m f s)

-- a report has a place where it was finished
pub finished_is : (lane : ℕ) (n id : List ℕ) (journal : List Record) → IsLegalJournal Helper (Lane lane) journal → is_some (finished_place (n, id) journal) ≡ was_finished n id journal
finished_is lane n id journal h =
    both_ways (is_some (finished_place (n, id) journal)) (was_finished n id journal)
    (λ e.
    let found = tells (n, id) (reverse journal) e in
    any_told (commits_report n id journal) journal (Commit found.0 found.1) (Mem-from_reverse (Commit found.0 found.1) journal found.2)
    (and_from (finishes id found.1) (list_any (starts_under n found.0) journal) found.3
    (any_told (starts_under n found.0) journal found.4.0 (Mem-from_reverse found.4.0 journal found.4.1) found.4.2)))
    (λ e.
    let found = any_tells (commits_report n id journal) journal e in
    let commit = commits_report-tells n id journal found.0 found.2 in
    let start = any_tells (starts_under n commit.0) journal commit.4 in
    let under = starts_under-tells n commit.0 start.0 start.2 in
    told lane (n, id) (reverse journal) h commit.0 commit.1 under.0
    (Mem-reverse (Commit commit.0 commit.1) journal (subst (λ (z : Record). Mem z journal) commit.2 found.1)) ((finishes-Decides id commit.1).1 commit.3)
    (Mem-reverse (Start commit.0 n under.0) journal (subst (λ (z : Record). Mem z journal) under.1 start.1)))

-- ---- the Start of a Commit

for_job : (j : JobNo) (outs : List (Tagged Outcome)) (journal : List Record) (x : Record) → starts_for j outs journal x ≡ true → starts_job j x ≡ true
for_job j outs journal (Start k n hs) e =
    (and_parts (is_same_job k j) (same_ids hs outs) (and_parts (is_same_job k j && same_ids hs outs) (list_all (is_new n journal) outs) e).0).0
for_job j outs journal _ e = absurd cc

for_tells : (j : JobNo) (outs : List (Tagged Outcome)) (journal : List Record) (x : Record) → starts_for j outs journal x ≡ true
    → (n : List ℕ) × (hs : List (Tagged Half)) × (x ≡ Start j n hs) × ((same_ids hs outs && list_all (is_new n journal) outs) ≡ true)
for_tells j outs journal (Start k n hs) e =
    let p = and_parts (is_same_job k j && same_ids hs outs) (list_all (is_new n journal) outs) e in
    let q = and_parts (is_same_job k j) (same_ids hs outs) p.0 in
    (n, hs, ap (λ (i : JobNo). Start i n hs) ((same_job-Decides k j).0 q.0), and_from (same_ids hs outs) (list_all (is_new n journal) outs) q.1 p.1)
for_tells j outs journal _ e = absurd cc

pub without_one : (j : JobNo) (outs : List (Tagged Outcome)) (journal : List Record) → place_of (starts_job j) journal ≡ None → false ≡ list_any (starts_for j outs journal) journal
without_one j outs journal e =
    sym (false_from_ne_true (list_any (starts_for j outs journal) journal) (λ t.
    let found = any_tells (starts_for j outs journal) journal t in
    let one = any_told (starts_job j) journal found.0 found.1 (for_job j outs journal found.0 found.2) in
    let none = none_passes (starts_job j) journal e in
    absurd cc))

with_one : (lane : ℕ) (j : JobNo) (outs : List (Tagged Outcome)) (journal : List Record) (p : ℕ) (x : Record) (k : JobNo) (n : List ℕ) (hs : List (Tagged Half))
    → IsLegalJournal Helper (Lane lane) journal → place_of (starts_job j) journal ≡ Some p → x ≡ get_or journal p x → x ≡ Start k n hs
    → (same_ids hs outs && list_all (is_new n journal) outs) ≡ list_any (starts_for j outs journal) journal
with_one lane j outs journal p x k n hs h place at_p is =
    both_ways (same_ids hs outs && list_all (is_new n journal) outs) (list_any (starts_for j outs journal) journal)
    (λ e.
    let parts = and_parts (same_ids hs outs) (list_all (is_new n journal) outs) e in
    any_told (starts_for j outs journal) journal (Start k n hs) here
    (and_from (is_same_job k j && same_ids hs outs) (list_all (is_new n journal) outs) (and_from (is_same_job k j) (same_ids hs outs) passes parts.0) parts.1))
    (λ e.
    let found = any_tells (starts_for j outs journal) journal e in
    let other = for_tells j outs journal found.0 found.2 in
    let there : Mem (Start j other.0 other.1) journal = subst (λ (z : Record). Mem z journal) other.2 found.1 in
    let same = start_one lane (reverse journal) h n other.0 j hs other.1 (Mem-reverse (Start j n hs) journal here_j) (Mem-reverse (Start j other.0 other.1) journal there) in
    let names : n ≡ other.0 = cc in
    let halves : hs ≡ other.1 = cc in
    ap (λ i. same_ids i outs && list_all (is_new n journal) outs) halves ∙ ap (λ i. same_ids other.1 outs && list_all (is_new i journal) outs) names ∙ other.3)
  where
    passes : is_same_job k j ≡ true
    passes = ap (starts_job j) (sym is ∙ at_p) ∙ place_of-passes (starts_job j) journal p x place

    here : Mem (Start k n hs) journal
    here = subst (λ (z : Record). Mem z journal) (sym at_p ∙ is) (Mem-get journal p x (place_of-within (starts_job j) journal p place))

    here_j : Mem (Start j n hs) journal
    here_j = subst (λ (i : JobNo). Mem (Start i n hs) journal) ((same_job-Decides k j).0 passes) here

pub with_place : (lane : ℕ) (j : JobNo) (outs : List (Tagged Outcome)) (journal : List Record) (p : ℕ) (x : Record)
    → IsLegalJournal Helper (Lane lane) journal → place_of (starts_job j) journal ≡ Some p → x ≡ get_or journal p x → start_has outs journal x ≡ list_any (starts_for j outs journal) journal
with_place lane j outs journal p x h place at_p = by_case x refl where
  by_case : (y : Record) → x ≡ y → start_has outs journal y ≡ list_any (starts_for j outs journal) journal
  by_case (Start k n hs) e = with_one lane j outs journal p x k n hs h place at_p e
  by_case _ e = let t : starts_job j x ≡ true = ap (starts_job j) at_p ∙ place_of-passes (starts_job j) journal p x place in let f = sym (ap (starts_job j) e) ∙ t in absurd cc

pub has_place : (j : JobNo) (journal : List Record) (p : ℕ) → place_of (starts_job j) journal ≡ Some p → false ≡ nat_lt p (length journal) → ⊥
has_place j journal p place e = let t = lt-ltb p (length journal) (place_of-within (starts_job j) journal p place) in absurd cc
