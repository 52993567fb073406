-- Sums of shares and of contents over reports.
use Rattle.std.proofs.Common.{◌≡◌, ℕ, ◌+◌, List, [], ◌∷◌, ◌++◌, suc, length, map, Option, Some, None, refl, ap, sym, ◌∙◌, arith, inl, inr, subst, length-append}
use Rattle.vdaf_api.specs.Functions.{Functions}
use Rattle.vdaf_api.specs.Totals.{total, total_numbers}
use Rattle.vdaf_api.specs.Vectors.{vector, plus, zero_share, numbers_in, SpaceLaws}
use Rattle.vdaf_api.specs.Promises.{FunctionLaws}
use Rattle.vdaf_api.specs.VerdictLaws.{ok-outs}
use Rattle.field_laws.specs.Vector.{add_each}
use Rattle.vdaf_api.specs.SumLaws.{vector-plus, plus_comm, plus_assoc, plus-none, plus-zero, plus-is_out, vector-empty, vector-zero}
use Rattle.vdaf_api.specs.Verdict.{Verdict, ok, bad, numbers_of}
use Rattle.vdaf_api.specs.declared.kind.Kind.{Kind}
use Rattle.vdaf_api.specs.declared.space.Space.{Space}
use Rattle.dap_messages.specs.declared.item.Tagged.{Tagged}
use Rattle.dap_messages.specs.declared.report.Report.{Report}
use Rattle.dap_tasks.specs.Task.{PlainTask}
use Rattle.dap_seal.specs.Reports as seal
use Rattle.lane_records.specs.declared.outcome.Outcome.{Outcome}
use Rattle.lane_records.specs.declared.outcome.Outcome.TheVariants.{Finished, Failed}
use Rattle.legal_journals.specs.History.{Mem}
use Rattle.std.specs.List.{cons_option, filter_map}
use Rattle.dap_agree.specs.Outcomes.{pair_in}
use Rattle.dap_messages.specs.Reports.{report_ids}
use Rattle.legal_journals.specs.JobReports.{each_of}
use Rattle.dap_agree.specs.Verdicts.{IsCounted, leader_part, helper_part, leader_outcome, helper_outcome, content_in, content}
use Rattle.legal_journals.specs.Told.{share_of, if_finished, if_failed, finished_ids, failed_ids, shares}
use Rattle.dap_agree.proofs.Lists.{picked_in, picked_out}

-- ---- the sum of shares

pub zero_zero : {s : Space} → SpaceLaws s → plus s (zero_share s) (zero_share s) ≡ zero_share s
zero_zero {s} laws = let z = vector-zero laws in plus-zero laws (zero_share s) _ z

pub zero_sum : {s : Space} → SpaceLaws s → (a b : List ℕ) → plus s (zero_share s) (plus s a b) ≡ plus s a b
zero_sum {s} laws a b = go (vector s a) (vector s b) refl refl
  where
    empty : plus s a b ≡ [] → plus s (zero_share s) (plus s a b) ≡ plus s a b
    empty e = ap (plus s (zero_share s)) e ∙ plus_comm s (zero_share s) [] ∙ plus-none s [] (zero_share s) (vector-empty laws) ∙ sym e

    go : (o q : Option (List ℕ)) → vector s a ≡ o → vector s b ≡ q → plus s (zero_share s) (plus s a b) ≡ plus s a b
    go None q e f = empty (plus-none s a b e)
    go (Some xs) None e f = empty (plus_comm s a b ∙ plus-none s b a f)
    go (Some xs) (Some ys) e f = let out = plus-is_out laws a b (xs, e) (ys, f) in plus-zero laws (plus s a b) out.0 out.1

pub zero_total : {s : Space} → SpaceLaws s → (xs : List (List ℕ)) → plus s (zero_share s) (total s xs) ≡ total s xs
zero_total laws [] = zero_zero laws
zero_total {s} laws (x ∷ xs) = zero_sum laws x (total s xs)

pub interchange : {s : Space} → SpaceLaws s → (a b c d : List ℕ) → plus s (plus s a b) (plus s c d) ≡ plus s (plus s a c) (plus s b d)
interchange {s} laws a b c d =
    plus_assoc laws a b (plus s c d)
    ∙ ap (λ z. plus s a z) (sym (plus_assoc laws b c d) ∙ ap (λ z. plus s z d) (plus_comm s b c) ∙ plus_assoc laws c b d)
    ∙ sym (plus_assoc laws a c (plus s b d))

pub total_pair : {A : Type 0} {s : Space} → SpaceLaws s → (F G : A → List ℕ) (rs : List A) →
    plus s (total s (map F rs)) (total s (map G rs)) ≡ total s (map (λ r. plus s (F r) (G r)) rs)
total_pair laws F G [] = zero_zero laws
total_pair {A} {s} laws F G (r ∷ rs) =
    interchange laws (F r) (total s (map F rs)) (G r) (total s (map G rs)) ∙ ap (λ z. plus s (plus s (F r) (G r)) z) (total_pair laws F G rs)

pub total_app : {A : Type 0} {s : Space} → SpaceLaws s → (F : A → List ℕ) (xs ys : List A) →
    total s (map F (xs ++ ys)) ≡ plus s (total s (map F xs)) (total s (map F ys))
total_app laws F [] ys = sym (zero_total laws (map F ys))
total_app {A} {s} laws F (x ∷ xs) ys =
    ap (λ z. plus s (F x) z) (total_app laws F xs ys) ∙ sym (plus_assoc laws (F x) (total s (map F xs)) (total s (map F ys)))

-- ---- the finished reports of a list

abbrev pub if_ok : Report → Verdict → Option Report
if_ok r (ok a b) = Some r
if_ok r (bad c) = None

abbrev pub good : (Kind → Functions) → PlainTask → List Report → List Report
good f t rs = filter_map (λ r. if_ok r (seal.verdict_of (f t.kind) t r)) rs

abbrev pub leader_in : Verdict → List ℕ
leader_in v = (pair_in v).leader

abbrev pub helper_in_ : Verdict → List ℕ
helper_in_ v = (pair_in v).helper

abbrev pub lead : (Kind → Functions) → PlainTask → Report → List ℕ
lead f t r = leader_in (seal.verdict_of (f t.kind) t r)

abbrev pub help : (Kind → Functions) → PlainTask → Report → List ℕ
help f t r = helper_in_ (seal.verdict_of (f t.kind) t r)

pub leader_shares : (f : Kind → Functions) (t : PlainTask) (rs : List Report) → shares (each_of (leader_outcome f t) rs) ≡ map (lead f t) (good f t rs)
leader_shares f t [] = refl
leader_shares f t (r ∷ rs) = go (seal.verdict_of (f t.kind) t r) refl (leader_shares f t rs)
  where
    go : (v : Verdict) → seal.verdict_of (f t.kind) t r ≡ v → shares (each_of (leader_outcome f t) rs) ≡ map (lead f t) (good f t rs) →
        cons_option (share_of (leader_part v)) (shares (each_of (leader_outcome f t) rs)) ≡ map (lead f t) (cons_option (if_ok r v) (good f t rs))
    go (ok a b) e k = ap (λ z. z ∷ shares (each_of (leader_outcome f t) rs)) (sym (ap leader_in e)) ∙ ap (λ z. lead f t r ∷ z) k
    go (bad c) e k = k

pub helper_shares : (f : Kind → Functions) (t : PlainTask) (rs : List Report) → shares (each_of (helper_outcome f t) rs) ≡ map (help f t) (good f t rs)
helper_shares f t [] = refl
helper_shares f t (r ∷ rs) = go (seal.verdict_of (f t.kind) t r) refl (helper_shares f t rs)
  where
    go : (v : Verdict) → seal.verdict_of (f t.kind) t r ≡ v → shares (each_of (helper_outcome f t) rs) ≡ map (help f t) (good f t rs) →
        cons_option (share_of (helper_part v)) (shares (each_of (helper_outcome f t) rs)) ≡ map (help f t) (cons_option (if_ok r v) (good f t rs))
    go (ok a b) e k = ap (λ z. z ∷ shares (each_of (helper_outcome f t) rs)) (sym (ap helper_in_ e)) ∙ ap (λ z. help f t r ∷ z) k
    go (bad c) e k = k

pub contents_are : (f : Kind → Functions) (t : PlainTask) (rs : List Report) →
    map (λ r. plus (f t.kind).space (lead f t r) (help f t r)) (good f t rs) ≡ map (content f t) (good f t rs)
contents_are f t [] = refl
contents_are f t (r ∷ rs) = go (seal.verdict_of (f t.kind) t r) refl (contents_are f t rs)
  where
    go : (v : Verdict) → seal.verdict_of (f t.kind) t r ≡ v →
        map (λ r. plus (f t.kind).space (lead f t r) (help f t r)) (good f t rs) ≡ map (content f t) (good f t rs) →
        map (λ r. plus (f t.kind).space (lead f t r) (help f t r)) (cons_option (if_ok r v) (good f t rs)) ≡ map (content f t) (cons_option (if_ok r v) (good f t rs))
    go (ok a b) e k =
        ap (λ z. plus (f t.kind).space (leader_in z) (helper_in_ z) ∷ map (λ r. plus (f t.kind).space (lead f t r) (help f t r)) (good f t rs)) e
        ∙ ap (λ z. z ∷ map (λ r. plus (f t.kind).space (lead f t r) (help f t r)) (good f t rs)) (sym (ap (content_in (f t.kind).space) e))
        ∙ ap (λ z. content f t r ∷ z) k
    go (bad c) e k = k

pub leader_finished : (f : Kind → Functions) (t : PlainTask) (rs : List Report) → finished_ids (each_of (leader_outcome f t) rs) ≡ report_ids (good f t rs)
leader_finished f t [] = refl
leader_finished f t (r ∷ rs) = go (seal.verdict_of (f t.kind) t r) (leader_finished f t rs)
  where
    go : (v : Verdict) → finished_ids (each_of (leader_outcome f t) rs) ≡ report_ids (good f t rs) →
        cons_option (if_finished r.id (leader_part v)) (finished_ids (each_of (leader_outcome f t) rs)) ≡ report_ids (cons_option (if_ok r v) (good f t rs))
    go (ok a b) k = ap (λ z. r.id ∷ z) k
    go (bad c) k = k

pub helper_finished : (f : Kind → Functions) (t : PlainTask) (rs : List Report) → finished_ids (each_of (helper_outcome f t) rs) ≡ report_ids (good f t rs)
helper_finished f t [] = refl
helper_finished f t (r ∷ rs) = go (seal.verdict_of (f t.kind) t r) (helper_finished f t rs)
  where
    go : (v : Verdict) → finished_ids (each_of (helper_outcome f t) rs) ≡ report_ids (good f t rs) →
        cons_option (if_finished r.id (helper_part v)) (finished_ids (each_of (helper_outcome f t) rs)) ≡ report_ids (cons_option (if_ok r v) (good f t rs))
    go (ok a b) k = ap (λ z. r.id ∷ z) k
    go (bad c) k = k

-- the others
abbrev pub if_bad : Report → Verdict → Option Report
if_bad r (ok a b) = None
if_bad r (bad c) = Some r

abbrev pub poor : (Kind → Functions) → PlainTask → List Report → List Report
poor f t rs = filter_map (λ r. if_bad r (seal.verdict_of (f t.kind) t r)) rs

pub leader_failed_ids : (f : Kind → Functions) (t : PlainTask) (rs : List Report) → failed_ids (each_of (leader_outcome f t) rs) ≡ report_ids (poor f t rs)
leader_failed_ids f t [] = refl
leader_failed_ids f t (r ∷ rs) = go (seal.verdict_of (f t.kind) t r) (leader_failed_ids f t rs)
  where
    go : (v : Verdict) → failed_ids (each_of (leader_outcome f t) rs) ≡ report_ids (poor f t rs) →
        cons_option (if_failed r.id (leader_part v)) (failed_ids (each_of (leader_outcome f t) rs)) ≡ report_ids (cons_option (if_bad r v) (poor f t rs))
    go (ok a b) k = k
    go (bad c) k = ap (λ z. r.id ∷ z) k

abbrev pub IsPoor : (Kind → Functions) → PlainTask → Report → Type 0
IsPoor f t r = (code : ℕ) × (seal.verdict_of (f t.kind) t r ≡ bad code)

pub poor_out : (f : Kind → Functions) (t : PlainTask) (rs : List Report) (r : Report) → Mem r (poor f t rs) → Mem r rs × IsPoor f t r
poor_out f t rs r p =
    let a = picked_out (λ r. if_bad r (seal.verdict_of (f t.kind) t r)) rs r p in
    go a.0 (seal.verdict_of (f t.kind) t a.0) refl a.1 a.2
  where
    go : (q : Report) (v : Verdict) → seal.verdict_of (f t.kind) t q ≡ v → Mem q rs → if_bad q v ≡ Some r → Mem r rs × IsPoor f t r
    go q (ok a b) e m k = absurd (cc)
    go q (bad c) e m k =
        let same : q ≡ r = cc in
        (subst (λ z. Mem z rs) same m, (c, subst (λ (z : Report). seal.verdict_of (f t.kind) t z ≡ bad c) same e))

pub poor_in : (f : Kind → Functions) (t : PlainTask) (rs : List Report) (r : Report) → Mem r rs → IsPoor f t r → Mem r (poor f t rs)
poor_in f t rs r m g = picked_in (λ r. if_bad r (seal.verdict_of (f t.kind) t r)) rs r r m (ap (if_bad r) g.1)

-- what is good stands in the list and has both shares
pub good_out : (f : Kind → Functions) (t : PlainTask) (rs : List Report) (r : Report) → Mem r (good f t rs) → Mem r rs × IsCounted f t r
good_out f t rs r p =
    let a = picked_out (λ r. if_ok r (seal.verdict_of (f t.kind) t r)) rs r p in
    go a.0 (seal.verdict_of (f t.kind) t a.0) refl a.1 a.2
  where
    go : (q : Report) (v : Verdict) → seal.verdict_of (f t.kind) t q ≡ v → Mem q rs → if_ok q v ≡ Some r → Mem r rs × IsCounted f t r
    go q (ok a b) e m k =
        let same : q ≡ r = cc in
        (subst (λ z. Mem z rs) same m, (a, b, subst (λ (z : Report). seal.verdict_of (f t.kind) t z ≡ ok a b) same e))
    go q (bad c) e m k = absurd (cc)

pub good_in : (f : Kind → Functions) (t : PlainTask) (rs : List Report) (r : Report) → Mem r rs → IsCounted f t r → Mem r (good f t rs)
good_in f t rs r m g = picked_in (λ r. if_ok r (seal.verdict_of (f t.kind) t r)) rs r r m (ap (if_ok r) g.2)

-- ---- how many were told

pub told_length : (xs : List (Tagged Outcome)) → length (finished_ids xs) + length (failed_ids xs) ≡ length xs
told_length [] = refl
told_length (x ∷ xs) = go x.body (told_length xs)
  where
    go : (o : Outcome) → length (finished_ids xs) + length (failed_ids xs) ≡ length xs →
        length (cons_option (if_finished x.id o) (finished_ids xs)) + length (cons_option (if_failed x.id o) (failed_ids xs)) ≡ suc (length xs)
    go (Finished share) k = omega arith
    go (Failed c) k = omega arith

-- a longer list of as many is the same
pub no_more : (xs ys q : List (Tagged Outcome)) → ys ≡ q ++ xs → length (finished_ids ys) ≡ length (finished_ids xs) →
    length (failed_ids ys) ≡ length (failed_ids xs) → ys ≡ xs
no_more xs ys [] e c d = e
no_more xs ys (x ∷ q) e c d =
    let a = told_length xs in
    let b = told_length ys in
    let l : length ys ≡ length (x ∷ (q ++ xs)) = ap length e in
    let k : length (q ++ xs) ≡ length q + length xs = length-append q xs in
    absurd (omega arith)

pub ids_length : (rs : List Report) → length (report_ids rs) ≡ length rs
ids_length [] = refl
ids_length (r ∷ rs) = ap suc (ids_length rs)

pub ids_app : (xs ys : List Report) → report_ids (xs ++ ys) ≡ report_ids xs ++ report_ids ys
ids_app [] ys = refl
ids_app (x ∷ xs) ys = ap (λ z. x.id ∷ z) (ids_app xs ys)

-- ---- contents as numbers

module _ (f : Kind → Functions) (t : PlainTask) (laws : FunctionLaws (f t.kind)) where
  abbrev numbers_by : Report → Option (List ℕ)
  numbers_by r = seal.content_numbers_of (f t.kind) t r

  abbrev pub one_more : Option (List ℕ) → List (List ℕ) → Option (List ℕ)
  one_more o vs = Some (total_numbers (f t.kind).space (cons_option o vs))

  pub contents_sum : (rs : List Report) → ((r : Report) → Mem r rs → IsCounted f t r) →
      vector (f t.kind).space (total (f t.kind).space (map (content f t) rs)) ≡ Some (total_numbers (f t.kind).space (filter_map (seal.content_numbers_of (f t.kind) t) rs))
  contents_sum [] counted = vector-zero laws.space
  contents_sum (r ∷ rs) counted =
      let g = counted r (inl refl) in
      let outs = ok-outs laws (seal.opened_report t r) g.0 g.1 g.2 in
      let here : vector (f t.kind).space (plus (f t.kind).space g.0 g.1) ≡ Some (add_each (f t.kind).space.modulus outs.0.0 outs.1.0) =
      vector-plus laws.space g.0 g.1 outs.0.0 outs.1.0 outs.0.1 outs.1.1 in
      let content_is : content f t r ≡ plus (f t.kind).space g.0 g.1 = ap (content_in (f t.kind).space) g.2 in
      let numbers_are : seal.content_numbers_of (f t.kind) t r ≡ Some (add_each (f t.kind).space.modulus outs.0.0 outs.1.0) =
      ap (numbers_of (f t.kind)) g.2 ∙ ap (λ v. Some (numbers_in v)) here in
      vector-plus laws.space (content f t r) (total (f t.kind).space (map (content f t) rs)) (add_each (f t.kind).space.modulus outs.0.0 outs.1.0)
      (total_numbers (f t.kind).space (filter_map (seal.content_numbers_of (f t.kind) t) rs))
      (ap (vector (f t.kind).space) content_is ∙ here) (contents_sum rs (λ q p. counted q (inr p)))
      ∙ ap (λ o. one_more o (filter_map (seal.content_numbers_of (f t.kind) t) rs)) (sym numbers_are)
