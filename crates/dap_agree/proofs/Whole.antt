-- Collections of honest fair reports, in whole numbers.
use Rattle.std.proofs.Common.{◌≡◌, ℕ, ◌<◌, List, [], ◌∷◌, length, map, filter_map, Bool, true, ◌&&◌, Option, Some, None, refl, ap, sym, ◌∙◌, inl, inr, subst}
use Rattle.std.specs.Prelude.{nat_eq}
use Rattle.std.specs.List.{cons_option}
use Rattle.std.proofs.lemmas.Bool.{eqb-true}
use Rattle.std.proofs.lemmas.List.Elements.{All-nil, All-cons}
use Rattle.field_laws.specs.WholeSums.{HaveEntries, entry_sum, whole_sum}
use Rattle.field_laws.proofs.WholeSumLaws.{sum_of-below}
use Rattle.vdaf_api.specs.Functions.{Functions}
use Rattle.vdaf_api.specs.Promises.{FunctionLaws}
use Rattle.vdaf_api.specs.Totals.{total_numbers}
use Rattle.vdaf_api.specs.Vectors.{plus, numbers}
use Rattle.vdaf_api.specs.declared.kind.Kind.{Kind}
use Rattle.dap_bytes.specs.declared.limits.TheConstants.{GREATEST_MINIMUM, GREATEST_PRECISION}
use Rattle.dap_bytes.specs.declared.node.Node.TheVariants.{Leader}
use Rattle.dap_bytes.specs.declared.part.Part.TheVariants.{Front}
use Rattle.dap_messages.specs.Grammar.{is_between, name}
use Rattle.dap_messages.specs.Laws.{and_parts}
use Rattle.dap_messages.specs.declared.report.Report.{Report}
use Rattle.dap_seal.proofs.Honest.{honest-counted}
use Rattle.dap_seal.specs.Reports.{content_numbers_of}
use Rattle.dap_tasks.specs.Task.{PlainTask}
use Rattle.lane_records.specs.RecordLaws.{leader_task_allowed}
use Rattle.lane_records.specs.Stored.{kind, expiry, key, keys, task_fields, fields_of, stored}
use Rattle.lane_records.specs.StoredLaws.{fields_allowed}
use Rattle.lane_records.specs.declared.batch.Answered.{Answered}
use Rattle.lane_records.specs.declared.format.Format.{Format}
use Rattle.lane_records.specs.declared.record.Record.{Record}
use Rattle.lane_records.specs.declared.record.Record.TheVariants.{LeaderTask}
use Rattle.lane_records.specs.declared.stored.StoredTask.{StoredTask}
use Rattle.legal_journals.specs.History.{Mem}
use Rattle.legal_journals.specs.Legal.{IsLegal}
use Rattle.legal_journals.proofs.Grown.{legal_allowed}
use Rattle.dap_agree.specs.Agree.{Batch}
use Rattle.dap_agree.specs.Fronts.{Journals, fronts_of}
use Rattle.dap_agree.specs.Shown.{AnswerShown}
use Rattle.dap_agree.specs.Whole.{IsHonest, AreHonest, vectors_of, IsHonestSum, IsWholeSum}
use Rattle.dap_agree.proofs.Stored.{task_known}

-- ---- the verify key of a stored task

fields_key : (f : Format) (t : StoredTask) → (task_fields f).allowed (fields_of t) ≡ true → length t.verify ≡ 16
fields_key f t a =
    let min : Bool = is_between 1 GREATEST_MINIMUM t.min in
    let precision : Bool = is_between 1 GREATEST_PRECISION t.precision in
    let last : Bool = (expiry f).allowed t.expires && (key.allowed t.verify && keys.allowed t.keys) in
    let a1 = and_parts (name.allowed t.name) ((kind f).allowed t.kind && (min && (precision && last))) a in
    let a2 = and_parts ((kind f).allowed t.kind) (min && (precision && last)) a1.1 in
    let a3 = and_parts min (precision && last) a2.1 in
    let a4 = and_parts precision last a3.1 in
    let a5 = and_parts ((expiry f).allowed t.expires) (key.allowed t.verify && keys.allowed t.keys) a4.1 in
    let a6 = and_parts (key.allowed t.verify) (keys.allowed t.keys) a5.1 in
    eqb-true (length t.verify) 16 (and_parts (nat_eq (length t.verify) 16) true a6.0).0

-- has 16 bytes
pub key_bytes : (front helper_front : List Record) (n : List ℕ) (t : PlainTask) → IsLegal Leader Front front →
    (fronts_of front helper_front).task n ≡ Some t → length t.verify ≡ 16
key_bytes front helper_front n t legal e =
    let k = task_known front helper_front n t e in
    let allowed : (stored k.0.format).allowed k.0 ≡ true = sym (leader_task_allowed k.0) ∙ legal_allowed Leader Front front (LeaderTask k.0) legal k.2 in
    subst (λ (z : PlainTask). length z.verify ≡ 16) k.5 (fields_key k.0.format k.0 (sym (fields_allowed k.0) ∙ allowed))

-- ---- the vectors

module _ (f : Kind → Functions) (t : PlainTask) (laws : FunctionLaws (f t.kind)) (verify : length t.verify ≡ 16) (measured : Report → List ℕ) where
  vectors_same : (rs : List Report) → AreHonest f t measured rs → filter_map (content_numbers_of (f t.kind) t) rs ≡ vectors_of f t measured rs
  vectors_same [] h = refl
  vectors_same (r ∷ rs) h =
      let one : IsHonest f t (measured r) r = h r (inl refl) in
      let content : content_numbers_of (f t.kind) t r ≡ (f t.kind).encoding (measured r) =
      honest-counted laws t r.id r.time (measured r) one.seed r verify one.id_bytes one.seed_bytes one.made one.fair in
      ap (λ o. cons_option o (filter_map (content_numbers_of (f t.kind) t) rs)) content
      ∙ ap (cons_option ((f t.kind).encoding (measured r))) (vectors_same rs (λ q p. h q (inr p)))

  have_entries : (ms : List (List ℕ)) → HaveEntries (f t.kind).space.size (filter_map (f t.kind).encoding ms)
  have_entries [] = All-nil (λ (v : List ℕ). length v ≡ (f t.kind).space.size)
  have_entries (m ∷ ms) = go ((f t.kind).encoding m) refl (have_entries ms)
    where
      go : (o : Option (List ℕ)) → (f t.kind).encoding m ≡ o → HaveEntries (f t.kind).space.size (filter_map (f t.kind).encoding ms) →
          HaveEntries (f t.kind).space.size (cons_option o (filter_map (f t.kind).encoding ms))
      go None e k = k
      go (Some v) e k = All-cons (λ (v : List ℕ). length v ≡ (f t.kind).space.size) v (filter_map (f t.kind).encoding ms) (laws.encoding m v e).0 k

  honest_by : (a : Answered) (rs : List Report) →
      numbers (f t.kind).space (plus (f t.kind).space a.leader a.helper) ≡ total_numbers (f t.kind).space (filter_map (content_numbers_of (f t.kind) t) rs) →
      AreHonest f t measured rs → numbers (f t.kind).space (plus (f t.kind).space a.leader a.helper) ≡ total_numbers (f t.kind).space (vectors_of f t measured rs)
  honest_by a rs summed h = summed ∙ ap (total_numbers (f t.kind).space) (vectors_same rs h)

  whole_by : (rs : List Report) →
      ((place : ℕ) → place < (f t.kind).space.size → entry_sum (vectors_of f t measured rs) place < (f t.kind).space.modulus) →
      total_numbers (f t.kind).space (vectors_of f t measured rs) ≡ whole_sum (f t.kind).space.size (vectors_of f t measured rs)
  whole_by rs small = sum_of-below (f t.kind).space.modulus (f t.kind).space.size (vectors_of f t measured rs) (have_entries (map measured rs)) small

pub honest_sums : (f : Kind → Functions) (t : PlainTask) (js : Journals) (b : Batch) (a : Answered) (rs : List Report) → FunctionLaws (f t.kind) → length t.verify ≡ 16 →
    AnswerShown f t js b a rs → IsHonestSum f t a rs
honest_sums f t js b a rs laws verify shown measured h = honest_by f t laws verify measured a rs shown.summed h

pub whole_sums : (f : Kind → Functions) (t : PlainTask) (js : Journals) (b : Batch) (a : Answered) (rs : List Report) → FunctionLaws (f t.kind) → length t.verify ≡ 16 →
    AnswerShown f t js b a rs → IsWholeSum f t a rs
whole_sums f t js b a rs laws verify shown measured h small = honest_by f t laws verify measured a rs shown.summed h ∙ whole_by f t laws verify measured rs small
