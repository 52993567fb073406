-- A batch of honest fair reports is counted by its measurements.
use Rattle.std.proofs.Common.{◌≡◌, ◌⊎◌, ℕ, ◌≤◌, List, [], ◌∷◌, length, suc, filter_map, Some, refl, ap, ◌∙◌, inl, inr, arith, true}
use Rattle.std.specs.List.{All, cons_option}
use Rattle.std.proofs.lemmas.List.Elements.{All-cons, All-nil}
use Rattle.vdaf_api.specs.Functions.{Functions}
use Rattle.vdaf_api.specs.Promises.{FunctionLaws}
use Rattle.vdaf_api.specs.Totals.{total_numbers}
use Rattle.vdaf_api.specs.declared.kind.Kind.{Kind}
use Rattle.dap_messages.specs.declared.report.Report.{Report}
use Rattle.dap_seal.proofs.Honest.{honest-counted, honest-is}
use Rattle.dap_seal.specs.Reports.{content_numbers_of}
use Rattle.dap_tasks.specs.Task.{PlainTask}
use Rattle.dap_script.specs.declared.line.Line.TheVariants as line
use Rattle.dap_model.proofs.CollectLaws.{collect-first_cause}
use Rattle.dap_model.specs.Collections.{WasCollected, batch_reports, contents_counted, vectors_of, IsFree, PrintsCounts}
use Rattle.dap_model.specs.Honest.{Carries, CarryEach, honest_line}
use Rattle.dap_model.specs.State.{State, task_named}
use Rattle.dap_model.specs.Step.{step}
use Rattle.dap_model.specs.declared.printed.Printed.TheVariants.{Collected}
use Rattle.dap_model.specs.declared.printed.Printed.{Printed}
use Rattle.dap_bytes.specs.declared.span.Span.{Span}
use Rattle.dap_bytes.specs.Spans.{passes_start}

module _ (f : Kind → Functions) (t : PlainTask) (laws : FunctionLaws (f t.kind)) (key : length t.verify ≡ 16) where
  abbrev vectors : List (List ℕ) → List (List ℕ)
  vectors measurements = filter_map (f t.kind).encoding measurements

  vectors-carried : (ms : List (List ℕ)) (rs : List Report) → CarryEach f t ms rs → vectors_of f t rs ≡ vectors ms
  vectors-carried [] [] h = refl
  vectors-carried [] (r ∷ rs) h = absurd h
  vectors-carried (m ∷ ms) [] h = absurd h
  vectors-carried (m ∷ ms) (r ∷ rs) h =
      let one : Carries f t m r = h.0 in
      let content : content_numbers_of (f t.kind) t r ≡ (f t.kind).encoding m =
      honest-counted laws t r.id r.time m one.seed r key one.id_bytes one.seed_bytes one.made one.fair in
      ap (λ o. cons_option o (vectors_of f t rs)) content ∙ ap (cons_option ((f t.kind).encoding m)) (vectors-carried ms rs h.1)

  pub length-carried : (ms : List (List ℕ)) (rs : List Report) → CarryEach f t ms rs → length rs ≡ length ms
  length-carried [] [] h = refl
  length-carried [] (r ∷ rs) h = absurd h
  length-carried (m ∷ ms) [] h = absurd h
  length-carried (m ∷ ms) (r ∷ rs) h = ap suc (length-carried ms rs h.1)

  -- each measurement has a vector
  length-vectors : (ms : List (List ℕ)) (rs : List Report) → CarryEach f t ms rs → length (vectors ms) ≡ length ms
  length-vectors [] [] h = refl
  length-vectors [] (r ∷ rs) h = absurd h
  length-vectors (m ∷ ms) [] h = absurd h
  length-vectors (m ∷ ms) (r ∷ rs) h =
      let one : Carries f t m r = h.0 in
      let made = honest-is (f t.kind) t r.id r.time m one.seed r one.made in
      let vector = laws.measured r.id m one.seed made.parts one.id_bytes one.seed_bytes made.sharded in
      ap (λ o. length (cons_option o (vectors ms))) vector.1 ∙ ap suc (length-vectors ms rs h.1)

  -- each is one of the kind
  pub measured-carried : (ms : List (List ℕ)) (rs : List Report) → CarryEach f t ms rs → All (λ m. (v : List ℕ) × ((f t.kind).encoding m ≡ Some v)) ms
  measured-carried [] [] h = All-nil (λ m. (v : List ℕ) × ((f t.kind).encoding m ≡ Some v))
  measured-carried [] (r ∷ rs) h = absurd h
  measured-carried (m ∷ ms) [] h = absurd h
  measured-carried (m ∷ ms) (r ∷ rs) h =
      let one : Carries f t m r = h.0 in
      let made = honest-is (f t.kind) t r.id r.time m one.seed r one.made in
      All-cons (λ m. (v : List ℕ) × ((f t.kind).encoding m ≡ Some v)) m ms
      (laws.measured r.id m one.seed made.parts one.id_bytes one.seed_bytes made.sharded) (measured-carried ms rs h.1)

  module _ (s : State) (k : ℕ) (name : List ℕ) (span : Span) (ms : List (List ℕ)) (h : CarryEach f t ms (batch_reports s t span)) where
    abbrev reports : List Report
    reports = batch_reports s t span

    counted-carried : contents_counted f s t span ≡ length ms
    counted-carried = ap (λ (vs : List (List ℕ)). length vs) (vectors-carried ms reports h) ∙ length-vectors ms reports h

    line-carried : (printed : List Printed) → PrintsCounts f s t name span printed → printed ≡ honest_line f t name span ms ∷ []
    line-carried printed c =
        let with_content : c.what.reports ≡ length ms = c.counted.with_content ∙ counted-carried in
        let none : c.what.rejected ≡ 0 = omega (arith, with_content, c.counted.each_once, length-carried ms reports h) in
        let answer = c.counted.answer ∙ ap (λ (vs : List (List ℕ)). (f t.kind).answer (total_numbers (f t.kind).space vs)) (vectors-carried ms reports h) in
        c.is ∙ λ i. Collected name span (record { reports = with_content i; rejected = none i; answer = answer i }) ∷ []

    pub honest-batch : task_named s.tasks name ≡ Some t → passes_start span t.precision ≡ true
        → WasCollected s name span ⊎ (IsFree s name t.precision span × (t.min ≤ length ms))
        → (step f s k (line.Collect name span)).1 ≡ honest_line f t name span ms ∷ []
    honest-batch known passes due = line-carried (step f s k (line.Collect name span)).1 (by due)
      where
        by : WasCollected s name span ⊎ (IsFree s name t.precision span × (t.min ≤ length ms)) → PrintsCounts f s t name span (step f s k (line.Collect name span)).1
        by (inl was) = (((collect-first_cause f s k span name).known t known).again passes was).printed
        by (inr (free, many)) = (((collect-first_cause f s k span name).known t known).full passes free (omega (arith, many, counted-carried))).printed
