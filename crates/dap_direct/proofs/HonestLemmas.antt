-- Honest reports, as their bytes.
use Rattle.std.proofs.Common.{◌≡◌, ℕ, List, Option, Some, None, refl, sym, ap, subst, ◌∙◌}
use Rattle.std.specs.Prelude.{IsTrue, IfSome}
use Rattle.std.specs.Option.{option_map}
use Rattle.dap_messages.specs.Messages.{report}
use Rattle.dap_messages.specs.declared.report.Report.{Report}
use Rattle.vdaf_api.specs.Functions.{Functions, Parts}
use Rattle.dap_seal.specs.Reports.{honest_report, report_of}
use Rattle.dap_tasks.specs.Task.{PlainTask}
use Rattle.dap_model.specs.Step.{name_in, report_in}
use Rattle.dap_direct.proofs.ReportLemmas.{name_in-spell, report_in-spell}
use Rattle.dap_direct.specs.Honest.{AreBytesOf}

report_is : (a b : Report) → (let x : Option Report = Some a in x) ≡ Some b → a ≡ b
report_is a b e = cc

text_is : (a b : List ℕ) → (let x : Option (List ℕ) = Some a in x) ≡ Some b → a ≡ b
text_is a b e = cc

name_made : (f : Functions) (t : PlainTask) (id : List ℕ) (time : ℕ) (m seed : List ℕ) (r : Report) → honest_report f t id time m seed ≡ Some r → r.name ≡ t.name
name_made f t id time m seed r e = go (f.shard id m seed) e
  where
    go : (o : Option Parts) → option_map (report_of t id time) o ≡ Some r → r.name ≡ t.name
    go None e = absurd cc
    go (Some p) e = ap (λ (r : Report). r.name) (sym (report_is (report_of t id time p) r e))

-- bytes that are those of the honest report
pub made_bytes : (f : Functions) (t : PlainTask) (id : List ℕ) (time : ℕ) (m seed bytes : List ℕ)
    → option_map report.spell (honest_report f t id time m seed) ≡ Some bytes → IfSome (honest_report f t id time m seed) (λ r. IsTrue (report.allowed r))
    → AreBytesOf t.name (honest_report f t id time m seed) bytes
made_bytes f t id time m seed bytes e allowed = go (honest_report f t id time m seed) refl e
  where
    go : (o : Option Report) → honest_report f t id time m seed ≡ o → option_map report.spell o ≡ Some bytes → AreBytesOf t.name (honest_report f t id time m seed) bytes
    go None s e = absurd cc
    go (Some r) s e =
        let allowed : IsTrue (report.allowed r) = subst (λ (o : Option Report). IfSome o (λ r. IsTrue (report.allowed r))) s allowed in
        let is : report.spell r ≡ bytes = text_is (report.spell r) bytes e in
        record {
          made = r;
          is = s;
          read = ap report_in (sym is) ∙ report_in-spell r allowed;
          named = ap name_in (sym is) ∙ name_in-spell r allowed ∙ ap Some (name_made f t id time m seed r s);
        }
