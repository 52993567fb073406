-- Which lines offer a report.
use Rattle.std.proofs.Common.{◌≡◌, ℕ, List, [], ◌∷◌, ◌++◌, filter_map, Option, Some, None, Result, Ok, Err, refl, sym, ap, ◌∙◌}
use Rattle.std.specs.List.{cons_option, find}
use Rattle.std.specs.Option.{option_and_then, option_map_or, option_to_list}
use Rattle.std.specs.Result.{result_ok}
use Rattle.vdaf_api.specs.Functions.{Functions}
use Rattle.vdaf_api.specs.declared.kind.Kind.{Kind}
use Rattle.dap_messages.specs.Grammar.{whole}
use Rattle.dap_messages.specs.Messages.{report}
use Rattle.dap_messages.specs.declared.report.Report.{Report}
use Rattle.dap_seal.specs.Reports.{honest_report}
use Rattle.dap_tasks.specs.Task.{PlainTask, has_name}
use Rattle.dap_tasks.specs.declared.cause.Cause.TheVariants as cause
use Rattle.dap_script.specs.declared.line.Line.{Line}
use Rattle.dap_script.specs.declared.line.Line.TheVariants as line
use Rattle.dap_model.proofs.NameLemmas.{name_in-report}
use Rattle.dap_model.proofs.UploadLaws.{first_cause, measure-first_cause}
use Rattle.dap_model.specs.Limits.{report_offered, reports_offered}
use Rattle.dap_model.specs.Offering.{Brings, CountsWhatIsJudged}
use Rattle.dap_model.specs.State.{State, task_named}
use Rattle.dap_model.specs.Step.{measure_of, name_in, offered, refused, report_in, upload_named, upload_to}
use Rattle.dap_model.proofs.ChangeLaws.{collect_accepts}

module _ (f : Kind → Functions) (s : State) (k : ℕ) where
  -- ---- measurements

  module _ (name id : List ℕ) (time : ℕ) (value seed : List ℕ) where
    abbrev made : PlainTask → Option Report
    made t = honest_report (f t.kind) t id time value seed

    measure_only : (r : Report) (o : Option PlainTask) → option_and_then made o ≡ Some r → (t : PlainTask) × ((o ≡ Some t) × (made t ≡ Some r))
    measure_only r None e = absurd cc
    measure_only r (Some t) e = (t, (refl, e))

    measure_nothing : (o : Option PlainTask) → option_and_then made o ≡ None → (option_map_or (measure_of f s k id time value seed) o (refused s k cause.Task)).0.accepted ≡ s.accepted
    measure_nothing None e = refl
    measure_nothing (Some t) e = ap (λ (o : Option Report). (option_map_or (offered s k t) o (refused s k cause.Value)).0.accepted) e

    measure_counts : CountsWhatIsJudged f s k (line.Measure name id time value seed)
    measure_counts = record {
      judged = λ t r b. (measure-first_cause f s k name id time value seed).else_offered t r b.0 b.1;
      counts = λ t r b. ap (option_and_then made) b.0 ∙ b.1;
      only = λ r e. measure_only r (find (has_name name) s.tasks) e;
      nothing = λ e. measure_nothing (find (has_name name) s.tasks) e;
    }

  -- ---- uploads

  module _ (bytes : List ℕ) where
    -- the report of the bytes, if the name is known
    abbrev for_name : Option PlainTask → Option Report
    for_name o = option_and_then (λ (t : PlainTask). report_in bytes) o

    abbrev for_bytes : Option (List ℕ) → Option Report
    for_bytes o = option_and_then (λ (name : List ℕ). for_name (task_named s.tasks name)) o

    read : (r : Report) (o : Result Report ℕ) → result_ok o ≡ Some r → o ≡ Ok r
    read r (Ok x) e = let same : x ≡ r = cc in ap Ok same
    read r (Err at) e = absurd cc

    upload_only : (r : Report) → for_bytes (name_in bytes) ≡ Some r → (t : PlainTask) × Brings f s.tasks (line.Upload bytes) t r
    upload_only r e = named (name_in bytes) refl e
      where
        found : (name : List ℕ) → name_in bytes ≡ Some name → (o : Option PlainTask) → find (has_name name) s.tasks ≡ o → for_name o ≡ Some r
            → (t : PlainTask) × Brings f s.tasks (line.Upload bytes) t r
        found name own None known h = absurd cc
        found name own (Some t) known h =
            let is : whole report bytes ≡ Ok r = read r (whole report bytes) h in
            let both : Some r.name ≡ Some name = sym (name_in-report bytes r is) ∙ own in
            let same : r.name ≡ name = cc in
            (t, (ap (λ (n : List ℕ). find (has_name n) s.tasks) same ∙ known, is))

        named : (o : Option (List ℕ)) → name_in bytes ≡ o → for_bytes o ≡ Some r → (t : PlainTask) × Brings f s.tasks (line.Upload bytes) t r
        named None own h = absurd cc
        named (Some name) own h = found name own (find (has_name name) s.tasks) refl h

    upload_nothing : (o : Option (List ℕ)) → for_bytes o ≡ None → (option_map_or (upload_named s k bytes) o (refused s k cause.Form)).0.accepted ≡ s.accepted
    upload_nothing None e = refl
    upload_nothing (Some name) e = found (find (has_name name) s.tasks) e
      where
        found : (o : Option PlainTask) → for_name o ≡ None → (option_map_or (upload_to s k bytes) o (refused s k cause.Task)).0.accepted ≡ s.accepted
        found None h = refl
        found (Some t) h = ap (λ (o : Option Report). (option_map_or (offered s k t) o (refused s k cause.Form)).0.accepted) h

    upload_counts : CountsWhatIsJudged f s k (line.Upload bytes)
    upload_counts = record {
      judged = λ t r b. (first_cause s k bytes).else_offered r t b.1 b.0;
      counts = λ t r b. ap for_bytes (name_in-report bytes r b.1) ∙ ap for_name b.0 ∙ ap result_ok b.1;
      only = λ r e. upload_only r e;
      nothing = λ e. upload_nothing (name_in bytes) e;
    }

  pub counts-judged : (l : Line) → CountsWhatIsJudged f s k l
  counts-judged (line.Measure name id time value seed) = measure_counts name id time value seed
  counts-judged (line.Upload bytes) = upload_counts bytes
  counts-judged line.Blank = record { judged = λ t r b. absurd b; counts = λ t r b. absurd b; only = λ r e. absurd cc; nothing = λ e. refl }
  counts-judged (line.Task name kind min precision expires) = record { judged = λ t r b. absurd b; counts = λ t r b. absurd b; only = λ r e. absurd cc; nothing = λ e. refl }
  counts-judged (line.Now moment) = record { judged = λ t r b. absurd b; counts = λ t r b. absurd b; only = λ r e. absurd cc; nothing = λ e. refl }
  counts-judged (line.Collect name span) = record { judged = λ t r b. absurd b; counts = λ t r b. absurd b; only = λ r e. absurd cc; nothing = λ e. collect_accepts f s k name span }
  counts-judged (line.Restart node) = record { judged = λ t r b. absurd b; counts = λ t r b. absurd b; only = λ r e. absurd cc; nothing = λ e. refl }

pub offered-in_order : (f : Kind → Functions) (tasks : List PlainTask) (lines : List Line) → reports_offered f tasks lines ≡ filter_map (report_offered f tasks) lines
offered-in_order f tasks [] = refl
offered-in_order f tasks (l ∷ more) = go (report_offered f tasks l) (offered-in_order f tasks more)
  where
    go : (o : Option Report) → reports_offered f tasks more ≡ filter_map (report_offered f tasks) more
        → option_to_list o ++ reports_offered f tasks more ≡ cons_option o (filter_map (report_offered f tasks) more)
    go None h = h
    go (Some r) h = ap (λ c. r ∷ c) h
