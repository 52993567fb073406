-- Over lines a state only grows.
use Rattle.std.proofs.Common.{◌≡◌, ℕ, ◌+◌, List, [], ◌∷◌, ◌++◌, max, Option, refl, sym, ap, subst, ◌∙◌, inl, inr, arith, append-nil, append_assoc}
use Rattle.vdaf_api.specs.Functions.{Functions}
use Rattle.vdaf_api.specs.declared.kind.Kind.{Kind}
use Rattle.dap_messages.specs.declared.report.Report.{Report}
use Rattle.dap_script.specs.declared.line.Line.{Line}
use Rattle.dap_script.specs.declared.line.Line.TheVariants as line
use Rattle.dap_model.proofs.ChangeLaws.{changes_named}
use Rattle.dap_model.specs.Changes.{ChangesNamed}
use Rattle.dap_model.specs.Growth.{GrowsTo}
use Rattle.dap_model.specs.Run.{state_after}
use Rattle.dap_model.specs.State.{Batch, State, with_collected}
use Rattle.dap_model.specs.Step.{raised, step}
use Rattle.dap_bytes.specs.declared.span.Span.{Span}

grows_same : (s : State) → GrowsTo s s
grows_same s = record {
  tasks = refl;
  moment = λ m e. (m, e, omega arith);
  reports_behind = [];
  accepted = sym (append-nil s.accepted);
  batches_behind = [];
  collected = sym (append-nil s.collected);
}

grows_then : (a b c : State) → GrowsTo a b → GrowsTo b c → GrowsTo a c
grows_then a b c g h = record {
  tasks = h.tasks ∙ g.tasks;
  moment = λ m e.
      let first = g.moment m e in
      let later = h.moment first.0 first.1 in
      (later.0, later.1, omega (arith, first.2, later.2));
  reports_behind = g.reports_behind ++ h.reports_behind;
  accepted = h.accepted ∙ ap (λ (x : List Report). x ++ h.reports_behind) g.accepted
      ∙ append_assoc a.accepted g.reports_behind h.reports_behind;
  batches_behind = g.batches_behind ++ h.batches_behind;
  collected = h.collected ∙ ap (λ (x : List Batch). x ++ h.batches_behind) g.collected
      ∙ append_assoc a.collected g.batches_behind h.batches_behind;
}

grows_by_report : (s : State) (r : Report) → GrowsTo s (record s { accepted = s.accepted ++ r ∷ [] })
grows_by_report s r = record {
  tasks = refl;
  moment = λ m e. (m, e, omega arith);
  reports_behind = r ∷ [];
  accepted = refl;
  batches_behind = [];
  collected = sym (append-nil s.collected);
}

grows_by_batch : (s : State) (name : List ℕ) (span : Span) → GrowsTo s (with_collected s name span)
grows_by_batch s name span = record {
  tasks = refl;
  moment = λ m e. (m, e, omega arith);
  reports_behind = [];
  accepted = sym (append-nil s.accepted);
  batches_behind = record { task = name; span = span } ∷ [];
  collected = refl;
}

grows_by_moment : (s : State) (t : ℕ) → GrowsTo s (record s { moment = raised s.moment t })
grows_by_moment s t = record {
  tasks = refl;
  moment = λ m e. (max t m, ap (λ (o : Option ℕ). raised o t) e, omega arith);
  reports_behind = [];
  accepted = sym (append-nil s.accepted);
  batches_behind = [];
  collected = sym (append-nil s.collected);
}

grows_to : (s a b : State) → b ≡ a → GrowsTo s a → GrowsTo s b
grows_to s a b e g = subst (GrowsTo s) (sym e) g

grows_by : (s after : State) (l : Line) → ChangesNamed s after l → GrowsTo s after
grows_by s after line.Blank e = grows_to s s after e (grows_same s)
grows_by s after (line.Task name kind min precision expires) e = grows_to s s after e (grows_same s)
grows_by s after (line.Now t) e = grows_to s (record s { moment = raised s.moment t }) after e (grows_by_moment s t)
grows_by s after (line.Measure name id time value seed) (inl e) = grows_to s s after e (grows_same s)
grows_by s after (line.Measure name id time value seed) (inr h) =
    grows_to s (record s { accepted = s.accepted ++ h.report ∷ [] }) after h.grown (grows_by_report s h.report)
grows_by s after (line.Upload bytes) (inl e) = grows_to s s after e (grows_same s)
grows_by s after (line.Upload bytes) (inr h) =
    grows_to s (record s { accepted = s.accepted ++ h.report ∷ [] }) after h.grown (grows_by_report s h.report)
grows_by s after (line.Collect name span) (inl e) = grows_to s s after e (grows_same s)
grows_by s after (line.Collect name span) (inr e) = grows_to s (with_collected s name span) after e (grows_by_batch s name span)
grows_by s after (line.Restart node) e = grows_to s s after e (grows_same s)

pub grows_over : (f : Kind → Functions) (s : State) (k : ℕ) (lines : List Line) → GrowsTo s (state_after f s k lines)
grows_over f s k [] = grows_same s
grows_over f s k (l ∷ more) =
    let after : State = (step f s k l).0 in
    grows_then s after (state_after f after (k + 1) more) (grows_by s after l (changes_named f s k l)) (grows_over f after (k + 1) more)

pub grows_behind : (f : Kind → Functions) (s : State) (k : ℕ) (first rest : List Line)
    → GrowsTo (state_after f s k first) (state_after f s k (first ++ rest))
grows_behind f s k [] rest = grows_over f s k rest
grows_behind f s k (l ∷ more) rest = grows_behind f (step f s k l).0 (k + 1) more rest
