-- The sums of a batch, and what its collection comes to.
use Rattle.std.proofs.Common.{◌≡◌, ℕ, ◌<◌, ◌≤◌, List, [], ◌∷◌, nat_le, not, Bool, cond, true, false, Option, Some, None, sym, ap, subst, ◌∙◌, arith}
use Rattle.std.proofs.lemmas.Bool.{le-leb, lt-leb}
use Rattle.std.specs.List.{find}
use Rattle.std.specs.Option.{option_map_or}
use Rattle.dap_bytes.specs.Spans.{passes_start}
use Rattle.dap_bytes.specs.declared.span.Span.{Span}
use Rattle.vdaf_api.specs.Functions.{Functions}
use Rattle.vdaf_api.specs.Vectors.{SpaceLaws}
use Rattle.vdaf_api.specs.declared.kind.Kind.{Kind}
use Rattle.dap_messages.specs.declared.report.Report.{Report}
use Rattle.dap_tasks.specs.Task.{PlainTask}
use Rattle.dap_tasks.specs.declared.cause.Cause.TheVariants as cause
use Rattle.dap_model.specs.State.{State, contents_in, earliest, is_collected, rejected_in, sharing, with_collected}
use Rattle.dap_model.specs.Step.{Outcome, collect_of, collection_of, refused, reports_with_content}
use Rattle.dap_model.specs.declared.printed.Printed.TheVariants.{Collected, Overlap, Small}
use Rattle.dap_direct.proofs.SumLemmas.{joins, joins_none}
use Rattle.dap_direct.specs.Sums.{AddsSums, AreSums, AreSumsOf, AreSumsOver, IsSummed, JoinsBucket, is_of, line_of}
use Rattle.dap_direct.specs.declared.sums.Sums.{Sums}

-- ---- a bucket more

module _ (f : Kind → Functions) (task : PlainTask) (start : ℕ) (accepted : List Report) (sums : List Sums) (summed : IsSummed f task accepted sums) where
  abbrev contents : List (List ℕ)
  contents = contents_in f task start accepted

  abbrev rejected : ℕ
  rejected = rejected_in f task start accepted

  -- what is found are the bucket's sums
  pub found_sums : (bucket : Sums) → Some bucket ≡ find (is_of task.name start) sums → AreSums (f task.kind) contents rejected bucket
  found_sums bucket e = subst (AreSumsOf (f task.kind) contents rejected) (sym e) (summed start)

  pub joins_found : SpaceLaws (f task.kind).space → (bucket old new : Sums) → Some bucket ≡ find (is_of task.name start) sums → AddsSums (f task.kind) bucket old new → JoinsBucket f task start accepted old new
  joins_found laws bucket old new e adds = λ before barred are. joins laws before contents barred rejected bucket old new are (found_sums bucket e) adds

  pub joins_missing : (old : Sums) → None ≡ find (is_of task.name start) sums → JoinsBucket f task start accepted old old
  joins_missing old e = λ before barred are. joins_none before contents barred rejected old (subst (AreSumsOf (f task.kind) contents rejected) (sym e) (summed start)) are

-- ---- a batch

module _ (f : Kind → Functions) (s : State) (k : ℕ) (span : Span) (task : PlainTask) (passes : passes_start span task.precision ≡ true) where
  -- a collection by its tests
  abbrev tested : Bool → Bool → Option Span → Bool → Outcome
  tested on was other enough =
      cond (not on) (refused s k cause.Start) (cond was (s, collection_of f s task span ∷ [])
      (option_map_or (λ o. (s, Overlap k o ∷ [])) other (cond enough (with_collected s task.name span, collection_of f s task span ∷ [])
      (s, Small task.name span (reports_with_content f s task span) ∷ []))))

  abbrev other : Option Span
  other = earliest (sharing task span s.collected)

  abbrev enough : Bool
  enough = nat_le task.min (reports_with_content f s task span)

  -- another batch shares a bucket
  pub is-overlap : (o : Span) → is_collected s.collected task.name span ≡ false → Some o ≡ other → (s, Overlap k o ∷ []) ≡ collect_of f s k span task
  is-overlap o open_ e = sym (λ i. tested (passes i) (open_ i) (sym e i) enough)

  module _ (sums : Sums) (h : AreSumsOver f task span s.accepted sums) where
    line-is : line_of (f task.kind) task.name span sums ≡ collection_of f s task span
    line-is =
        let answer = ap (f task.kind).answer h.sum in
        λ i. Collected task.name span (record { reports = h.counted i; rejected = h.barred i; answer = answer i })

    -- the batch was collected
    pub is-again : is_collected s.collected task.name span ≡ true → (s, line_of (f task.kind) task.name span sums ∷ []) ≡ collect_of f s k span task
    is-again was = ap (λ p. (s, p ∷ [])) line-is ∙ sym (λ i. tested (passes i) (was i) other enough)

    -- it has too few reports
    pub is-small : is_collected s.collected task.name span ≡ false → None ≡ other → sums.reports < task.min → (s, Small task.name span sums.reports ∷ []) ≡ collect_of f s k span task
    is-small open_ e few =
        ap (λ (n : ℕ). (s, Small task.name span n ∷ [])) h.counted
        ∙ sym (λ i. tested (passes i) (open_ i) (sym e i) (lt-leb task.min (reports_with_content f s task span) (omega (arith, few, h.counted)) i))

    -- it is collected
    pub is-full : is_collected s.collected task.name span ≡ false → None ≡ other → task.min ≤ sums.reports
        → (with_collected s task.name span, line_of (f task.kind) task.name span sums ∷ []) ≡ collect_of f s k span task
    is-full open_ e many =
        ap (λ p. (with_collected s task.name span, p ∷ [])) line-is
        ∙ sym (λ i. tested (passes i) (open_ i) (sym e i) (le-leb task.min (reports_with_content f s task span) (omega (arith, many, h.counted)) i))
