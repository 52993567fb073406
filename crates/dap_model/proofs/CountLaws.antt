-- What a collection prints, in the measurements of the lines before it.
use Rattle.std.proofs.Common.{◌≡◌, ℕ, ◌+◌, List, [], ◌∷◌, ◌++◌, append_assoc, length, Bool, cond, true, false, ◌&&◌, nat_eq, nat_le, count_by, length-append, zero-add, is_none, Option, Some, refl, sym, ap, subst, ◌∙◌, if◌then◌else◌, None, arith}
use Rattle.std.proofs.lemmas.List.Sums.{sum_by-cons}
use Rattle.std.proofs.lemmas.Slice.Eq.{bytes_eq-Decides}
use Rattle.std.specs.List.{find, list_any, flat_map, sum_by}
use Rattle.std.specs.Option.{option_map, option_map_or, option_to_list}
use Rattle.std.specs.Str.{bytes_eq}
use Rattle.vdaf_api.specs.Functions.{Functions}
use Rattle.dap_messages.specs.declared.report.Report.{Report}
use Rattle.dap_seal.specs.Reports.{report_of}
use Rattle.dap_seal.proofs.Honest.{honest-counted}
use Rattle.dap_batch.specs.Group.{batch_start}
use Rattle.vdaf_api.specs.Kind.{IsKind}
use Rattle.vdaf_api.specs.Promises.{FunctionLaws}
use Rattle.vdaf_api.specs.Totals.{total_numbers}
use Rattle.vdaf_api.specs.declared.kind.Kind.{Kind}
use Rattle.dap_tasks.specs.Task.{PlainTask, has_name}
use Rattle.dap_tasks.specs.declared.cause.Cause.TheVariants as cause
use Rattle.dap_script.specs.declared.line.Line.{Line}
use Rattle.dap_script.specs.declared.line.Line.TheVariants as line
use Rattle.dap_model.specs.Counts.{AreTaken, IsTaken, collects, counted_line, falls_in, measured, vectors_in, bucket_behind, contents_behind}
use Rattle.dap_model.specs.Run.{state_after}
use Rattle.dap_model.specs.State.{State, content_of, contents_in, in_bucket, is_collected, rejected_in, batch_contents, batch_rejected, earliest, sharing, shares_with}
use Rattle.dap_model.specs.Step.{collect_of, refused, step, collection_of, reports_with_content}
use Rattle.dap_model.specs.declared.printed.Printed.TheVariants.{Collected, Small}
use Rattle.dap_model.proofs.ChangeLaws.{found_name}
use Rattle.dap_model.proofs.TakenLaws.{Stands, made_is, opening_stands, reports_of, run_stands}
use Rattle.dap_bytes.specs.Spans.{HasBuckets, buckets_of, passes_start}
use Rattle.dap_bytes.specs.declared.span.Span.{Span}
use Rattle.std.proofs.lemmas.Bool.{and_from, both_ways, or_left}
use Rattle.dap_model.proofs.ListLemmas.{any_from}
use Rattle.dap_model.proofs.OfferLaws.{collected_not}
use Rattle.dap_model.specs.BatchLaws.{holds-start}
use Rattle.dap_model.proofs.CollectLaws.{none-overlap, tests}

abbrev one_if : Bool → ℕ
one_if b = cond b 1 0

first_true : (a b : Bool) → (a && b) ≡ true → a ≡ true
first_true true b e = refl
first_true false b e = cc e

count_by-cons : (task : PlainTask) (start : ℕ) (l : Line) (more : List Line) → count_by (falls_in task start) (l ∷ more) ≡ one_if (falls_in task start l) + count_by (falls_in task start) more
count_by-cons task start l more = sum_by-cons (λ x. cond (falls_in task start x) 1 0) l more

module _ (f : Kind → Functions) (opened : State) where
  abbrev tasks : List PlainTask
  tasks = opened.tasks

  -- what a report adds to the contents and to the rejected ones, and what its line adds to the vectors
  record Head (task : PlainTask) (start : ℕ) (a : Report) (l : Line) : Type 0 where
    contents : cond (in_bucket task start a) (option_to_list (content_of f task a)) [] ≡ cond (falls_in task start l) (option_to_list (measured (f task.kind) l)) []
    rejected : one_if (in_bucket task start a && is_none (content_of f task a)) ≡ 0
    reports : length (cond (falls_in task start l) (option_to_list (measured (f task.kind) l)) []) ≡ one_if (falls_in task start l)

  head_is : ((k : Kind) → IsKind k → FunctionLaws (f k)) → (task : PlainTask) → find (has_name task.name) tasks ≡ Some task → (start : ℕ)
      (done : List Line) (name id : List ℕ) (time : ℕ) (value seed : List ℕ) (t : IsTaken f opened done name id time value seed)
      → Head task start (report_of t.task id time t.shares) (line.Measure name id time value seed)
  head_is laws task known start done name id time value seed t = go (falls_in task start (line.Measure name id time value seed)) refl
    where
      inside : in_bucket task start (report_of t.task id time t.shares) ≡ falls_in task start (line.Measure name id time value seed)
      inside = ap (λ (n : List ℕ). bytes_eq n task.name && nat_eq (batch_start time task.precision) start) (found_name name tasks t.task t.known)

      go : (b : Bool) → falls_in task start (line.Measure name id time value seed) ≡ b → Head task start (report_of t.task id time t.shares) (line.Measure name id time value seed)
      go true e =
          let own : bytes_eq name task.name ≡ true = first_true (bytes_eq name task.name) (nat_eq (batch_start time task.precision) start) e in
          let both : Some t.task ≡ Some task = sym t.known ∙ ap (λ (n : List ℕ). find (has_name n) tasks) ((bytes_eq-Decides name task.name).0 own) ∙ known in
          let same : t.task ≡ task = cc in
          let a : Report = report_of t.task id time t.shares in
          let g = laws t.task.kind t.kind in
          let vector : content_of f t.task a ≡ (f t.task.kind).encoding value =
          honest-counted g t.task id time value seed a t.key_bytes t.id_bytes t.seed_bytes (ap (option_map (report_of t.task id time)) t.shared) t.fair in
          let some = g.measured id value seed t.shares t.id_bytes t.seed_bytes t.shared in
          let here : content_of f task a ≡ (f task.kind).encoding value = subst (λ (p : PlainTask). content_of f p a ≡ (f p.kind).encoding value) same vector in
          let there : (f task.kind).encoding value ≡ Some some.0 = subst (λ (p : PlainTask). (f p.kind).encoding value ≡ Some some.0) same some.1 in
          record {
            contents = ap (λ b. cond b (option_to_list (content_of f task a)) []) (inside ∙ e) ∙ ap option_to_list here
                ∙ sym (ap (λ b. cond b (option_to_list ((f task.kind).encoding value)) []) e);
            rejected = ap (λ b. one_if (b && is_none (content_of f task a))) (inside ∙ e) ∙ ap (λ (o : Option (List ℕ)). one_if (is_none o)) (here ∙ there);
            reports = ap (λ b. length (cond b (option_to_list ((f task.kind).encoding value)) [])) e ∙ ap (λ (o : Option (List ℕ)). length (option_to_list o)) there ∙ sym (ap one_if e);
          }
      go false e =
          let a : Report = report_of t.task id time t.shares in
          record {
            contents = ap (λ b. cond b (option_to_list (content_of f task a)) []) (inside ∙ e)
                ∙ sym (ap (λ b. cond b (option_to_list ((f task.kind).encoding value)) []) e);
            rejected = ap (λ b. one_if (b && is_none (content_of f task a))) (inside ∙ e);
            reports = ap (λ b. length (cond b (option_to_list ((f task.kind).encoding value)) [])) e ∙ sym (ap one_if e);
          }

  contents_in-append : (task : PlainTask) (start : ℕ) (a b : List Report) → contents_in f task start (a ++ b) ≡ contents_in f task start a ++ contents_in f task start b
  contents_in-append task start [] b = refl
  contents_in-append task start (r ∷ more) b =
      let own : List (List ℕ) = cond (in_bucket task start r) (option_to_list (content_of f task r)) [] in
      ap (λ c. own ++ c) (contents_in-append task start more b) ∙ sym (append_assoc own (contents_in f task start more) (contents_in f task start b))

  rejected_in-append : (task : PlainTask) (start : ℕ) (a b : List Report) → rejected_in f task start (a ++ b) ≡ rejected_in f task start a + rejected_in f task start b
  rejected_in-append task start [] b = sym (zero-add (rejected_in f task start b))
  rejected_in-append task start (r ∷ more) b =
      let own : ℕ = one_if (in_bucket task start r && is_none (content_of f task r)) in
      ap (λ (n : ℕ). own + n) (rejected_in-append task start more b) ∙ omega arith

  record Same (task : PlainTask) (start : ℕ) (lines : List Line) : Type 0 where
    contents : contents_in f task start (reports_of f opened lines) ≡ vectors_in (f task.kind) task start lines
    rejected : rejected_in f task start (reports_of f opened lines) ≡ 0
    reports : length (vectors_in (f task.kind) task start lines) ≡ count_by (falls_in task start) lines

  contents_are : ((k : Kind) → IsKind k → FunctionLaws (f k)) → (task : PlainTask) → find (has_name task.name) tasks ≡ Some task → (start : ℕ)
      (done lines : List Line) → AreTaken f opened done lines → Same task start lines
  contents_are laws task known start done [] t = record { contents = refl; rejected = refl; reports = refl }
  contents_are laws task known start done (line.Measure name id time value seed ∷ more) t =
      let l : Line = line.Measure name id time value seed in
      let a : Report = report_of t.0.task id time t.0.shares in
      let head : Head task start a l = head_is laws task known start done name id time value seed t.0 in
      let rest : Same task start more = contents_are laws task known start (done ++ l ∷ []) more t.1 in
      let made : reports_of f opened (l ∷ more) ≡ a ∷ reports_of f opened more = ap (λ r. r ++ reports_of f opened more) (made_is f opened done name id time value seed t.0) in
      record {
        contents = ap (contents_in f task start) made
            ∙ ap (λ c. c ++ contents_in f task start (reports_of f opened more)) head.contents
            ∙ ap (λ c. cond (falls_in task start l) (option_to_list (measured (f task.kind) l)) [] ++ c) rest.contents;
        rejected = ap (rejected_in f task start) made
            ∙ ap (λ (n : ℕ). n + rejected_in f task start (reports_of f opened more)) head.rejected ∙ ap (λ (n : ℕ). 0 + n) rest.rejected;
        reports = length-append (cond (falls_in task start l) (option_to_list (measured (f task.kind) l)) []) (vectors_in (f task.kind) task start more)
            ∙ ap (λ (n : ℕ). n + length (vectors_in (f task.kind) task start more)) head.reports ∙ ap (λ (n : ℕ). one_if (falls_in task start l) + n) rest.reports
            ∙ sym (count_by-cons task start l more);
      }
  contents_are laws task known start done (line.Blank ∷ more) t =
      let rest = contents_are laws task known start (done ++ line.Blank ∷ []) more t.1 in
      record { contents = rest.contents; rejected = rest.rejected; reports = rest.reports ∙ sym (count_by-cons task start (line.Blank) more ∙ zero-add (count_by (falls_in task start) more)) }
  contents_are laws task known start done (line.Task name kind min precision expires ∷ more) t =
      let rest = contents_are laws task known start (done ++ line.Task name kind min precision expires ∷ []) more t.1 in
      record { contents = rest.contents; rejected = rest.rejected; reports = rest.reports ∙ sym (count_by-cons task start (line.Task name kind min precision expires) more ∙ zero-add (count_by (falls_in task start) more)) }
  contents_are laws task known start done (line.Now moment ∷ more) t =
      let rest = contents_are laws task known start (done ++ line.Now moment ∷ []) more t.1 in
      record { contents = rest.contents; rejected = rest.rejected; reports = rest.reports ∙ sym (count_by-cons task start (line.Now moment) more ∙ zero-add (count_by (falls_in task start) more)) }
  contents_are laws task known start done (line.Upload bytes ∷ more) t = absurd t.0
  contents_are laws task known start done (line.Collect name span ∷ more) t =
      let rest = contents_are laws task known start (done ++ line.Collect name span ∷ []) more t.1 in
      record { contents = rest.contents; rejected = rest.rejected; reports = rest.reports ∙ sym (count_by-cons task start (line.Collect name span) more ∙ zero-add (count_by (falls_in task start) more)) }
  contents_are laws task known start done (line.Restart node ∷ more) t =
      let rest = contents_are laws task known start (done ++ line.Restart node ∷ []) more t.1 in
      record { contents = rest.contents; rejected = rest.rejected; reports = rest.reports ∙ sym (count_by-cons task start (line.Restart node) more ∙ zero-add (count_by (falls_in task start) more)) }

  -- likewise one bucket after the other, behind the reports that were accepted before
  record AllSame (task : PlainTask) (lines : List Line) (starts : List ℕ) : Type 0 where
    contents : flat_map (λ start. contents_in f task start (opened.accepted ++ reports_of f opened lines)) starts ≡ flat_map (bucket_behind f task opened lines) starts
    rejected : sum_by (λ start. rejected_in f task start (opened.accepted ++ reports_of f opened lines)) starts ≡ sum_by (λ start. rejected_in f task start opened.accepted) starts
    reports : length (flat_map (bucket_behind f task opened lines) starts)
        ≡ length (flat_map (λ start. contents_in f task start opened.accepted) starts) + sum_by (λ start. count_by (falls_in task start) lines) starts

  all_same : (task : PlainTask) (lines : List Line) → ((start : ℕ) → Same task start lines) → (starts : List ℕ) → AllSame task lines starts
  all_same task lines each [] = record { contents = refl; rejected = refl; reports = refl }
  all_same task lines each (start ∷ more) =
      let one : Same task start lines = each start in
      let rest : AllSame task lines more = all_same task lines each more in
      let made : List Report = reports_of f opened lines in
      let before : ℕ → List (List ℕ) = λ start. contents_in f task start opened.accepted in
      let behind : ℕ → List (List ℕ) = bucket_behind f task opened lines in
      record {
        contents = ap (λ l. l ++ flat_map (λ start. contents_in f task start (opened.accepted ++ made)) more)
            (contents_in-append task start opened.accepted made ∙ ap (λ c. before start ++ c) one.contents)
            ∙ ap (λ l. behind start ++ l) rest.contents;
        rejected = omega (
          arith,
          one.rejected,
          rest.rejected,
          rejected_in-append task start opened.accepted made,
          sum_by-cons (λ start. rejected_in f task start (opened.accepted ++ made)) start more,
          sum_by-cons (λ start. rejected_in f task start opened.accepted) start more,
        );
        reports = omega (
          arith,
          one.reports,
          rest.reports,
          sum_by-cons (λ start. count_by (falls_in task start) lines) start more,
          length-append (before start) (vectors_in (f task.kind) task start lines),
          length-append (behind start) (flat_map behind more),
          length-append (before start) (flat_map before more),
        );
      }

  -- a batch shares a bucket with itself
  shares-itself : (task : PlainTask) (span : Span) → HasBuckets span → shares_with task span (record { task = task.name; span = span }) ≡ true
  shares-itself task span some =
      and_from _ _ ((bytes_eq-Decides task.name task.name).1 refl) (or_left _ _ (holds-start span task.precision some.0))

  pub batch_is_counted : ((k : Kind) → IsKind k → FunctionLaws (f k)) → (task : PlainTask) → find (has_name task.name) tasks ≡ Some task → (span : Span) (k : ℕ) (lines : List Line)
      → HasBuckets span → passes_start span task.precision ≡ true → AreTaken f opened [] lines
      → list_any (shares_with task span) opened.collected ≡ false → list_any (collects (shares_with task span)) lines ≡ false
      → (step f (state_after f opened 1 lines) k (line.Collect task.name span)).1 ≡ counted_line f task span opened lines ∷ []
  batch_is_counted laws task known span k lines some passes taken before open_ =
      let s : State = state_after f opened 1 lines in
      let h : Stands f opened lines s = run_stands f opened [] opened 1 lines (opening_stands f opened) taken in
      let starts : List ℕ = buckets_of span task.precision in
      let same : AllSame task lines starts = all_same task lines (λ start. contents_are laws task known start [] lines taken) starts in
      let g : Functions = f task.kind in
      let found : find (has_name task.name) s.tasks ≡ Some task = ap (find (has_name task.name)) h.known ∙ known in
      let all : List (List ℕ) = contents_behind f task span opened lines in
      let contents : batch_contents f task span s.accepted ≡ all = ap (batch_contents f task span) h.accepted ∙ same.contents in
      let rejected : batch_rejected f task span s.accepted ≡ batch_rejected f task span opened.accepted = ap (batch_rejected f task span) h.accepted ∙ same.rejected in
      let apart : list_any (shares_with task span) s.collected ≡ false = h.collected (shares_with task span) before open_ in
      let was : is_collected s.collected task.name span ≡ false = collected_not s.collected task.name span (λ c.
      both_ways (list_any (shares_with task span) s.collected) apart (any_from (shares_with task span) s.collected (record { task = task.name; span = span }) c (shares-itself task span some))) in
      let other : earliest (sharing task span s.collected) ≡ None = none-overlap s task span (λ o over.
      both_ways (list_any (shares_with task span) s.collected) apart
      (any_from (shares_with task span) s.collected (record { task = task.name; span = o }) over.collected (and_from _ _ ((bytes_eq-Decides task.name task.name).1 refl) over.shared))) in
      ap (λ (o : Option PlainTask). (option_map_or (collect_of f s k span) o (refused s k cause.Task)).1) found
      ∙ (λ i. (tests f s k span task (passes i) (was i) (other i) (nat_le task.min (reports_with_content f s task span))).1)
      ∙ tell s task span k (nat_le task.min (reports_with_content f s task span))
      ∙ ap (λ c. cond (nat_le task.min (length c))
      (Collected task.name span (record { reports = length c; rejected = batch_rejected f task span s.accepted; answer = g.answer (total_numbers g.space c) }))
      (Small task.name span (length c)) ∷ []) contents
      ∙ ap (λ (r : ℕ). cond (nat_le task.min (length all))
      (Collected task.name span (record { reports = length all; rejected = r; answer = g.answer (total_numbers g.space all) }))
      (Small task.name span (length all)) ∷ []) rejected
      ∙ ap (λ (n : ℕ). cond (nat_le task.min n)
      (Collected task.name span (record { reports = n; rejected = batch_rejected f task span opened.accepted; answer = g.answer (total_numbers g.space all) }))
      (Small task.name span n) ∷ []) same.reports
    where
      tell : (s : State) (task : PlainTask) (span : Span) (k : ℕ) (enough : Bool)
          → (tests f s k span task true false None enough).1 ≡ cond enough (collection_of f s task span) (Small task.name span (reports_with_content f s task span)) ∷ []
      tell s task span k true = refl
      tell s task span k false = refl
