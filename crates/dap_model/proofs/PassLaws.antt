-- Where the limits of a run are passed.
use Rattle.std.proofs.Common.{◌≡◌, ℕ, ◌+◌, ◌<◌, ◌≤◌, List, [], ◌∷◌, ◌++◌, length, take, Bool, cond, true, false, nat_lt, Option, Some, None, refl, sym, ap, subst, ◌∙◌, inl, inr, arith, append-nil, append_assoc}
use Rattle.std.proofs.Math.Seq.{take-append_seam, take-length}
use Rattle.std.proofs.lemmas.Bool.{cases_lt, le-ltb, ltb-false, ltb-true}
use Rattle.std.proofs.lemmas.List.{length-append}
use Rattle.std.proofs.lemmas.List.Sums.{sum-map, sum_by-append}
use Rattle.std.specs.List.{sum_by}
use Rattle.std.specs.Option.{option_map_or, option_to_list}
use Rattle.vdaf_api.specs.Functions.{Functions}
use Rattle.vdaf_api.specs.declared.kind.Kind.{Kind}
use Rattle.dap_messages.specs.Messages.{report}
use Rattle.dap_messages.specs.declared.report.Report.{Report}
use Rattle.dap_tasks.specs.Task.{PlainTask}
use Rattle.dap_script.specs.declared.line.Line.{Line}
use Rattle.dap_model.specs.Limits.{Passed, bytes_in, limit_passed, passed_after, report_offered, reports_offered}
use Rattle.dap_model.specs.Passes.{AreWithin, IsExact, Pass}
use Rattle.dap_model.specs.Run.{opening_of}
use Rattle.dap_model.specs.State.{State}
use Rattle.dap_model.specs.declared.limits.Limits.{Limits}

-- ---- one list of reports

bytes_in-append : (a b : List Report) → bytes_in (a ++ b) ≡ bytes_in a + bytes_in b
bytes_in-append a b =
    let size : Report → ℕ = λ r. length (report.spell r) in
    sum-map size (a ++ b) ∙ sum_by-append size a b ∙ sym (ap (λ (n : ℕ). n + bytes_in b) (sum-map size a) ∙ ap (λ (n : ℕ). sum_by size a + n) (sum-map size b))

module _ (limits : Limits) where
  within_front : (a b : List Report) → AreWithin limits (a ++ b) → AreWithin limits a
  within_front a b w = record { few = omega (arith, w.few, length-append a b); small = omega (arith, w.small, bytes_in-append a b) }

  unpassed : (reports : List Report) → AreWithin limits reports → limit_passed limits reports ≡ None
  unpassed reports w = rw (le-ltb limits.reports (length reports) w.few, le-ltb limits.bytes (bytes_in reports) w.small) refl

  passes : (reports : List Report) (limit : ℕ) → limit_passed limits reports ≡ Some limit → Pass limits reports limit
  passes reports limit e = go (nat_lt limits.reports (length reports)) refl (nat_lt limits.bytes (bytes_in reports)) refl e
    where
      go : (a : Bool) → nat_lt limits.reports (length reports) ≡ a → (b : Bool) → nat_lt limits.bytes (bytes_in reports) ≡ b
          → cond a (Some 2) (cond b (Some 3) None) ≡ Some limit → Pass limits reports limit
      go true many b big h = inl (cc, ltb-true limits.reports (length reports) many)
      go false few true big h = inr (cc, ltb-false limits.reports (length reports) few, ltb-true limits.bytes (bytes_in reports) big)
      go false few false small h = absurd cc

  within : (reports : List Report) → limit_passed limits reports ≡ None → AreWithin limits reports
  within reports e = go (nat_lt limits.reports (length reports)) refl (nat_lt limits.bytes (bytes_in reports)) refl e
    where
      go : (a : Bool) → nat_lt limits.reports (length reports) ≡ a → (b : Bool) → nat_lt limits.bytes (bytes_in reports) ≡ b
          → (let passed : Option ℕ = cond a (Some 2) (cond b (Some 3) None) in passed) ≡ None → AreWithin limits reports
      go true many b big h = absurd cc
      go false few true big h = absurd cc
      go false few false small h = record { few = ltb-false limits.reports (length reports) few; small = ltb-false limits.bytes (bytes_in reports) small }

-- ---- line by line

module _ (f : Kind → Functions) (limits : Limits) (tasks : List PlainTask) where
  abbrev offers : List Line → List Report
  offers lines = reports_offered f tasks lines

  pub offers-append : (a b : List Line) → offers (a ++ b) ≡ offers a ++ offers b
  offers-append [] b = refl
  offers-append (l ∷ more) b =
      ap (λ r. option_to_list (report_offered f tasks l) ++ r) (offers-append more b)
      ∙ sym (append_assoc (option_to_list (report_offered f tasks l)) (offers more) (offers b))

  -- what is told of the first line of more with which a limit is passed, by what is passed with their first
  abbrev told : ℕ → Option ℕ → Option Passed → Option Passed
  told n passed later = option_map_or (λ limit. Some (record { line = n; limit = limit })) passed later

  none_passed : (done more : List Line) → AreWithin limits (offers (done ++ more)) → passed_after f limits tasks done more ≡ None
  none_passed done [] w = refl
  none_passed done (l ∷ more) w =
      let lines : List Line = done ++ l ∷ [] in
      let all : AreWithin limits (offers (lines ++ more)) = subst (λ (x : List Line). AreWithin limits (offers x)) (sym (append_assoc done (l ∷ []) more)) w in
      let here : AreWithin limits (offers lines) = within_front limits (offers lines) (offers more) (subst (AreWithin limits) (offers-append lines more) all) in
      ap (λ o. told (length lines) o (passed_after f limits tasks lines more)) (unpassed limits (offers lines) here) ∙ none_passed lines more all

  all_within : (done more : List Line) → AreWithin limits (offers done) → passed_after f limits tasks done more ≡ None → AreWithin limits (offers (done ++ more))
  all_within done [] w e = subst (λ (x : List Line). AreWithin limits (offers x)) (sym (append-nil done)) w
  all_within done (l ∷ more) w e = go (λ here later. all_within (done ++ l ∷ []) more here later) (limit_passed limits (offers (done ++ l ∷ []))) refl e
    where
      Later : Type 0
      Later = AreWithin limits (offers (done ++ l ∷ [])) → passed_after f limits tasks (done ++ l ∷ []) more ≡ None → AreWithin limits (offers ((done ++ l ∷ []) ++ more))

      go : Later → (o : Option ℕ) → limit_passed limits (offers (done ++ l ∷ [])) ≡ o → told (length (done ++ l ∷ [])) o (passed_after f limits tasks (done ++ l ∷ []) more) ≡ None
          → AreWithin limits (offers (done ++ l ∷ more))
      go later None is h =
          subst (λ (x : List Line). AreWithin limits (offers x)) (append_assoc done (l ∷ []) more)
          (later (within limits (offers (done ++ l ∷ [])) is) h)
      go later (Some limit) is h = absurd cc

  record First (lines : List Line) (p : Passed) : Type 0 where
    in_script : p.line ≤ length lines
    before : (n : ℕ) → n < p.line → AreWithin limits (offers (take n lines))
    passed : Pass limits (offers (take p.line lines)) p.limit

  first_passed : (done more : List Line) (p : Passed) → ((n : ℕ) → n ≤ length done → AreWithin limits (offers (take n (done ++ more))))
      → passed_after f limits tasks done more ≡ Some p → First (done ++ more) p
  first_passed done [] p w e = absurd cc
  first_passed done (l ∷ more) p w e = go (λ still later. first_passed (done ++ l ∷ []) more p still later) (limit_passed limits (offers (done ++ l ∷ []))) refl e
    where
      Still : Type 0
      Still = (n : ℕ) → n ≤ length (done ++ l ∷ []) → AreWithin limits (offers (take n ((done ++ l ∷ []) ++ more)))

      long : length (done ++ l ∷ []) ≡ length done + 1
      long = length-append done (l ∷ [])

      same : (done ++ l ∷ []) ++ more ≡ done ++ l ∷ more
      same = append_assoc done (l ∷ []) more

      cut : take (length (done ++ l ∷ [])) (done ++ l ∷ more) ≡ done ++ l ∷ []
      cut = ap (take (length (done ++ l ∷ []))) (sym same) ∙ take-append_seam (done ++ l ∷ []) more

      go : (Still → passed_after f limits tasks (done ++ l ∷ []) more ≡ Some p → First ((done ++ l ∷ []) ++ more) p)
          → (o : Option ℕ) → limit_passed limits (offers (done ++ l ∷ [])) ≡ o → told (length (done ++ l ∷ [])) o (passed_after f limits tasks (done ++ l ∷ []) more) ≡ Some p
          → First (done ++ l ∷ more) p
      go later (Some limit) is h =
          let here : First (done ++ l ∷ more) (record { line = length (done ++ l ∷ []); limit = limit }) = record {
            in_script = omega (arith, long, length-append done (l ∷ more));
            before = λ n lt. w n (omega (arith, long, lt));
            passed = subst (λ (x : List Line). Pass limits (offers x) limit) (sym cut) (passes limits (offers (done ++ l ∷ [])) limit is);
          } in
          subst (First (done ++ l ∷ more)) (cc) here
      go later None is h =
          subst (λ (x : List Line). First x p) same (later still h)
        where
          still : Still
          still n le = elim (cases_lt (length done) n) [
            | inl above ↦
                let is_all : n ≡ length (done ++ l ∷ []) = omega (arith, long, le, above) in
                let front : take n ((done ++ l ∷ []) ++ more) ≡ done ++ l ∷ [] = ap (λ (m : ℕ). take m ((done ++ l ∷ []) ++ more)) is_all ∙ take-append_seam (done ++ l ∷ []) more in
                subst (λ (x : List Line). AreWithin limits (offers x)) (sym front) (within limits (offers (done ++ l ∷ [])) is)
            | inr below ↦ subst (λ (x : List Line). AreWithin limits (offers (take n x))) (sym same) (w n below)
          ]

nothing_offered : (limits : Limits) → AreWithin limits []
nothing_offered limits = record { few = omega arith; small = omega arith }

pub passed-exact : (f : Kind → Functions) (limits : Limits) (opened : State) (lines : List Line) → IsExact f limits opened lines
passed-exact f limits opened lines =
    let tasks : List PlainTask = (opening_of opened lines).tasks in
    let whole : reports_offered f tasks (take (length lines) lines) ≡ reports_offered f tasks lines = ap (reports_offered f tasks) (take-length lines) in
    record {
      none = λ e. subst (AreWithin limits) (sym whole) (all_within f limits tasks [] lines (nothing_offered limits) e);
      within = λ w. none_passed f limits tasks [] lines (subst (AreWithin limits) whole w);
      first = λ p e.
          let start : (n : ℕ) → n ≤ 0 → AreWithin limits (reports_offered f tasks (take n lines)) =
          λ n le. subst (λ (m : ℕ). AreWithin limits (reports_offered f tasks (take m lines))) (let nought : 0 ≡ n = omega (arith, le) in nought) (nothing_offered limits) in
          let is = first_passed f limits tasks [] lines p start e in
          record { in_script = is.in_script; before = is.before; passes = is.passed };
    }
