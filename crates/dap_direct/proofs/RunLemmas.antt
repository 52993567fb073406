-- A run, one line after another.
use Rattle.std.proofs.Common.{◌≡◌, ℕ, suc, ◌+◌, ◌-◌, ◌<◌, List, [], ◌∷◌, ◌++◌, length, get_or, take, drop, Bool, cond, true, false, ◌||◌, Option, Some, None, refl, sym, ap, subst, ◌∙◌, arith, append-nil, append_assoc, length-append}
use Rattle.std.specs.Prelude.{map, sum}
use Rattle.std.specs.List.{list_any}
use Rattle.std.specs.Option.{option_map_or, option_to_list}
use Rattle.std.proofs.Math.Seq.{take-append_seam, take-length}
use Rattle.std.proofs.lemmas.Grind.{flat_map-append}
use Rattle.std.proofs.lemmas.List.{map-append, take-append-le, take_more}
use Rattle.std.proofs.lemmas.List.Sums.{sum_by-append}
use Rattle.std.proofs.lemmas.List.Folds.{list_any-append}
use Rattle.vdaf_api.specs.Functions.{Functions}
use Rattle.vdaf_api.specs.declared.kind.Kind.{Kind}
use Rattle.dap_messages.specs.Messages.{report}
use Rattle.dap_messages.specs.declared.report.Report.{Report}
use Rattle.dap_tasks.specs.Task.{PlainTask}
use Rattle.dap_script.specs.declared.line.Line.{Line}
use Rattle.dap_model.specs.Limits.{Passed, bytes_in, ends_segment, limit_passed, passed_after, passed_in, report_offered, reports_offered, text_before, whole_segments}
use Rattle.dap_model.specs.Printed.{spelling, text_of}
use Rattle.dap_model.specs.Run.{printed_from, state_after, tasks_of}
use Rattle.dap_model.specs.State.{State, opening}
use Rattle.dap_model.specs.Step.{Outcome, step}
use Rattle.dap_model.specs.declared.limits.Limits.{Limits}
use Rattle.dap_model.specs.declared.printed.Printed.{Printed}
use Rattle.dap_direct.proofs.TaskLemmas.{at}
use Rattle.dap_direct.specs.Direct.{AreSummed, IsAt, Runs, state_of}
use Rattle.dap_direct.specs.Offered.{AreOffered, with_report}
use Rattle.dap_direct.specs.Told.{IsToldOf}
use Rattle.dap_direct.specs.declared.offered.Offered.{Offered}
use Rattle.dap_direct.specs.declared.state.Direct.{Direct}
use Rattle.dap_direct.specs.declared.told.Told.{Told}

-- ---- one line more

number_next : (k n : ℕ) → k + 1 + n ≡ k + suc n
number_next k n = omega arith

pub printed_from-push : (f : Kind → Functions) (s : State) (k : ℕ) (xs : List Line) (l : Line)
    → printed_from f s k (xs ++ l ∷ []) ≡ printed_from f s k xs ++ (step f (state_after f s k xs) (k + length xs) l).1
printed_from-push f s k [] l = append-nil (step f s k l).1 ∙ ap (λ (n : ℕ). (step f s n l).1) (let e : k ≡ k + 0 = omega arith in e)
printed_from-push f s k (x ∷ xs) l =
    let t : State = (step f s k x).0 in
    ap (λ ps. (step f s k x).1 ++ ps) (printed_from-push f t (k + 1) xs l)
    ∙ sym (append_assoc (step f s k x).1 (printed_from f t (k + 1) xs) (step f (state_after f t (k + 1) xs) (k + 1 + length xs) l).1)
    ∙ ap (λ (n : ℕ). ((step f s k x).1 ++ printed_from f t (k + 1) xs) ++ (step f (state_after f t (k + 1) xs) n l).1) (number_next k (length xs))

pub state_after-push : (f : Kind → Functions) (s : State) (k : ℕ) (xs : List Line) (l : Line)
    → state_after f s k (xs ++ l ∷ []) ≡ (step f (state_after f s k xs) (k + length xs) l).0
state_after-push f s k [] l = ap (λ (n : ℕ). (step f s n l).0) (let e : k ≡ k + 0 = omega arith in e)
state_after-push f s k (x ∷ xs) l =
    let t : State = (step f s k x).0 in
    state_after-push f t (k + 1) xs l ∙ ap (λ (n : ℕ). (step f (state_after f t (k + 1) xs) n l).0) (number_next k (length xs))

reports_offered-push : (f : Kind → Functions) (tasks : List PlainTask) (xs : List Line) (l : Line)
    → reports_offered f tasks (xs ++ l ∷ []) ≡ reports_offered f tasks xs ++ option_to_list (report_offered f tasks l)
reports_offered-push f tasks [] l = append-nil (option_to_list (report_offered f tasks l))
reports_offered-push f tasks (x ∷ xs) l =
    let first : List Report = option_to_list (report_offered f tasks x) in
    ap (λ rs. first ++ rs) (reports_offered-push f tasks xs l)
    ∙ sym (append_assoc first (reports_offered f tasks xs) (option_to_list (report_offered f tasks l)))

alone : (n : ℕ) → sum (n ∷ []) ≡ n
alone n = omega arith

bytes_in-push : (rs : List Report) (r : Report) → bytes_in (rs ++ r ∷ []) ≡ bytes_in rs + length (report.spell r)
bytes_in-push rs r =
    let size : Report → ℕ = λ r. length (report.spell r) in
    ap sum (map-append size rs (r ∷ [])) ∙ sum_by-append (λ (n : ℕ). n) (map size rs) (size r ∷ [])
    ∙ ap (λ (n : ℕ). sum (map size rs) + n) (alone (size r))

offered_next : (rs : List Report) (o : Offered) (new : Option Report) → AreOffered rs o → AreOffered (rs ++ option_to_list new) (with_report new o)
offered_next rs o None h = record { reports = h.reports ∙ ap length (sym (append-nil rs)); bytes = h.bytes ∙ ap bytes_in (sym (append-nil rs)) }
offered_next rs o (Some r) h = record {
  reports = omega (arith, h.reports, length-append rs (r ∷ []));
  bytes = ap (λ (n : ℕ). n + length (report.spell r)) h.bytes ∙ sym (bytes_in-push rs r);
}

-- ---- whole segments

whole_segments-ended : (xs : List Line) (l : Line) → ends_segment l ≡ true → whole_segments (xs ++ l ∷ []) ≡ xs ++ l ∷ []
whole_segments-ended [] l e = ap (λ b. cond (b || false) (l ∷ []) []) e
whole_segments-ended (x ∷ xs) l e =
    ap (λ b. cond (ends_segment x || b) (x ∷ whole_segments (xs ++ l ∷ [])) []) (ended_among xs) ∙ either (ends_segment x) (x ∷ whole_segments (xs ++ l ∷ []))
    ∙ ap (λ ls. x ∷ ls) (whole_segments-ended xs l e)
  where
    either : (b : Bool) (ls : List Line) → cond (b || true) ls [] ≡ ls
    either true ls = refl
    either false ls = refl

    or_true : (b : Bool) → (b || true) ≡ true
    or_true true = refl
    or_true false = refl

    ended_among : (ys : List Line) → list_any ends_segment (ys ++ l ∷ []) ≡ true
    ended_among [] = ap (λ b. b || false) e
    ended_among (y ∷ ys) = ap (λ b. ends_segment y || b) (ended_among ys) ∙ or_true (ends_segment y)

whole_segments-open : (xs : List Line) (l : Line) → ends_segment l ≡ false → whole_segments (xs ++ l ∷ []) ≡ whole_segments xs
whole_segments-open [] l e = ap (λ b. cond (b || false) (l ∷ []) []) e
whole_segments-open (x ∷ xs) l e =
    ap (λ b. cond (ends_segment x || b) (x ∷ whole_segments (xs ++ l ∷ [])) [])
    (list_any-append ends_segment xs (l ∷ []) ∙ ap (λ b. list_any ends_segment xs || (b || false)) e ∙ or_none (list_any ends_segment xs))
    ∙ ap (λ ls. cond (ends_segment x || list_any ends_segment xs) (x ∷ ls) []) (whole_segments-open xs l e)
  where
    or_none : (b : Bool) → (b || false) ≡ b
    or_none true = refl
    or_none false = refl

-- ---- what is told

told_next : (f : Kind → Functions) (tasks : List PlainTask) (done : List Line) (l : Line) (old new : Told) (printed : List Printed)
    → printed ≡ (step f (state_after f (opening tasks) 1 done) (1 + length done) l).1 → IsToldOf f tasks done old
    → new.text.items ≡ old.text.items ++ text_of printed → new.whole ≡ cond (ends_segment l) (length new.text.items) old.whole
    → IsToldOf f tasks (done ++ l ∷ []) new
told_next f tasks done l old new printed is told text whole = go (ends_segment l) refl
  where
    all : new.text.items ≡ text_of (printed_from f (opening tasks) 1 (done ++ l ∷ []))
    all =
        text ∙ ap (λ (t : List ℕ). t ++ text_of printed) told.text
        ∙ ap (λ ps. text_of (printed_from f (opening tasks) 1 done) ++ text_of ps) is
        ∙ sym (flat_map-append spelling (printed_from f (opening tasks) 1 done) (step f (state_after f (opening tasks) 1 done) (1 + length done) l).1)
        ∙ ap text_of (sym (printed_from-push f (opening tasks) 1 done l))

    go : (b : Bool) → ends_segment l ≡ b → IsToldOf f tasks (done ++ l ∷ []) new
    go true e =
        let place : new.whole ≡ length new.text.items = whole ∙ ap (λ b. cond b (length new.text.items) old.whole) e in
        record {
          text = all;
          within = omega (arith, place);
          whole = ap (λ (n : ℕ). take n new.text.items) place ∙ take-length new.text.items ∙ all
              ∙ ap (λ ls. text_of (printed_from f (opening tasks) 1 ls)) (sym (whole_segments-ended done l e));
        }
    go false e =
        let place : new.whole ≡ old.whole = whole ∙ ap (λ b. cond b (length new.text.items) old.whole) e in
        record {
          text = all;
          within = omega (arith, place, told.within, ap length text, length-append old.text.items (text_of printed));
          whole = ap (λ (n : ℕ). take n new.text.items) place ∙ ap (take old.whole) text
              ∙ take-append-le old.whole old.text.items (text_of printed) told.within ∙ told.whole
              ∙ ap (λ ls. text_of (printed_from f (opening tasks) 1 ls)) (sym (whole_segments-open done l e));
        }

-- ---- a run

-- after these lines of a script, with which no limit was passed, these are left, and the next has this number
pub record IsRun (f : Kind → Functions) (limits : Limits) (tasks : List PlainTask) (script done left : List Line) (number : ℕ) (d : Direct) (t : Told) : Type 0 where
  pub all : done ++ left ≡ script
  pub next : number ≡ 1 + length done
  pub at : IsAt number d
  pub state : state_of tasks d ≡ state_after f (opening tasks) 1 done
  pub sums : AreSummed f tasks d
  pub offered : AreOffered (reports_offered f tasks done) d.offered
  pub told : IsToldOf f tasks done t
  pub passed : passed_after f limits tasks done left ≡ passed_after f limits tasks [] script

module _ (f : Kind → Functions) (limits : Limits) (tasks : List PlainTask) (script done left : List Line) (l : Line) (number : ℕ) (old new : Direct) (t : Told) (printed : Option Printed) where
  -- the reports that were offered with this line too
  offered_with : IsRun f limits tasks script done (l ∷ left) number old t → Runs f tasks number l old new printed
      → AreOffered (reports_offered f tasks (done ++ l ∷ [])) new.offered
  offered_with run is =
      subst (λ (o : Offered). AreOffered (reports_offered f tasks (done ++ l ∷ [])) o) (sym is.counted)
      (subst (λ (rs : List Report). AreOffered rs (with_report (report_offered f tasks l) old.offered)) (sym (reports_offered-push f tasks done l))
      (offered_next (reports_offered f tasks done) old.offered (report_offered f tasks l) run.offered))

  -- the place where a limit is passed, if one is with this line
  abbrev here : Option ℕ → Option Passed
  here o = option_map_or (λ limit. Some (record { line = length (done ++ l ∷ []); limit = limit })) o (passed_after f limits tasks (done ++ l ∷ []) left)

  stepped : IsRun f limits tasks script done (l ∷ left) number old t → Runs f tasks number l old new printed
      → (let o : Outcome = (state_of tasks new, option_to_list printed) in o) ≡ step f (state_after f (opening tasks) 1 done) (1 + length done) l
  stepped run is = is.outcome ∙ ap (λ (s : State). step f s number l) run.state ∙ ap (λ (n : ℕ). step f (state_after f (opening tasks) 1 done) n l) run.next

  -- no limit is passed with this line
  run_next : (told : Told) → IsRun f limits tasks script done (l ∷ left) number old t → Runs f tasks number l old new printed
      → limit_passed limits (reports_offered f tasks (done ++ l ∷ [])) ≡ None
      → told.text.items ≡ t.text.items ++ text_of (option_to_list printed) → told.whole ≡ cond (ends_segment l) (length told.text.items) t.whole
      → IsRun f limits tasks script (done ++ l ∷ []) left (number + 1) new told
  run_next told run is none text whole = record {
    all = append_assoc done (l ∷ []) left ∙ run.all;
    next = omega (arith, run.next, length-append done (l ∷ []));
    at = is.at;
    state = ap (λ (o : Outcome). o.0) (stepped run is) ∙ sym (state_after-push f (opening tasks) 1 done l);
    sums = is.sums;
    offered = offered_with run is;
    told = told_next f tasks done l t told (option_to_list printed) (ap (λ (o : Outcome). o.1) (stepped run is)) run.told text whole;
    passed = sym (ap here none) ∙ run.passed;
  }

  -- a limit is passed with this line
  run_passed : (limit : ℕ) → IsRun f limits tasks script done (l ∷ left) number old t
      → limit_passed limits (reports_offered f tasks (done ++ l ∷ [])) ≡ Some limit
      → passed_after f limits tasks [] script ≡ Some (record { line = number; limit = limit })
  run_passed limit run some =
      let place : length (done ++ l ∷ []) ≡ number = omega (arith, run.next, length-append done (l ∷ [])) in
      sym run.passed ∙ ap here some ∙ ap (λ (n : ℕ). let p : Option Passed = Some (record { line = n; limit = limit }) in p) place

  -- the text of the segments before
  run_before : (given : List PlainTask) (text : List ℕ) → tasks ≡ given ++ tasks_of script → IsRun f limits tasks script done (l ∷ left) number old t
      → text ≡ take t.whole t.text.items → text ≡ text_before f (opening given) script number
  run_before given text known run is =
      let place : number - 1 ≡ length done = omega (arith, run.next) in
      let front : take (number - 1) script ≡ done =
      ap (λ (n : ℕ). take n script) place ∙ ap (take (length done)) (sym run.all) ∙ take-append_seam done (l ∷ left) in
      is ∙ run.told.whole ∙ ap (λ ls. text_of (printed_from f (opening tasks) 1 (whole_segments ls))) (sym front)
      ∙ ap (λ (ts : List PlainTask). text_of (printed_from f (opening ts) 1 (whole_segments (take (number - 1) script)))) known

-- ---- a line of the script

module _ (f : Kind → Functions) (limits : Limits) (tasks : List PlainTask) (script : List Line) (i : ℕ) (l : Line) (number : ℕ) (old new : Direct) (t : Told) (printed : Option Printed) (limit : Option ℕ) where
  -- the lines before this one, which was run, and the limit that is passed with it
  pub record IsLine : Type 0 where
    pub within : i < length script
    pub here : l ≡ get_or script i l
    pub before : IsRun f limits tasks script (take i script) (drop i script) number old t
    pub runs : Runs f tasks number l old new printed
    pub passes : (reports : List Report) → AreOffered reports new.offered → limit ≡ limit_passed limits reports

  left : IsLine → IsRun f limits tasks script (take i script) (l ∷ drop (i + 1) script) number old t
  left is = subst (λ (ls : List Line). IsRun f limits tasks script (take i script) ls number old t) (at script i l is.within is.here) is.before

  passed_so : (is : IsLine) → limit_passed limits (reports_offered f tasks (take i script ++ l ∷ [])) ≡ limit
  passed_so is =
      sym (is.passes (reports_offered f tasks (take i script ++ l ∷ [])) (offered_with f limits tasks script (take i script) (drop (i + 1) script) l number old new t printed (left is) is.runs))

  -- no limit is passed, and what is printed is told
  pub goes_on : (told : Told) → IsLine → limit ≡ None → told.text.items ≡ t.text.items ++ text_of (option_to_list printed)
      → told.whole ≡ cond (ends_segment l) (length told.text.items) t.whole
      → IsRun f limits tasks script (take (i + 1) script) (drop (i + 1) script) (number + 1) new told
  goes_on told is none text whole =
      let more : take (i + 1) script ≡ take i script ++ l ∷ [] = take_more script i l is.within ∙ ap (λ x. take i script ++ x ∷ []) (sym is.here) in
      subst (λ (ls : List Line). IsRun f limits tasks script ls (drop (i + 1) script) (number + 1) new told) (sym more)
      (run_next f limits tasks script (take i script) (drop (i + 1) script) l number old new t printed told (left is) is.runs (passed_so is ∙ none) text whole)

  -- a limit is passed, and the text of the segments before is answered
  pub stops : (given : List PlainTask) (text : List ℕ) (n : ℕ) → tasks ≡ given ++ tasks_of script → IsLine → limit ≡ Some n → text ≡ take t.whole t.text.items
      → (passed_in f limits (opening given) script ≡ Some (record { line = number; limit = n })) × (text ≡ text_before f (opening given) script number)
  stops given text n known is some told = (
    sym (ap (λ (ts : List PlainTask). passed_after f limits ts [] script) known)
        ∙ run_passed f limits tasks script (take i script) (drop (i + 1) script) l number old new t printed n (left is) (passed_so is ∙ some),
    run_before f limits tasks script (take i script) (drop (i + 1) script) l number old new t printed given text known (left is) told,
  )
