-- What a status says of the work.
use Rattle.std.proofs.Common.{◌≡◌, ◌⊎◌, ℕ, ◌+◌, List, Option, Some, None, Result, Ok, Err, IfOk, IfSome, refl, sym, ap, subst, ◌∙◌, inl, inr}
use Rattle.prio3_kinds.specs.Kinds.{functions_of_kind}
use Rattle.dap_tasks.specs.File.{Refusal, tasks_of}
use Rattle.dap_tasks.specs.Task.{PlainTask}
use Rattle.dap_script.specs.declared.line.Line.{Line}
use Rattle.dap_model.specs.Limits.{Passed, passed_in}
use Rattle.dap_model.proofs.NameCountLaws.{full-exact}
use Rattle.dap_model.specs.State.{opening}
use Rattle.dap_program.proofs.LineLemmas.{lines_read, stopped}
use Rattle.dap_program.specs.Headline.{IsNotYet, IsPassed, IsScriptRefused, IsStop, Outcome, check_outcome, given_tasks, lines_outcome, outcome_of, run_limits, run_outcome, script_outcome, status_of}
use Rattle.dap_program.specs.Lines.{lines_run}
use Rattle.dap_program.specs.Runs.{Ends, status_after}
use Rattle.dap_program.specs.Words.{PlainCommand, command_of}
use Rattle.dap_program.specs.Work.{Work, Scripted, Checked, Loaded, Helped, Versioned, IfTold, work_of}
use Rattle.dap_program.specs.declared.lines.TheConstants.{MAX_LINES, MAX_TASKS}
use Rattle.dap_program.specs.declared.status.Status.{Status}
use Rattle.dap_program.specs.declared.status.Status.TheVariants.{Done, TasksRefused, ScriptRefused, NotYet, ReadFault, WriteFault, Limit, NoMemory}

-- ---- the ways in which a work ends

-- those of a script
record Ways (file : Option (List ℕ)) (script : List ℕ) (status : Status) (P : Type 0) : Type 0 where
  tasks : (task : ℕ) (field : List ℕ) → status ≡ TasksRefused task field → P
  lines : (given : List PlainTask) → given_tasks file ≡ Ok given → lines_run given script ≡ Err status → P
  done : status ≡ Done → P
  passed : (given : List PlainTask) (lines : List Line) (p : Passed) → given_tasks file ≡ Ok given → lines_run given script ≡ Ok lines
      → passed_in functions_of_kind run_limits (opening given) lines ≡ Some p → status ≡ Limit p.line p.limit → P

by_passed : {P : Type 0} (file : Option (List ℕ)) (script : List ℕ) (status : Status) (given : List PlainTask) (lines : List Line) (passed : Option Passed)
    → given_tasks file ≡ Ok given → lines_run given script ≡ Ok lines → passed_in functions_of_kind run_limits (opening given) lines ≡ passed
    → (run_outcome given lines passed).status ≡ status → Ways file script status P → P
by_passed file script status given lines None t l p h ways = ways.done (sym h)
by_passed file script status given lines (Some passed) t l p h ways = ways.passed given lines passed t l p (sym h)

by_lines : {P : Type 0} (file : Option (List ℕ)) (script : List ℕ) (status : Status) (given : List PlainTask) (planned : Result (List Line) Status)
    → given_tasks file ≡ Ok given → lines_run given script ≡ planned → (lines_outcome given planned).status ≡ status → Ways file script status P → P
by_lines file script status given (Err s) t l h ways = ways.lines given t (l ∙ ap Err h)
by_lines file script status given (Ok lines) t l h ways =
    by_passed file script status given lines (passed_in functions_of_kind run_limits (opening given) lines) t l refl h ways

by_tasks : {P : Type 0} (file : Option (List ℕ)) (script : List ℕ) (status : Status) (read : Result (List PlainTask) Refusal)
    → given_tasks file ≡ read → (script_outcome read script).status ≡ status → Ways file script status P → P
by_tasks file script status (Err refusal) t h ways = ways.tasks refusal.task refusal.field (sym h)
by_tasks file script status (Ok given) t h ways = by_lines file script status given (lines_run given script) t refl h ways

script_ways : {P : Type 0} (file : Option (List ℕ)) (script : List ℕ) (status : Status) → status_of (Scripted file script) ≡ status → Ways file script status P → P
script_ways file script status h ways = by_tasks file script status (given_tasks file) refl h ways

-- those of a check
check_ways : {P : Type 0} (read : Result (List PlainTask) Refusal) (status : Status) → (check_outcome read).status ≡ status
    → (status ≡ Done → P) → ((task : ℕ) (field : List ℕ) → status ≡ TasksRefused task field → P) → P
check_ways (Ok tasks) status h done refused = done (sym h)
check_ways (Err refusal) status h done refused = refused refusal.task refusal.field (sym h)

-- ---- what each says

refused_said : (work : Work) (line : ℕ) → status_of work ≡ ScriptRefused line → IsScriptRefused work line
refused_said (Checked file) line h = check_ways (tasks_of file) (ScriptRefused line) h (λ e. cc e) (λ task field e. cc e)
refused_said (Loaded reports seed) line h = cc h
refused_said Helped line h = cc h
refused_said Versioned line h = cc h
refused_said (Scripted file script) line h = script_ways file script (ScriptRefused line) h (record {
  tasks = λ task field e. cc e;
  lines = λ given t l. stopped given script (ScriptRefused line) l (record {
    bytes = λ long e. cc e;
    lines = λ longer e. cc e;
    refused = λ n r e. (let same : line ≡ n = cc e in (given, t, r ∙ ap Err (sym same)));
    later = λ lines n r s e. cc e;
    full = λ lines n r s e. cc e;
  });
  done = λ e. cc e;
  passed = λ given lines p t l s e. cc e;
})

not_yet_said : (work : Work) (line : ℕ) → status_of work ≡ NotYet line → IsNotYet work line
not_yet_said (Checked file) line h = check_ways (tasks_of file) (NotYet line) h (λ e. cc e) (λ task field e. cc e)
not_yet_said (Loaded reports seed) line h = cc h
not_yet_said Helped line h = cc h
not_yet_said Versioned line h = cc h
not_yet_said (Scripted file script) line h = script_ways file script (NotYet line) h (record {
  tasks = λ task field e. cc e;
  lines = λ given t l. stopped given script (NotYet line) l (record {
    bytes = λ long e. cc e;
    lines = λ longer e. cc e;
    refused = λ n r e. cc e;
    later = λ lines n r s e. (let same : line ≡ n = cc e in (record { given = given; lines = lines; tasks_read = t; script_read = r }, s ∙ ap Some (sym same)));
    full = λ lines n r s e. cc e;
  });
  done = λ e. cc e;
  passed = λ given lines p t l s e. cc e;
})

passed_same : (p : Passed) (line limit : ℕ) → p.line ≡ line → p.limit ≡ limit → Some p ≡ Some (record { line = line; limit = limit })
passed_same p line limit a b =
    let both : ℕ → ℕ → Option Passed = λ l m. Some (record { line = l; limit = m }) in
    ap (λ l. both l p.limit) a ∙ ap (both line) b

limit_said : (work : Work) (line limit : ℕ) → status_of work ≡ Limit line limit → IsPassed work line limit
limit_said (Checked file) line limit h = check_ways (tasks_of file) (Limit line limit) h (λ e. cc e) (λ task field e. cc e)
limit_said (Loaded reports seed) line limit h = cc h
limit_said Helped line limit h = cc h
limit_said Versioned line limit h = cc h
limit_said (Scripted file script) line limit h = script_ways file script (Limit line limit) h (record {
  tasks = λ task field e. cc e;
  lines = λ given t l. stopped given script (Limit line limit) l (record {
    bytes = λ long e. (let a : limit ≡ 5 = cc e in let b : line ≡ 0 = cc e in inl (a, b, long));
    lines = λ longer e. (let a : limit ≡ 4 = cc e in let b : line ≡ MAX_LINES + 1 = cc e in inr (inl (a, b, longer)));
    refused = λ n r e. cc e;
    later = λ lines n r s e. cc e;
    full = λ lines n r s e. (
        let a : limit ≡ 1 = cc e in
        let b : n ≡ line = cc e in
        inr (inr (record { given = given; lines = lines; tasks_read = t; script_read = r }, inl (a, (full-exact MAX_TASKS (opening given) lines).first line (s ∙ ap Some b)))));
  });
  done = λ e. cc e;
  passed = λ given lines p t l s e. (
      let a : p.line ≡ line = cc e in
      let b : p.limit ≡ limit = cc e in
      inr (inr (record { given = given; lines = lines; tasks_read = t; script_read = lines_read given script lines l }, inr (s ∙ passed_same p line limit a b))));
})

-- ---- from the end of a call

-- what holds of the work that a command has holds of the one that its words have
pub told : (words : List (List ℕ)) (command : PlainCommand) (left : Option (List ℕ)) (contents : List ℕ → Option (List ℕ)) (P Q : Work → Type 0)
    → Ok command ≡ command_of words → IfSome (work_of command left contents) P → ((work : Work) → P work → Q work) → IfTold words left contents Q
told words command left contents P Q e h go =
    subst (λ r. IfOk r (λ c. IfSome (work_of c left contents) Q)) e (weaker (work_of command left contents) h)
  where
    weaker : (o : Option Work) → IfSome o P → IfSome o Q
    weaker None p = tt
    weaker (Some work) p = go work p

-- a status that is no stop is the outcome's
said : (status other : Status) (old new : Option (List ℕ)) (outcome : Outcome) → Ends status old new outcome → status ≡ other → (IsStop other → ⊥) → outcome.status ≡ other
said status other old new outcome e same never = by_exact e.exact
  where
    by_exact : IsStop status ⊎ (status ≡ outcome.status) → outcome.status ≡ other
    by_exact (inl stop) = absurd (never (subst IsStop same stop))
    by_exact (inr is) = sym is ∙ same

refused_goes_on : (line : ℕ) → IsStop (ScriptRefused line) → ⊥
refused_goes_on line (inl e) = cc e
refused_goes_on line (inr (inl e)) = cc e
refused_goes_on line (inr (inr e)) = cc e

not_yet_goes_on : (line : ℕ) → IsStop (NotYet line) → ⊥
not_yet_goes_on line (inl e) = cc e
not_yet_goes_on line (inr (inl e)) = cc e
not_yet_goes_on line (inr (inr e)) = cc e

limit_goes_on : (line limit : ℕ) → IsStop (Limit line limit) → ⊥
limit_goes_on line limit (inl e) = cc e
limit_goes_on line limit (inr (inl e)) = cc e
limit_goes_on line limit (inr (inr e)) = cc e

pub end_refused : (status : Status) (old new : Option (List ℕ)) (work : Work) (line : ℕ) → Ends status old new (outcome_of work) → status ≡ ScriptRefused line → IsScriptRefused work line
end_refused status old new work line e is = refused_said work line (said status (ScriptRefused line) old new (outcome_of work) e is (refused_goes_on line))

pub end_not_yet : (status : Status) (old new : Option (List ℕ)) (work : Work) (line : ℕ) → Ends status old new (outcome_of work) → status ≡ NotYet line → IsNotYet work line
end_not_yet status old new work line e is = not_yet_said work line (said status (NotYet line) old new (outcome_of work) e is (not_yet_goes_on line))

pub end_limit : (status : Status) (old new : Option (List ℕ)) (work : Work) (line limit : ℕ) → Ends status old new (outcome_of work) → status ≡ Limit line limit → IsPassed work line limit
end_limit status old new work line limit e is = limit_said work line limit (said status (Limit line limit) old new (outcome_of work) e is (limit_goes_on line limit))

-- without faults, the status is the outcome's, or memory ran out
pub unless_faults : (status : Status) (old new : Option (List ℕ)) (outcome : Outcome) → Ends status old new outcome → (status ≡ ReadFault → ⊥) → (status ≡ WriteFault → ⊥)
    → (status ≡ NoMemory) ⊎ (status ≡ outcome.status)
unless_faults status old new outcome e read write = by_exact e.exact
  where
    by_exact : IsStop status ⊎ (status ≡ outcome.status) → (status ≡ NoMemory) ⊎ (status ≡ outcome.status)
    by_exact (inl (inl r)) = absurd (read r)
    by_exact (inl (inr (inl w))) = absurd (write w)
    by_exact (inl (inr (inr m))) = inl m
    by_exact (inr is) = inr is

-- a status that isn't Done is that of an answer
pub answered_by : (result : Result (Unit {0}) Status) (status : Status) → (Done ≡ status → ⊥) → status_after result ≡ status → result ≡ Err status
answered_by (Ok done) status other h = absurd (other h)
answered_by (Err s) status other h = ap Err h
