-- Why lines of a script are not run.
use Rattle.std.proofs.Common.{◌≡◌, ℕ, ◌+◌, ◌<◌, List, [], ◌∷◌, ◌++◌, length, Bool, true, false, nat_lt, if◌then◌else◌, Option, Some, None, Result, Ok, Err, refl, sym, ap, subst, ◌∙◌, arith, append-nil, append_assoc, length-append, ◌⊎◌, inl, inr}
use Rattle.std.proofs.lemmas.Bool.Decides.{nat_tests}
use Rattle.std.proofs.lemmas.List.{length-map}
use Rattle.std.specs.List.{IsDistinct}
use Rattle.std.specs.Str.{bytes_eq}
use Rattle.dap_bytes.specs.declared.limits.TheConstants.{LONGEST_SCRIPT}
use Rattle.dap_tasks.specs.Task.{PlainTask}
use Rattle.dap_script.specs.OptionLaws.{if_some, map_or_cases}
use Rattle.dap_script.specs.Script.{is_longer, script_beside, task_name, task_names}
use Rattle.dap_script.specs.declared.line.Line.{Line}
use Rattle.dap_model.proofs.NameCountLaws.{count-distinct, distinct-front}
use Rattle.dap_model.specs.Limits.{count_names, full_from, full_line_of}
use Rattle.dap_model.specs.State.{names_of, opening}
use Rattle.dap_program.specs.Lines.{later_line_of, lines_run, with_few_tasks, with_lines}
use Rattle.dap_program.specs.Runs.{IsScriptStop}
use Rattle.dap_program.specs.declared.lines.TheConstants.{MAX_LINES, MAX_TASKS}
use Rattle.dap_program.specs.declared.status.Status.{Status}
use Rattle.dap_program.specs.declared.status.Status.TheVariants.{ScriptRefused, NotYet, Limit, NoMemory}

-- ---- the tests, one after another

if_err : {A E P : Type 0} (b : Bool) (e : E) (r : Result A E) (y : Result A E) → (if b then Err e else r) ≡ y → (b ≡ true → Err e ≡ y → P) → (b ≡ false → r ≡ y → P) → P
if_err true e r y h stops goes = stops refl h
if_err false e r y h stops goes = goes refl h

-- the ways in which no lines are run
pub record Stops (given : List PlainTask) (script : List ℕ) (status : Status) (P : Type 0) : Type 0 where
  pub bytes : LONGEST_SCRIPT < length script → status ≡ Limit 0 5 → P
  pub lines : is_longer script MAX_LINES ≡ true → status ≡ Limit (MAX_LINES + 1) 4 → P
  pub refused : (n : ℕ) → script_beside (names_of given) script ≡ Err n → status ≡ ScriptRefused n → P
  pub later : (lines : List Line) (n : ℕ) → script_beside (names_of given) script ≡ Ok lines → later_line_of lines ≡ Some n → status ≡ NotYet n → P
  pub full : (lines : List Line) (n : ℕ) → script_beside (names_of given) script ≡ Ok lines → full_line_of MAX_TASKS (opening given) lines ≡ Some n → status ≡ Limit n 1 → P

stopped_lines : {P : Type 0} (given : List PlainTask) (script : List ℕ) (status : Status) (read : Result (List Line) ℕ) → script_beside (names_of given) script ≡ read
    → with_lines given read ≡ Err status → Stops given script status P → P
stopped_lines given script status (Err n) e h stops = stops.refused n e (cc h)
stopped_lines given script status (Ok lines) e h stops =
    map_or_cases (λ n. Err (NotYet n)) (later_line_of lines) (with_few_tasks given lines) (Err status) h
    (λ none k. map_or_cases (λ n. Err (Limit n 1)) (full_line_of MAX_TASKS (opening given) lines) (Ok lines) (Err status) k (λ few same. cc same) (λ n some same. stops.full lines n e some (cc same)))
    (λ n some same. stops.later lines n e some (cc same))

pub stopped : {P : Type 0} (given : List PlainTask) (script : List ℕ) (status : Status) → lines_run given script ≡ Err status → Stops given script status P → P
stopped given script status h stops =
    if_err (nat_lt LONGEST_SCRIPT (length script)) (Limit 0 5) _ (Err status) h (λ long same. stops.bytes (let many : LONGEST_SCRIPT < length script = grind (arith, nat_tests) in many) (cc same))
    (λ short k. if_err (is_longer script MAX_LINES) (Limit (MAX_LINES + 1) 4) _ (Err status) k (λ longer same. stops.lines longer (cc same))
    (λ few m. stopped_lines given script status (script_beside (names_of given) script) refl m stops))

-- so a script that isn't run is stopped by what may stop one
pub stops_script : (status : Status) (given : List PlainTask) (script : List ℕ) → (status ≡ NoMemory) ⊎ (lines_run given script ≡ Err status) → IsScriptStop status
stops_script status given script (inl memory) = inr (inr (inr memory))
stops_script status given script (inr stop) = stopped given script status stop (record {
  bytes = λ long is. inr (inl (0, 5, is));
  lines = λ longer is. inr (inl (MAX_LINES + 1, 4, is));
  refused = λ n read is. inl (n, inl is);
  later = λ lines n read first is. inl (n, inr is);
  full = λ lines n read first is. inr (inl (n, 1, is));
})

gone_lines : (given : List PlainTask) (script : List ℕ) (lines : List Line) (read : Result (List Line) ℕ) → script_beside (names_of given) script ≡ read
    → with_lines given read ≡ Ok lines → script_beside (names_of given) script ≡ Ok lines
gone_lines given script lines (Err n) e h = cc h
gone_lines given script lines (Ok read) e h =
    map_or_cases (λ n. Err (NotYet n)) (later_line_of read) (with_few_tasks given read) (Ok lines) h
    (λ none k. map_or_cases (λ n. Err (Limit n 1)) (full_line_of MAX_TASKS (opening given) read) (Ok read) (Ok lines) k (λ few same. let is : read ≡ lines = cc same in e ∙ ap Ok is) (λ n some same. cc same))
    (λ n some same. cc same)

-- lines that are run are those that are read
pub lines_read : (given : List PlainTask) (script : List ℕ) (lines : List Line) → lines_run given script ≡ Ok lines → script_beside (names_of given) script ≡ Ok lines
lines_read given script lines h =
    if_err (nat_lt LONGEST_SCRIPT (length script)) (Limit 0 5) _ (Ok lines) h (λ long same. cc same)
    (λ short k. if_err (is_longer script MAX_LINES) (Limit (MAX_LINES + 1) 4) _ (Ok lines) k (λ longer same. cc same)
    (λ few m. gone_lines given script lines (script_beside (names_of given) script) refl m))

-- ---- too many tasks

-- the same with the number of the tasks that are known with line n
abbrev pub full_counted : ℕ → ℕ → List Line → Option ℕ
full_counted known n [] = if nat_lt MAX_TASKS known then Some n else None
full_counted known n (l ∷ lines) = if nat_lt MAX_TASKS known then Some n else full_counted (known + length (task_name l)) (n + 1) lines

-- where all names differ, they are as many as the tasks
full-counted : (names : List (List ℕ)) (n : ℕ) (lines : List Line) → IsDistinct bytes_eq (names ++ task_names lines)
    → full_counted (length names) n lines ≡ full_from MAX_TASKS names n lines
full-counted names n [] d =
    ap (λ (k : ℕ). if nat_lt MAX_TASKS k then Some n else None) (sym (count-distinct names (subst (IsDistinct bytes_eq) (append-nil names) d)))
full-counted names n (l ∷ lines) d =
    let later : IsDistinct bytes_eq ((names ++ task_name l) ++ task_names lines) =
    subst (IsDistinct bytes_eq) (sym (append_assoc names (task_name l) (task_names lines))) d in
    ap (λ (k : ℕ). if nat_lt MAX_TASKS k then Some n else full_counted (length names + length (task_name l)) (n + 1) lines)
    (sym (count-distinct names (distinct-front names (task_names (l ∷ lines)) d)))
    ∙ ap (λ (o : Option ℕ). if nat_lt MAX_TASKS (count_names names) then Some n else o)
    (ap (λ (k : ℕ). full_counted k (n + 1) lines) (sym (length-append names (task_name l))) ∙ full-counted (names ++ task_name l) (n + 1) lines later)

pub full_line-counted : (given : List PlainTask) (lines : List Line) → IsDistinct bytes_eq (names_of given ++ task_names lines)
    → full_counted (length given) 0 lines ≡ full_line_of MAX_TASKS (opening given) lines
full_line-counted given lines d =
    ap (λ (k : ℕ). full_counted k 0 lines) (sym (length-map given (λ (task : PlainTask). task.name))) ∙ full-counted (names_of given) 0 lines d
