-- The known tasks have different names.
use Rattle.std.proofs.Common.{◌≡◌, ℕ, ◌+◌, ◌<◌, List, [], ◌∷◌, ◌++◌, length, drop, get_or, map, false, refl, sym, ap, subst, ◌∙◌, add-one, append_assoc}
use Rattle.std.proofs.Math.Seq.{drop-cons}
use Rattle.std.proofs.lemmas.Bool.{or_from, or_parts}
use Rattle.std.proofs.lemmas.List.Folds.{list_any-append}
use Rattle.std.proofs.lemmas.List.{map-append}
use Rattle.std.proofs.lemmas.Map.Keys.{IsDistinct-head, IsDistinct-tail}
use Rattle.std.specs.List.{AllByRecursion, IsDistinct, list_any}
use Rattle.std.specs.Str.{bytes_eq}
use Rattle.dap_tasks.specs.DistinctLaws.{bytes_eq-turned}
use Rattle.dap_tasks.specs.Task.{PlainTask, has_name}
use Rattle.dap_tasks.specs.Tasks.{AreDistinct}
use Rattle.dap_script.specs.Script.{task_names}
use Rattle.dap_script.specs.declared.line.Line.{Line}
use Rattle.dap_script.specs.declared.line.Line.TheVariants as line
use Rattle.dap_model.specs.Run.{tasks_of}

-- the names of tasks
abbrev names_of : List PlainTask → List (List ℕ)
names_of tasks = map (λ task. task.name) tasks

none_named : (name : List ℕ) (tasks : List PlainTask) → AllByRecursion (λ n. bytes_eq name n ≡ false) (names_of tasks) → list_any (has_name name) tasks ≡ false
none_named name [] h = refl
none_named name (task ∷ more) h = or_from _ _ (bytes_eq-turned task.name name ∙ h.0) (none_named name more h.1)

tasks_differ : (tasks : List PlainTask) → IsDistinct bytes_eq (names_of tasks) → AreDistinct tasks
tasks_differ [] d = tt
tasks_differ (task ∷ more) d =
    (none_named task.name more (IsDistinct-head bytes_eq task.name (names_of more) d), tasks_differ more (IsDistinct-tail bytes_eq task.name (names_of more) d))

names_of-tasks_of : (lines : List Line) → names_of (tasks_of lines) ≡ task_names lines
names_of-tasks_of [] = refl
names_of-tasks_of (line.Blank ∷ more) = names_of-tasks_of more
names_of-tasks_of (line.Task name kind min precision expires ∷ more) = ap (λ l. name ∷ l) (names_of-tasks_of more)
names_of-tasks_of (line.Now t ∷ more) = names_of-tasks_of more
names_of-tasks_of (line.Measure task id time value seed ∷ more) = names_of-tasks_of more
names_of-tasks_of (line.Upload report ∷ more) = names_of-tasks_of more
names_of-tasks_of (line.Collect task span ∷ more) = names_of-tasks_of more
names_of-tasks_of (line.Restart node ∷ more) = names_of-tasks_of more

-- the given tasks and those of a script, where no name stands twice among theirs
pub all_differ : (given : List PlainTask) (lines : List Line) → IsDistinct bytes_eq (names_of given ++ task_names lines) → AreDistinct (given ++ tasks_of lines)
all_differ given lines d =
    tasks_differ (given ++ tasks_of lines)
    (subst (IsDistinct bytes_eq) (sym (map-append (λ (task : PlainTask). task.name) given (tasks_of lines) ∙ ap (λ l. names_of given ++ l) (names_of-tasks_of lines))) d)

pub none_before : (xs : List PlainTask) (t : PlainTask) (ys : List PlainTask) → AreDistinct (xs ++ t ∷ ys) → list_any (has_name t.name) xs ≡ false
none_before [] t ys d = refl
none_before (x ∷ xs) t ys d =
    let there = or_parts (list_any (has_name x.name) xs) (list_any (has_name x.name) (t ∷ ys)) (sym (list_any-append (has_name x.name) xs (t ∷ ys)) ∙ d.0) in
    let it = or_parts (has_name x.name t) (list_any (has_name x.name) ys) there.1 in
    or_from _ _ (bytes_eq-turned x.name t.name ∙ it.0) (none_before xs t ys d.1)

pub at : {X : Type 0} (xs : List X) (i : ℕ) (x : X) → i < length xs → x ≡ get_or xs i x → drop i xs ≡ x ∷ drop (i + 1) xs
at xs i x h e = drop-cons xs i x h ∙ rw (← e, add-one) refl

pub front_differs : (xs ys : List PlainTask) → AreDistinct (xs ++ ys) → AreDistinct xs
front_differs [] ys d = tt
front_differs (x ∷ xs) ys d =
    ((or_parts (list_any (has_name x.name) xs) (list_any (has_name x.name) ys) (sym (list_any-append (has_name x.name) xs ys) ∙ d.0)).0, front_differs xs ys d.1)

-- the first tasks of those that are left are new
pub front_with : (tasks new rest left all : List PlainTask) → left ≡ new ++ rest → tasks ++ left ≡ all → AreDistinct all → AreDistinct (tasks ++ new)
front_with tasks new rest left all parts whole d =
    front_differs (tasks ++ new) rest (subst AreDistinct (sym (append_assoc tasks new rest ∙ ap (λ l. tasks ++ l) (sym parts) ∙ whole)) d)
