-- Tasks within their ranges.
use Rattle.std.proofs.Common.{◌≡◌, ℕ, Bool, true, false, List, [], ◌∷◌, ◌++◌, Option, Some, None, cond, subst}
use Rattle.std.specs.List.{find}
use Rattle.dap_tasks.specs.Task.{PlainTask, IsTask, has_name}
use Rattle.dap_tasks.specs.Tasks.{AreTasks}

-- one more
pub AreTasks-push : (tasks : List PlainTask) (task : PlainTask) → AreTasks tasks → IsTask task → AreTasks (tasks ++ task ∷ [])
AreTasks-push [] task all is = (is, tt)
AreTasks-push (first ∷ more) task all is = (all.0, AreTasks-push more task all.1 is)

-- one that is found is one of them
pub found_is : (tasks : List PlainTask) (name : List ℕ) (task : PlainTask) → AreTasks tasks → find (has_name name) tasks ≡ Some task → IsTask task
found_is [] name task all e = absurd (cc e)
found_is (first ∷ more) name task all e = go (has_name name first) e (λ found. found_is more name task all.1 found) where
  go : (b : Bool) → cond b (Some first) (find (has_name name) more) ≡ Some task → (find (has_name name) more ≡ Some task → IsTask task) → IsTask task
  go true found rest = let same : first ≡ task = cc found in subst IsTask same all.0
  go false found rest = rest found
