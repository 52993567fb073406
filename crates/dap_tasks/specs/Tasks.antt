-- The known tasks.
use Rattle.std.specs.Prelude.{◌≡◌, List, [], ◌∷◌, false}
use Rattle.std.specs.List.{list_any}
use Rattle.dap_tasks.specs.Task.{PlainTask, IsTask, has_name}

-- no two tasks have the same name
abbrev pub AreDistinct : List PlainTask → Type 0
AreDistinct [] = Unit {0}
AreDistinct (task ∷ more) = (list_any (has_name task.name) more ≡ false) × AreDistinct more

-- each is within its ranges
abbrev pub AreTasks : List PlainTask → Type 0
AreTasks [] = Unit {0}
AreTasks (task ∷ more) = IsTask task × AreTasks more
