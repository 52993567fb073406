-- A task: what is measured, under which name, in which batches, and with which keys.
use Rattle.std.specs.Prelude.{ℕ, List, Bool, Option}
use Rattle.std.specs.Str.{bytes_eq}
use Rattle.vdaf_api.specs.TaskNumbers.{AreTaskNumbers, IsExpiry}
use Rattle.vdaf_api.specs.declared.kind.Kind.{Kind}
use Rattle.vdaf_api.specs.declared.keys.SealKeys.{SealKeys}

-- Its name, its kind, the least number of reports of a batch that is collected, the length of its buckets in units of
-- time, the moment from which it takes no more reports, if there is one, the key with which reports are verified, and
-- the keys with which the two halves of a report are sealed.
pub record PlainTask : Type 0 where
  pub name : List ℕ
  pub kind : Kind
  pub min : ℕ
  pub precision : ℕ
  pub expires : Option ℕ
  pub verify : List ℕ
  pub leader : SealKeys
  pub helper : SealKeys

-- the task is within its ranges
abbrev pub IsTask : PlainTask → Type 0
IsTask task = AreTaskNumbers task.kind task.min task.precision × IsExpiry task.expires

-- the task has the name
abbrev pub has_name : List ℕ → PlainTask → Bool
has_name name task = bytes_eq task.name name
