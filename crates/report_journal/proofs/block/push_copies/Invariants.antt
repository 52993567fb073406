use Rattle.std.proofs.Common.{◌≡◌, ◌++◌, List, ℕ, Vec, take}
use Rattle.std.specs.declared.alloc.Global.{Global}
use Rattle.report_journal.specs.Log.{contents}
use Rattle.report_journal.proofs.block.push_copies.Given as goal

abbrev pub invariant-loop-r : goal.invariant-loop-r
invariant-loop-r l = (more : List (Vec ℕ Global)) × (l.held.items ≡ l.initial.held.items ++ more) × (contents more ≡ contents (take l.r-index l.records))
