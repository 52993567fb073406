use Rattle.std.proofs.Common.{◌≡◌, ◌++◌, drop}
use Rattle.dap_script.proofs.PrintLemmas.{after_commas}
use Rattle.dap_script.proofs.print.put_bounds.Given as goal

-- what is written and what is left are what is to be written
abbrev pub invariant-loop-bound : goal.invariant-loop-bound
invariant-loop-bound l = l.out.items ++ after_commas (drop l.bound-index l.others) ≡ l.initial.out.items ++ after_commas l.others
