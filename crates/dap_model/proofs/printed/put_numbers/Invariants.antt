use Rattle.std.proofs.Common.{◌≡◌, ◌++◌, drop}
use Rattle.dap_model.specs.Printed.{after_commas}
use Rattle.dap_model.proofs.printed.put_numbers.Given as goal

-- what is written and what is left are what is to be written
abbrev pub invariant-loop-number : goal.invariant-loop-number
invariant-loop-number l = l.out.items ++ after_commas (drop l.number-index l.rest) ≡ l.initial.out.items ++ after_commas l.rest
