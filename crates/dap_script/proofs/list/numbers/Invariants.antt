use Rattle.std.proofs.Common.{◌≡◌, drop}
use Rattle.dap_script.specs.Fields.{numbers_of}
use Rattle.dap_script.specs.Words.{texts}
use Rattle.dap_script.proofs.ListLemmas.{numbers_after}
use Rattle.dap_script.proofs.list.numbers.Given as goal

abbrev pub invariant-loop-word : goal.invariant-loop-word
invariant-loop-word l = numbers_after l.numbers.items (drop l.word-index (texts l.words)) ≡ numbers_of (texts l.words)
