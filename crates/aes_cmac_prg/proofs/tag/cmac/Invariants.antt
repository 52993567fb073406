use Rattle.std.proofs.Common.{◌≡◌}
use Rattle.aes_cmac_prg.specs.Cmac.{chained}
use Rattle.aes_cmac_prg.proofs.tag.cmac.Given as goal

abbrev pub invariant-loop-i : goal.invariant-loop-i
invariant-loop-i l = l.chain ≡ chained l.key l.text l.i
