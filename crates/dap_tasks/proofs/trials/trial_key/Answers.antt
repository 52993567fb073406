use Rattle.std.proofs.Common.{ap, replicate}
use Rattle.aes_cmac_prg.specs.Cmac.{cmac}
use Rattle.dap_tasks.proofs.KeyLemmas.{key_text}
use Rattle.dap_tasks.proofs.trials.trial_key.Goals as goal

pub returns : goal.returns
returns c =
    rw (c.cmac.ensures, c.new.ensures, c.copy_from_slice-2.ensures.after, c.copy_from_slice.ensures.after, c.as_bytes-name.ensures.bytes)
    (ap (cmac (replicate 16 0)) (key_text c.args.label.now c.args.name.now _ c.requires))
