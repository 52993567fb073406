use Rattle.std.proofs.Common.{refl}
use Rattle.dap_tasks.proofs.trials.trial.Goals as goal

pub returns : goal.returns
returns c = rw (c.trial_key-verify.ensures, c.trial_key.ensures, c.trial_key-2.ensures, c.trial_key-3.ensures, c.trial_key-4.ensures) refl
