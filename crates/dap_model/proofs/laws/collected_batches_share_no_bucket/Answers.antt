use Rattle.dap_model.proofs.ApartLaws.{run-apart, apart-kept, one-first, one-holds}
use Rattle.dap_model.proofs.laws.collected_batches_share_no_bucket.Goals as goal

pub returns-clause-line : goal.returns-clause-line
returns-clause-line c f state number line range apart = apart-kept f state number line range apart

pub returns-clause-run : goal.returns-clause-run
returns-clause-run c f state number lines range apart = run-apart f state number lines range apart

pub returns-clause-bucket : goal.returns-clause-bucket
returns-clause-bucket c state task span other bucket apart known one two = one-holds state task apart known span other bucket one two

pub returns-clause-first : goal.returns-clause-first
returns-clause-first c state task span one other apart known a b = one-first state task apart known span one other a b
