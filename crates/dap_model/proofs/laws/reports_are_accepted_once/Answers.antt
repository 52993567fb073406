use Rattle.dap_model.proofs.OnceLaws.{run_distinct, distinct_kept}
use Rattle.dap_model.proofs.laws.reports_are_accepted_once.Goals as goal

pub returns-clause-line : goal.returns-clause-line
returns-clause-line c f state number line = distinct_kept f state number line

pub returns-clause-run : goal.returns-clause-run
returns-clause-run c f state number lines distinct = run_distinct f state number lines distinct
