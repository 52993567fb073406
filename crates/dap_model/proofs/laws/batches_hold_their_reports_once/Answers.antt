use Rattle.dap_model.specs.BatchLaws.{holds-once}
use Rattle.dap_model.proofs.laws.batches_hold_their_reports_once.Goals as goal

pub returns : goal.returns
returns c state task span some = holds-once state task span some
