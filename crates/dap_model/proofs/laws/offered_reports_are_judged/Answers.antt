use Rattle.dap_model.proofs.OfferLaws.{offered-judged}
use Rattle.dap_model.proofs.laws.offered_reports_are_judged.Goals as goal

pub returns : goal.returns
returns c state number task r distinct = offered-judged state number task r distinct
