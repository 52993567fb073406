use Rattle.dap_model.proofs.RepeatLaws.{collections-repeated}
use Rattle.dap_model.proofs.laws.collections_are_repeated.Goals as goal

pub returns : goal.returns
returns c f state number later name span what lines collected = collections-repeated f state number later name span what lines collected
