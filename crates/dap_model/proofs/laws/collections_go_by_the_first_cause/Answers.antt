use Rattle.dap_model.proofs.CollectLaws.{collect-first_cause}
use Rattle.dap_model.proofs.laws.collections_go_by_the_first_cause.Goals as goal

pub returns : goal.returns
returns c f state number name span = collect-first_cause f state number span name
