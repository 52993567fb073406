use Rattle.dap_model.proofs.UploadLaws.{measure-first_cause}
use Rattle.dap_model.proofs.laws.measurements_go_by_the_first_cause.Goals as goal

pub returns : goal.returns
returns c f state number name id time value seed = measure-first_cause f state number name id time value seed
