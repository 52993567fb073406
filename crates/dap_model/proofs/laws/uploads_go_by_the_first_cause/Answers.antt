use Rattle.dap_model.proofs.UploadLaws.{first_cause}
use Rattle.dap_model.proofs.laws.uploads_go_by_the_first_cause.Goals as goal

pub returns : goal.returns
returns c f state number bytes = first_cause state number bytes
