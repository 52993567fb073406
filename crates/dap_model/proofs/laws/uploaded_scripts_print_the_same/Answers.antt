use Rattle.dap_model.proofs.UploadedLaws.{uploaded-same}
use Rattle.dap_model.proofs.laws.uploaded_scripts_print_the_same.Goals as goal

pub returns : goal.returns
returns g c opened lines others uploaded = uploaded-same g.V.Vdaf.of_kind g.met.V.Vdaf.kind_laws opened lines others uploaded
