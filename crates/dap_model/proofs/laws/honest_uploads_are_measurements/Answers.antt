use Rattle.dap_model.proofs.UploadLaws.{upload-honest}
use Rattle.dap_model.proofs.laws.honest_uploads_are_measurements.Goals as goal

pub returns : goal.returns
returns g c state number name id time value seed r honest =
    upload-honest g.V.Vdaf.of_kind g.met.V.Vdaf.kind_laws state number name id time value seed r honest
