use Rattle.dap_model.proofs.HonestLaws.{honest-batch}
use Rattle.dap_model.proofs.laws.honest_batches_are_counted.Goals as goal

pub returns : goal.returns
returns g c state number name span task measurements kind key carry known passes due =
    honest-batch g.V.Vdaf.of_kind task (g.met.V.Vdaf.kind_laws task.kind kind) key state number name span measurements carry known passes due
