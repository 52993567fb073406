use Rattle.dap_model.proofs.WholeLaws.{whole-collection, whole-script}
use Rattle.dap_model.proofs.whole.honest_batches_have_whole_sums.Goals as goal

pub returns-clause-state : goal.returns-clause-state
returns-clause-state g c state number name span task measurements honest below =
    whole-collection g.V.Vdaf.of_kind g.met.V.Vdaf.kind_laws state number name span task measurements honest below

pub returns-clause-script : goal.returns-clause-script
returns-clause-script g c opened before name span behind task measurements honest below =
    whole-script g.V.Vdaf.of_kind g.met.V.Vdaf.kind_laws opened before name span behind task measurements honest below
