use Rattle.dap_model.proofs.CountLaws.{batch_is_counted}
use Rattle.dap_model.proofs.laws.batches_are_counted.Goals as goal

pub returns : goal.returns
returns g c opened task span number lines known buckets passes taken before uncollected =
    batch_is_counted g.V.Vdaf.of_kind opened g.met.V.Vdaf.kind_laws task known span number lines buckets passes taken before uncollected
