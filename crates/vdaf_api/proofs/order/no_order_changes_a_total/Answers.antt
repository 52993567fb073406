use Rattle.vdaf_api.proofs.OrderLaws.{total-permutation}
use Rattle.vdaf_api.proofs.order.no_order_changes_a_total.Goals as goal

pub returns : goal.returns
returns g c shares others h = total-permutation (g.met.V.Vdaf.laws c.args.v.now).space shares others h
