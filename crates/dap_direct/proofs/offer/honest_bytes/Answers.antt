use Rattle.dap_direct.proofs.HonestLemmas.{made_bytes}
use Rattle.dap_direct.proofs.offer.honest_bytes.Goals as goal

pub returns-in-Ok : goal.returns-in-Ok
returns-in-Ok g c =
    made_bytes (g.V.Vdaf.functions c.args.vdaf.now) c.args.task.now c.args.given.now.id c.args.given.now.time c.args.given.now.value.now c.args.given.now.seed c.in-Ok.bytes.items
    (rw c.as_slice.ensures at c.in-Ok.ensures.made) (rw c.as_slice.ensures at c.in-Ok.ensures.allowed)
