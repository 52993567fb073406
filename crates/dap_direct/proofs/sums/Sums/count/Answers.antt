use Rattle.dap_direct.proofs.sums.Sums.count.Goals as goal

pub add_share-requires-in-Some-clause-out : goal.add_share-requires-in-Some-clause-out
add_share-requires-in-Some-clause-out g c = let outs = rw c.in-Some.is at c.requires.outs in rw c.deref-in-Some.ensures.value outs.1
