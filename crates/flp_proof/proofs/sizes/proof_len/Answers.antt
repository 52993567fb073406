use Rattle.flp_proof.proofs.sizes.proof_len.Goals as goal

pub log_above-requires : goal.log_above-requires
log_above-requires g c = record { some = rw c.calls.ensures ((g.met.C.Circuit.laws c.args.c.now).has_calls); few = rw c.calls.ensures ((g.met.C.Circuit.laws c.args.c.now).few_calls) }
