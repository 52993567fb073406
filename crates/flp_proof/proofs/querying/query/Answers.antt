use Rattle.flp_proof.proofs.querying.query.Goals as goal

pub log_above-log-requires : goal.log_above-log-requires
log_above-log-requires g c = record { some = rw c.calls.ensures ((g.met.C.Circuit.laws c.args.c.now).has_calls); few = rw c.calls.ensures ((g.met.C.Circuit.laws c.args.c.now).few_calls) }
