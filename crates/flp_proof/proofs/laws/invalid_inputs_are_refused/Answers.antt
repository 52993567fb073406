use Rattle.field_laws.proofs.Divisors.{prime_divisors}
use Rattle.flp_proof.proofs.Refused.{refused_root, refused_count}
use Rattle.flp_proof.proofs.laws.invalid_inputs_are_refused.Goals as goal

pub returns-clause-accepted_points_are_roots : goal.returns-clause-accepted_points_are_roots
returns-clause-accepted_points_are_roots g c =
    let F = g.C.F.Field in
    let met = g.met.C.F.Field in
    refused_root met.laws F.half_of F.root_of met.halves met.roots (g.C.Circuit.shape c.args.c.now) (g.met.C.Circuit.laws c.args.c.now)

pub returns-clause-accepted_points_are_few : goal.returns-clause-accepted_points_are_few
returns-clause-accepted_points_are_few g c =
    let F = g.C.F.Field in
    let met = g.met.C.F.Field in
    refused_count met.laws F.half_of F.root_of met.halves met.roots (g.C.Circuit.shape c.args.c.now) (g.met.C.Circuit.laws c.args.c.now) (prime_divisors met.residues met.is_ring met.prime)
