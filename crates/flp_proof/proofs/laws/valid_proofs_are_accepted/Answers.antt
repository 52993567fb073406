use Rattle.flp_proof.proofs.Complete.{complete}
use Rattle.flp_proof.proofs.laws.valid_proofs_are_accepted.Goals as goal

pub returns : goal.returns
returns g c = λ x y p q seeds joint t shares valid.
    let F = g.C.F.Field in
    let met = g.met.C.F.Field in
    let shape = g.C.Circuit.shape c.args.c.now in
    complete met.laws F.half_of F.root_of met.halves met.roots shape (g.met.C.Circuit.laws c.args.c.now)
    x y p q seeds joint t shares.first_input shares.second_input shares.joint_randomness shares.wire_seeds shares.own_proof valid
