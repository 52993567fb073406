use Rattle.std.proofs.Common.{◌≤◌, arith}
use Rattle.field_laws.proofs.Divisors.{prime_divisors}
use Rattle.field_laws.proofs.Proth.{modulus_large}
use Rattle.flp_circuits.proofs.Refusals.{histogram_refuses}
use Rattle.flp_circuits.proofs.laws.only_histograms_stay_valid.Goals as goal

pub returns : goal.returns
returns g c =
    let E = g.E.Field in
    let met = g.met.E.Field in
    let large : 65536 ≤ E.MODULUS = modulus_large met.residues met.is_ring met.laws E.half_of E.root_of met.halves met.roots in
    histogram_refuses met.laws met.residues met.is_ring (prime_divisors met.residues met.is_ring met.prime) (omega arith)
