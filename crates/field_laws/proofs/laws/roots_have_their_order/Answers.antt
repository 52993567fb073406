use Rattle.std.proofs.Common.{◌≡◌, ◌≢◌, sym, ap, ◌∙◌, arith, ℕ}
use Rattle.field_laws.proofs.Modulo.{modular}
use Rattle.field_laws.proofs.Orders.{unit-differs, root_order}
use Rattle.field_laws.proofs.laws.roots_have_their_order.Goals as goal

pub returns-clause-has_its_order : goal.returns-clause-has_its_order
returns-clause-has_its_order g c =
    let ring = g.F.Field.ring in
    let number = g.F.Field.number in
    let counts = modular g.met.F.Field.residues g.met.F.Field.is_ring in
    let differs : ring.unit ≢ ring.nought = λ same. let one : ℕ = 1 in let e : one ≡ 0 = sym counts.unit ∙ ap number same ∙ counts.nought in omega arith in
    root_order g.met.F.Field.laws (unit-differs g.met.F.Field.laws g.F.Field.half_of g.met.F.Field.halves differs) g.met.F.Field.roots
