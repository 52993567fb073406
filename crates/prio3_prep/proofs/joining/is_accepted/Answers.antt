use Rattle.std.proofs.Common.{◌≡◌, length, drop, ap, sym, ◌∙◌, refl, arith}
use Rattle.std.proofs.lemmas.List.{take_at}
use Rattle.field_laws.specs.Vector.{add_elements}
use Rattle.field_laws.specs.Polynomial.{add_polynomials}
use Rattle.field_laws.proofs.Polynomials.{add_elements-same_length}
use Rattle.prio3_share.specs.Preparing.{accepts}
use Rattle.prio3_share.proofs.Fields.{base}
use Rattle.prio3_prep.proofs.Deciding.{length-sum, decides}
use Rattle.prio3_prep.proofs.joining.is_accepted.Goals as goal

pub returns : goal.returns
returns g c = λ kind.
    let ring = g.C.F.Field.ring in
    let b = base g.C.F.Field in
    let shape = g.C.Circuit.shape c.args.c.now in
    let v = c.args.leader.items in
    let w = c.args.helper.now in
    let same : length v ≡ length w = c.requires.leader ∙ sym c.requires.helper in
    let sum : c.add_all.new.to ≡ add_polynomials ring v w = c.add_all.ensures.elements ∙ ap (λ l. add_elements ring l w) c.deref_mut.ensures.value ∙ add_elements-same_length ring v w same in
    let size : length c.add_all.new.to ≡ c.args.leader.len = ap length sum ∙ length-sum ring v w (length v) refl (sym same) ∙ (let e : length v ≡ c.args.leader.len = omega (arith, c.args.leader.ok) in e) in
    decides b shape kind g.met.C.F.Field.residues c.deref.result.now c.decide.result c.decide.ensures
    ∙ ap (accepts b shape kind) (c.deref.ensures.value ∙ take_at c.add_all.new.to (drop (length c.add_all.new.to) v) c.args.leader.len size ∙ sum)
