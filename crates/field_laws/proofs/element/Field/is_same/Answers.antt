use Rattle.std.proofs.Common.{ap, ◌∙◌, sym}
use Rattle.std.proofs.lemmas.Bool.{eqb-true, eq-eqb}
use Rattle.field_laws.proofs.Modulo.{same_number}
use Rattle.field_laws.proofs.element.Field.is_same.Goals as goal

pub returns : goal.returns
returns g c = (
  λ t. same_number g.met.Self.Field.residues c.args.self c.args.other (sym c.value.ensures ∙ eqb-true _ _ t ∙ c.value-2.ensures),
  λ e. eq-eqb _ _ (c.value.ensures ∙ ap g.Self.Field.number e ∙ sym c.value-2.ensures),
)
