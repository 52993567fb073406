use Rattle.std.proofs.Common.{◌-◌, ◌^◌, refl, ap, ◌∙◌, arith}
use Rattle.std.proofs.lemmas.Nat.{one_shl}
use Rattle.field_laws.specs.Ring.{power}
use Rattle.stream_tests.specs.Element.{root_of_log, ring_of}
use Rattle.stream_tests.specs.Laws.{generator_is}
use Rattle.stream_tests.proofs.field.SmallFieldField.root.Goals as goal

pub returns : goal.returns
unfolding root_of_log
returns c =
    c.pow.ensures
    ∙ ap (power ring_of _) (one_shl (18 - c.args.log) 128 (omega arith))
    ∙ ap (λ x. power ring_of x (2 ^ (18 - c.args.log))) (generator_is _ refl)
