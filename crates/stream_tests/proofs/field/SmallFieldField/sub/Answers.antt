use Rattle.std.proofs.Common.{ap, ◌∙◌}
use Rattle.stream_tests.specs.Element.{ring_of}
use Rattle.stream_tests.proofs.field.SmallFieldField.sub.Goals as goal

pub returns : goal.returns
returns c = c.add.ensures ∙ ap (ring_of.add c.args.self) c.neg.ensures
