use Rattle.helper_lane.proofs.Lookups.{first_turned}
use Rattle.helper_lane.proofs.lookup.Lookup.new.Goals as goal

pub invariant_of-result : goal.invariant_of-result
invariant_of-result c = record { turned = λ j. first_turned c.requires.legal.0 c.args.records.now j c.requires.legal.1; indexed = c.requires.indexed }
