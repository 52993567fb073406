use Rattle.legal_journals.proofs.Numbers.{one_number}
use Rattle.legal_journals.proofs.walk.may.Goals as goal

pub part_may-requires-clause-numbered : goal.part_may-requires-clause-numbered
part_may-requires-clause-numbered g c = one_number g.I.PartIndex.node (g.I.PartIndex.part c.args.lane) c.args.earlier.now c.requires.legal
