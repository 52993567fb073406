use Rattle.std.proofs.Common.{take}
use Rattle.legal_journals.specs.Legal.{IsLegalJournal}
use Rattle.legal_journals.proofs.walk.first_refused.Given as goal

abbrev pub invariant-loop-place : goal.invariant-loop-place
invariant-loop-place g l = IsLegalJournal g.I.PartIndex.node (g.I.PartIndex.part l.lane) (take l.place l.records) × g.I.PartIndex.indexes l.index (take l.place l.records)
