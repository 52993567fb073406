use Rattle.legal_journals.proofs.Grown.{legal_grown}
use Rattle.legal_journals.proofs.laws.legal_journals_grow_by_allowed_records.Goals as goal

pub returns-clause-grown : goal.returns-clause-grown
returns-clause-grown c = legal_grown
