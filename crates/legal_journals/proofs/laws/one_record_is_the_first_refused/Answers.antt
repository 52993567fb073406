use Rattle.legal_journals.proofs.Grown.{first_one}
use Rattle.legal_journals.proofs.laws.one_record_is_the_first_refused.Goals as goal

pub returns : goal.returns
returns c = first_one
