use Rattle.legal_journals.proofs.Words.{justified-more}
use Rattle.legal_journals.proofs.word_laws.a_justified_message_stays_so.Goals as goal

pub returns : goal.returns
returns c x earlier m k = justified-more x earlier m k
