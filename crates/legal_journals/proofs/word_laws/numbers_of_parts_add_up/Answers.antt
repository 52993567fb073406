use Rattle.legal_journals.proofs.Parts.{failed-count, finished-checksum, finished-count, share-append}
use Rattle.legal_journals.proofs.word_laws.numbers_of_parts_add_up.Goals as goal

pub returns-clause-count : goal.returns-clause-count
returns-clause-count c space told more = finished-count told more

pub returns-clause-rejected : goal.returns-clause-rejected
returns-clause-rejected c space told more = failed-count told more

pub returns-clause-checksum : goal.returns-clause-checksum
returns-clause-checksum c space told more = finished-checksum told more

pub returns-clause-share : goal.returns-clause-share
returns-clause-share c space told more laws = share-append laws told more
