use Rattle.lane_records.specs.Journal.{bytes_of}
use Rattle.lane_records.proofs.Entries.{answers_only}
use Rattle.lane_records.proofs.journal.read_records.Goals as goal

pub returns-clause-every_spelling_is_read : goal.returns-clause-every_spelling_is_read
returns-clause-every_spelling_is_read c = λ xs a s. answers_only (bytes_of c.args.texts.now) xs c.read_each.result a s c.read_each.ensures.first_fault
