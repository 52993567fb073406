use Rattle.dap_messages.specs.Laws.{whole_takes, whole_again}
use Rattle.lane_records.specs.Records.{record_}
use Rattle.lane_records.specs.RecordLaws.{record_lawful}
use Rattle.lane_records.proofs.Entries.{all_bytes}
use Rattle.lane_records.proofs.laws.records_are_read.Goals as goal

pub returns-clause-again : goal.returns-clause-again
returns-clause-again c = whole_again record_ record_lawful

pub returns-clause-only : goal.returns-clause-only
returns-clause-only c = λ text x h e. whole_takes record_ record_lawful text x (all_bytes text h) e
