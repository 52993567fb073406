-- What a fault of an opening is to a reading.
use Rattle.report_journal.specs.declared.fault.LogFault.{LogFault}
use Rattle.report_journal.specs.declared.fault.LogFault.TheVariants as log
use Rattle.report_journal.specs.declared.reader.ReadOnlyFault.{ReadOnlyFault}
use Rattle.report_journal.specs.declared.reader.ReadOnlyFault.TheVariants as read

-- the same fault, as a reading tells it
abbrev pub as_read : LogFault → ReadOnlyFault
as_read log.Down = read.Down
as_read (log.NotAJournal at) = read.NotAJournal at
as_read log.NoMemory = read.NoMemory
