-- What a fault of a lower call is to a checkpoint.
use Rattle.dap_disk.specs.declared.disk.StoreFault.{StoreFault}
use Rattle.dap_disk.specs.declared.disk.StoreFault.TheVariants as store
use Rattle.report_journal.specs.declared.reader.ReadOnlyFault.{ReadOnlyFault}
use Rattle.report_journal.specs.declared.reader.ReadOnlyFault.TheVariants as read
use Rattle.journal_checkpoint.specs.declared.fault.CheckFault.{CheckFault}
use Rattle.journal_checkpoint.specs.declared.fault.CheckFault.TheVariants as check

-- a reading that was refused, as a checkpoint tells it
abbrev pub after_reading : ReadOnlyFault → CheckFault
after_reading read.Down = check.Down
after_reading (read.NotAJournal at) = check.NotAJournal at
after_reading read.NoMemory = check.NoMemory

-- a change that the disk refused, as a checkpoint tells it
abbrev pub after_change : StoreFault → CheckFault
after_change store.Down = check.Down
after_change store.NoMemory = check.NoMemory
