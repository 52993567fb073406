-- What a fault of the disk is to a journal.
use Rattle.dap_disk.specs.declared.disk.StoreFault.{StoreFault}
use Rattle.dap_disk.specs.declared.disk.StoreFault.TheVariants as store
use Rattle.report_journal.specs.declared.fault.LogFault.{LogFault}
use Rattle.report_journal.specs.declared.fault.LogFault.TheVariants as log

-- a change that the disk refused, as the opening tells it
abbrev pub after_change : StoreFault → LogFault
after_change store.Down = log.Down
after_change store.NoMemory = log.NoMemory
