use Rattle.dap_disk.proofs.Calls.{new_only}
use Rattle.dap_disk.proofs.mem_disk.MemDisk.new.Goals as goal

pub returns-clause-synced : goal.returns-clause-synced
returns-clause-synced c = new_only c.args.bytes.items c.new.result.first.items c.new.result.events.items c.new.ensures.first c.new.ensures.events
