use Rattle.std.proofs.Common.{inr}
use Rattle.dap_disk.specs.declared.event.Event.TheVariants.{Cut}
use Rattle.dap_disk.proofs.Calls.{push_time, cut_images, cut_done, cut_waits}
use Rattle.dap_disk.proofs.mem_disk.MemDiskDisk.cut.Goals as goal

pub returns-then-stops_here-clause-images : goal.returns-then-stops_here-clause-images
returns-then-stops_here-clause-images c =
    cut_images c.args.self.now.store.first.items c.cut.new.self.first.items c.args.self.now.store.events.items c.cut.new.self.events.items c.in-Ok.ensures.first c.args.len c.in-Ok.ensures.ok c.cut.new.self.placed

pub returns-then-stops_here-clause-time : goal.returns-then-stops_here-clause-time
returns-then-stops_here-clause-time c =
    push_time c.args.self.now.store.first.items c.cut.new.self.first.items c.args.self.now.store.events.items c.cut.new.self.events.items c.in-Ok.ensures.first (Cut c.args.len) c.in-Ok.ensures.ok

pub returns-clause-images : goal.returns-clause-images
returns-clause-images c =
    cut_images c.args.self.now.store.first.items c.cut.new.self.first.items c.args.self.now.store.events.items c.cut.new.self.events.items c.in-Ok.ensures.first c.args.len c.in-Ok.ensures.ok c.cut.new.self.placed

pub returns-clause-time : goal.returns-clause-time
returns-clause-time c =
    push_time c.args.self.now.store.first.items c.cut.new.self.first.items c.args.self.now.store.events.items c.cut.new.self.events.items c.in-Ok.ensures.first (Cut c.args.len) c.in-Ok.ensures.ok

pub returns-clause-done : goal.returns-clause-done
returns-clause-done c =
    cut_done c.args.self.now.store.first.items c.cut.new.self.first.items c.args.self.now.store.events.items c.cut.new.self.events.items c.in-Ok.ensures.first c.args.len c.in-Ok.ensures.ok

pub returns-then-stops_here-clause-moves : goal.returns-then-stops_here-clause-moves
returns-then-stops_here-clause-moves c =
    inr (c.stops_here.ensures.next, cut_waits c.args.self.now.store.first.items c.cut.new.self.first.items c.args.self.now.store.events.items c.cut.new.self.events.items c.in-Ok.ensures.first c.args.len c.in-Ok.ensures.ok)

pub returns-clause-moves : goal.returns-clause-moves
returns-clause-moves c =
    inr (c.stops_here.ensures.next, cut_waits c.args.self.now.store.first.items c.cut.new.self.first.items c.args.self.now.store.events.items c.cut.new.self.events.items c.in-Ok.ensures.first c.args.len c.in-Ok.ensures.ok)
