use Rattle.std.proofs.Common.{refl, inr}
use Rattle.dap_disk.specs.History.{held_after}
use Rattle.dap_disk.specs.declared.event.Event.TheVariants.{Wrote}
use Rattle.dap_disk.proofs.Calls.{push_time, wrote_images, wrote_done, wrote_waits}
use Rattle.dap_disk.proofs.mem_disk.MemDiskDisk.write_at.Goals as goal

pub returns-then-stops_here-clause-images : goal.returns-then-stops_here-clause-images
returns-then-stops_here-clause-images c =
    wrote_images c.args.self.now.store.first.items c.write.new.self.first.items c.args.self.now.store.events.items c.write.new.self.events.items c.in-Ok.ensures.first c.args.at c.args.bytes.now c.in-Ok.ensures.ok.0 c.in-Ok.ensures.ok.1 c.in-Ok.ensures.ok.2 c.write.new.self.placed

pub returns-then-stops_here-clause-time : goal.returns-then-stops_here-clause-time
returns-then-stops_here-clause-time c =
    push_time c.args.self.now.store.first.items c.write.new.self.first.items c.args.self.now.store.events.items c.write.new.self.events.items c.in-Ok.ensures.first (Wrote c.args.at c.in-Ok.ensures.ok.0) c.in-Ok.ensures.ok.2

pub returns-clause-images : goal.returns-clause-images
returns-clause-images c =
    wrote_images c.args.self.now.store.first.items c.write.new.self.first.items c.args.self.now.store.events.items c.write.new.self.events.items c.in-Ok.ensures.first c.args.at c.args.bytes.now c.in-Ok.ensures.ok.0 c.in-Ok.ensures.ok.1 c.in-Ok.ensures.ok.2 c.write.new.self.placed

pub returns-clause-time : goal.returns-clause-time
returns-clause-time c =
    push_time c.args.self.now.store.first.items c.write.new.self.first.items c.args.self.now.store.events.items c.write.new.self.events.items c.in-Ok.ensures.first (Wrote c.args.at c.in-Ok.ensures.ok.0) c.in-Ok.ensures.ok.2

pub returns-clause-done : goal.returns-clause-done
returns-clause-done c =
    wrote_done c.args.self.now.store.first.items c.write.new.self.first.items c.args.self.now.store.events.items c.write.new.self.events.items c.in-Ok.ensures.first c.args.at c.args.bytes.now c.in-Ok.ensures.ok.0 c.in-Ok.ensures.ok.1 c.in-Ok.ensures.ok.2 (c.requires.within (held_after c.args.self.now.store.first.items c.args.self.now.store.events.items) refl)

pub returns-then-stops_here-clause-moves : goal.returns-then-stops_here-clause-moves
returns-then-stops_here-clause-moves c =
    inr (c.stops_here.ensures.next, wrote_waits c.args.self.now.store.first.items c.write.new.self.first.items c.args.self.now.store.events.items c.write.new.self.events.items c.in-Ok.ensures.first c.args.at c.args.bytes.now c.in-Ok.ensures.ok.0 c.in-Ok.ensures.ok.1 c.in-Ok.ensures.ok.2)

pub returns-clause-moves : goal.returns-clause-moves
returns-clause-moves c =
    inr (c.stops_here.ensures.next, wrote_waits c.args.self.now.store.first.items c.write.new.self.first.items c.args.self.now.store.events.items c.write.new.self.events.items c.in-Ok.ensures.first c.args.at c.args.bytes.now c.in-Ok.ensures.ok.0 c.in-Ok.ensures.ok.1 c.in-Ok.ensures.ok.2)
