use Rattle.std.proofs.Common.{ap}
use Rattle.dap_disk.specs.declared.image.Image.TheVariants.{New}
use Rattle.dap_disk.specs.declared.plan.Plan.{Plan}
use Rattle.dap_disk.proofs.Calls.{up_stays, settle_state, settle_time, settle_no_more, sync_same, sync_only}
use Rattle.dap_disk.proofs.mem_disk.MemDiskDisk.sync.Goals as goal

pub returns-clause-durable : goal.returns-clause-durable
returns-clause-durable c =
    sync_only c.args.self.now.store.first.items c.settle.new.self.first.items c.args.self.now.store.events.items c.settle.new.self.events.items c.settle.ensures.first c.settle.ensures.events

pub returns-clause-same : goal.returns-clause-same
returns-clause-same c =
    sync_same c.args.self.now.store.first.items c.settle.new.self.first.items c.args.self.now.store.events.items c.settle.new.self.events.items c.settle.ensures.first c.settle.ensures.events

pub returns-clause-images : goal.returns-clause-images
returns-clause-images c =
    settle_no_more c.args.self.now.store.first.items c.settle.new.self.first.items c.args.self.now.store.events.items c.settle.new.self.events.items c.settle.ensures.first New c.settle.ensures.events

pub returns-clause-time : goal.returns-clause-time
returns-clause-time c =
    settle_time c.args.self.now.store.first.items c.settle.new.self.first.items c.args.self.now.store.events.items c.settle.new.self.events.items c.settle.ensures.first New c.settle.ensures.events

pub returns-clause-moves : goal.returns-clause-moves
returns-clause-moves c =
    let m = c.args.self.now in
    let s = m.store in (
      c.stops_here.ensures.next,
      λ up. settle_state s.first.items c.settle.new.self.first.items s.events.items c.settle.new.self.events.items c.settle.ensures.first New c.settle.ensures.events,
      λ stopped. absurd (up_stays c.stops_here.new.self.up m.plan.up (ap (λ (p : Plan). p.up) (c.stops_here.ensures.goes_on c.if-stops_here.false).1) c.requires stopped),
    )
