use Rattle.dap_wire.proofs.Looked.{looked_twice}
use Rattle.dap_wire.proofs.upload.LaneEnd.meet.Goals as goal

pub returns-clause-lane : goal.returns-clause-lane
returns-clause-lane c =
    let q = looked_twice c.self.inside.ring c.slots_beside.new.consumer c.slots_beside-2.new.self c.slots_beside.ensures.consumer c.slots_beside-2.ensures.looked in
    rw (← c.self.view_is) (record { into = q.0; received = q.1; waiting = q.2 })
