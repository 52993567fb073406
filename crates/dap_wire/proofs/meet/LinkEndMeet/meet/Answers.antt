use Rattle.std.proofs.Common.{refl}
use Rattle.dap_wire.proofs.Looked.{looked_twice, put_twice}
use Rattle.dap_wire.proofs.meet.LinkEndMeet.meet.Goals as goal

pub returns-clause-near : goal.returns-clause-near
returns-clause-near g c =
    let p = put_twice c.near.inside.out c.slots_beside.new.self c.slots_beside-3.new.producer c.slots_beside.ensures.looked c.slots_beside-3.ensures.producer in
    let q = looked_twice c.near.inside.ring c.slots_beside-2.new.consumer c.slots_beside-4.new.self c.slots_beside-2.ensures.consumer c.slots_beside-4.ensures.looked in
    rw (← c.near.view_is) (record { end = record { out = p.0; into = q.0; made = refl }; sent = p.1; room = p.2; received = q.1; waiting = q.2; held = refl; drops = refl; fates = refl })

pub returns-clause-far : goal.returns-clause-far
returns-clause-far g c =
    let p = put_twice c.self.inside.out c.slots_beside-2.new.self c.slots_beside-4.new.producer c.slots_beside-2.ensures.looked c.slots_beside-4.ensures.producer in
    let q = looked_twice c.self.inside.ring c.slots_beside.new.consumer c.slots_beside-3.new.self c.slots_beside.ensures.consumer c.slots_beside-3.ensures.looked in
    rw (← c.self.view_is) (record { end = record { out = p.0; into = q.0; made = refl }; sent = p.1; room = p.2; received = q.1; waiting = q.2; held = refl; drops = refl; fates = refl })

pub returns-clause-stays : goal.returns-clause-stays
returns-clause-stays g c = returns-clause-far g c
