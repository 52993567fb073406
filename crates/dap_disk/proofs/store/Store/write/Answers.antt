use Rattle.std.proofs.Common.{◌+◌, ◌≤◌, ◌++◌, ◌∷◌, [], length, ap, sym, refl, ◌∙◌, arith}
use Rattle.dap_disk.specs.declared.event.Event.TheVariants.{Wrote}
use Rattle.dap_disk.specs.Disk.{written}
use Rattle.dap_disk.specs.Images.{Written}
use Rattle.dap_disk.specs.History.{laid, held_after}
use Rattle.dap_disk.specs.HistoryLaws.{laid_is}
use Rattle.dap_disk.proofs.Rules.{then_write}
use Rattle.dap_disk.proofs.Pushes.{held_is, synced_is, within_is, pending_is, greatest_within}
use Rattle.dap_disk.proofs.store.Store.write.Goals as goal

pub invariant_of-self-clause-held : goal.invariant_of-self-clause-held
invariant_of-self-clause-held c = λ live.
    let p = c.prepare.new.self in
    let v = c.in_ok-copy.copy in
    let was = p.held live in
    let le : c.args.at ≤ length p.bytes.items = omega (arith, ap length was, ap (λ f. length (held_after f p.events.items)) c.prepare.ensures.same.0, ap (λ e. length (held_after c.args.self.now.first.items e)) c.prepare.ensures.same.1, c.requires) in
    c.write_over.ensures.bytes ∙ ap (λ b. written c.args.at b p.bytes.items) (sym c.in_ok-copy.ensures.items) ∙ sym (laid_is c.args.at v.items p.bytes.items le)
    ∙ ap (λ f. laid c.args.at v.items f) was ∙ sym (held_is p.first.items p.first.items p.events.items c.push_reserved.new.self.items (Wrote c.args.at v) (Written c.args.at v.items) refl c.push_reserved.ensures.items (λ s. refl))

pub invariant_of-self-clause-last_synced : goal.invariant_of-self-clause-last_synced
invariant_of-self-clause-last_synced c = λ live.
    let p = c.prepare.new.self in
    p.last_synced live ∙ sym (synced_is p.first.items p.first.items p.events.items c.push_reserved.new.self.items (Wrote c.args.at c.in_ok-copy.copy) (Written c.args.at c.in_ok-copy.copy.items) refl c.push_reserved.ensures.items (λ s. refl))

pub invariant_of-self-clause-pending : goal.invariant_of-self-clause-pending
invariant_of-self-clause-pending c =
    let p = c.prepare.new.self in
    pending_is p.first.items p.first.items p.events.items c.push_reserved.new.self.items (Wrote c.args.at c.in_ok-copy.copy) (Written c.args.at c.in_ok-copy.copy.items) refl c.push_reserved.ensures.items (λ s. refl)
    p.settled p.within refl p.pending

pub invariant_of-self-clause-placed : goal.invariant_of-self-clause-placed
invariant_of-self-clause-placed c =
    let p = c.prepare.new.self in
    let v = c.in_ok-copy.copy in
    let le : c.args.at ≤ length (held_after p.first.items p.events.items) = omega (arith, ap (λ f. length (held_after f p.events.items)) c.prepare.ensures.same.0, ap (λ e. length (held_after c.args.self.now.first.items e)) c.prepare.ensures.same.1, c.requires) in
    within_is p.first.items p.first.items p.events.items c.push_reserved.new.self.items (Wrote c.args.at v) (Written c.args.at v.items) refl c.push_reserved.ensures.items (λ s. refl)
    p.placed (then_write (length (held_after p.first.items p.events.items)) c.args.at (c.args.at + length v.items) [] le refl)

pub invariant_of-self-clause-room_bytes : goal.invariant_of-self-clause-room_bytes
invariant_of-self-clause-room_bytes c = λ live.
    let p = c.prepare.new.self in
    let v = c.in_ok-copy.copy in
    greatest_within p.first.items p.first.items p.events.items c.push_reserved.new.self.items (Wrote c.args.at v) (Written c.args.at v.items) refl c.push_reserved.ensures.items (λ s. refl)
    p.settled p.within refl (length p.synced.items) _ (omega (arith, p.room_bytes live, c.write_over.ensures.capacity)) (let size = ap length c.in_ok-copy.ensures.items in omega (arith, size, c.in_ok-prepare.ensures.room.0, c.write_over.ensures.capacity))

pub invariant_of-self-clause-room_synced : goal.invariant_of-self-clause-room_synced
invariant_of-self-clause-room_synced c = λ live.
    let p = c.prepare.new.self in
    let v = c.in_ok-copy.copy in
    greatest_within p.first.items p.first.items p.events.items c.push_reserved.new.self.items (Wrote c.args.at v) (Written c.args.at v.items) refl c.push_reserved.ensures.items (λ s. refl)
    p.settled p.within refl (length p.synced.items) _ (p.room_synced live) (let size = ap length c.in_ok-copy.ensures.items in omega (arith, size, c.in_ok-prepare.ensures.room.1))

pub returns-clause-ok : goal.returns-clause-ok
returns-clause-ok c = (c.in_ok-copy.copy, c.in_ok-copy.ensures.items, c.push_reserved.ensures.items ∙ ap (λ l. l ++ Wrote c.args.at c.in_ok-copy.copy ∷ []) c.prepare.ensures.same.1)
