use Rattle.std.proofs.Common.{◌≤◌, [], length, take, ap, sym, refl, ◌∙◌, arith}
use Rattle.dap_disk.specs.declared.event.Event.TheVariants.{Cut}
use Rattle.dap_disk.specs.Images.{CutTo}
use Rattle.dap_disk.specs.History.{held_after}
use Rattle.dap_disk.proofs.Rules.{then_cut}
use Rattle.dap_disk.proofs.Pushes.{held_is, synced_is, within_is, pending_is, greatest_within}
use Rattle.dap_disk.proofs.store.Store.cut.Goals as goal

pub invariant_of-self-clause-held : goal.invariant_of-self-clause-held
invariant_of-self-clause-held c = λ live.
    let p = c.prepare.new.self in
    c.truncate.ensures.items ∙ ap (λ f. take c.args.len f) (p.held live) ∙ sym (held_is p.first.items p.first.items p.events.items c.push_reserved.new.self.items (Cut c.args.len) (CutTo c.args.len) refl c.push_reserved.ensures.items (λ s. refl))

pub invariant_of-self-clause-last_synced : goal.invariant_of-self-clause-last_synced
invariant_of-self-clause-last_synced c = λ live.
    let p = c.prepare.new.self in
    p.last_synced live ∙ sym (synced_is p.first.items p.first.items p.events.items c.push_reserved.new.self.items (Cut c.args.len) (CutTo c.args.len) refl c.push_reserved.ensures.items (λ s. refl))

pub invariant_of-self-clause-pending : goal.invariant_of-self-clause-pending
invariant_of-self-clause-pending c =
    let p = c.prepare.new.self in
    pending_is p.first.items p.first.items p.events.items c.push_reserved.new.self.items (Cut c.args.len) (CutTo c.args.len) refl c.push_reserved.ensures.items (λ s. refl) p.settled p.within refl p.pending

pub invariant_of-self-clause-placed : goal.invariant_of-self-clause-placed
invariant_of-self-clause-placed c =
    let p = c.prepare.new.self in
    let le : c.args.len ≤ length (held_after p.first.items p.events.items) = omega (arith, ap (λ f. length (held_after f p.events.items)) c.prepare.ensures.same.0, ap (λ e. length (held_after c.args.self.now.first.items e)) c.prepare.ensures.same.1, c.requires) in
    within_is p.first.items p.first.items p.events.items c.push_reserved.new.self.items (Cut c.args.len) (CutTo c.args.len) refl c.push_reserved.ensures.items (λ s. refl)
    p.placed (then_cut (length (held_after p.first.items p.events.items)) c.args.len [] le refl)

pub invariant_of-self-clause-room_bytes : goal.invariant_of-self-clause-room_bytes
invariant_of-self-clause-room_bytes c = λ live.
    let p = c.prepare.new.self in
    greatest_within p.first.items p.first.items p.events.items c.push_reserved.new.self.items (Cut c.args.len) (CutTo c.args.len) refl c.push_reserved.ensures.items (λ s. refl)
    p.settled p.within refl (length p.synced.items) _ (omega (arith, p.room_bytes live, c.truncate.ensures.capacity)) (omega arith)

pub invariant_of-self-clause-room_synced : goal.invariant_of-self-clause-room_synced
invariant_of-self-clause-room_synced c = λ live.
    let p = c.prepare.new.self in
    greatest_within p.first.items p.first.items p.events.items c.push_reserved.new.self.items (Cut c.args.len) (CutTo c.args.len) refl c.push_reserved.ensures.items (λ s. refl)
    p.settled p.within refl (length p.synced.items) _ (p.room_synced live) (omega arith)
