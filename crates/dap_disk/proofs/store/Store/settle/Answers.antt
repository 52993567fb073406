use Rattle.std.proofs.Common.{◌≡◌, List, [], length, drop, ap, sym, ◌∙◌, arith}
use Rattle.std.proofs.lemmas.List.{take_rest, drop_all}
use Rattle.std.proofs.lemmas.Bool.{true_from_ne_false}
use Rattle.dap_disk.specs.declared.event.Event.{Event}
use Rattle.dap_disk.specs.History.{changes_of, puts}
use Rattle.dap_disk.specs.Images.{greatest}
use Rattle.dap_disk.specs.History.{State}
use Rattle.dap_disk.proofs.Rules.{length-puts}
use Rattle.dap_disk.proofs.Pushes.{settled_state, settled_held, settled_within, left_is}
use Rattle.dap_disk.proofs.store.Store.settle.Goals as goal

pub hold_same-requires-clause-room : goal.hold_same-requires-clause-room
hold_same-requires-clause-room c =
    let s = c.args.self.now in
    let left : c.put_events.new.file.items ≡ puts c.args.image (changes_of (drop s.settled s.events.items)) s.synced.items =
    c.put_events.ensures.bytes ∙ ap (λ (es : List Event). puts c.args.image (changes_of es) s.synced.items) (take_rest c.deref.result.now s.settled ∙ ap (λ (es : List Event). drop s.settled es) c.deref.ensures.value) in
    let ok = s.events.ok in
    let live = true_from_ne_false s.live (λ no. c.if-self-len.false (omega (arith, s.empty no, s.within, ok, c.len.ensures))) in
    let size = length-puts c.args.image (changes_of (drop s.settled s.events.items)) s.synced.items in
    let long : length c.put_events.new.file.items ≡ length (puts c.args.image (changes_of (drop s.settled s.events.items)) s.synced.items) = ap length left in
    omega (arith, size, long, s.room_bytes live, ap length c.deref-2.ensures.value)

pub invariant_of-self-2-clause-held : goal.invariant_of-self-2-clause-held
invariant_of-self-2-clause-held c =
    let s = c.args.self.now in
    let left : c.put_events.new.file.items ≡ puts c.args.image (changes_of (drop s.settled s.events.items)) s.synced.items =
    c.put_events.ensures.bytes ∙ ap (λ (es : List Event). puts c.args.image (changes_of es) s.synced.items) (take_rest c.deref.result.now s.settled ∙ ap (λ (es : List Event). drop s.settled es) c.deref.ensures.value) in
    λ live. c.hold_same.ensures.same ∙ c.deref-2.ensures.value ∙ left_is s.first.items s.events.items s.settled c.args.image s.synced.items c.put_events.new.file.items (s.last_synced live) s.pending left
    ∙ sym (settled_held s.first.items s.events.items c.push_reserved.new.self.items c.args.image c.push_reserved.ensures.items)

pub invariant_of-self-2-clause-last_synced : goal.invariant_of-self-2-clause-last_synced
invariant_of-self-2-clause-last_synced c =
    let s = c.args.self.now in
    let left : c.put_events.new.file.items ≡ puts c.args.image (changes_of (drop s.settled s.events.items)) s.synced.items =
    c.put_events.ensures.bytes ∙ ap (λ (es : List Event). puts c.args.image (changes_of es) s.synced.items) (take_rest c.deref.result.now s.settled ∙ ap (λ (es : List Event). drop s.settled es) c.deref.ensures.value) in
    λ live. left_is s.first.items s.events.items s.settled c.args.image s.synced.items c.put_events.new.file.items (s.last_synced live) s.pending left
    ∙ sym (ap (λ (t : State). t.synced) (settled_state s.first.items s.events.items c.push_reserved.new.self.items c.args.image c.push_reserved.ensures.items))

pub invariant_of-self-2-clause-pending : goal.invariant_of-self-2-clause-pending
invariant_of-self-2-clause-pending c =
    let s = c.args.self.now in
    let ok2 = c.push_reserved.new.self.ok in
    let none : drop c.len-self.result c.push_reserved.new.self.items ≡ [] = drop_all c.len-self.result c.push_reserved.new.self.items (omega (arith, ok2, c.len-self.ensures)) in
    ap changes_of none ∙ sym (ap (λ (t : State). t.pending) (settled_state s.first.items s.events.items c.push_reserved.new.self.items c.args.image c.push_reserved.ensures.items))

pub invariant_of-self-2-clause-room_bytes : goal.invariant_of-self-2-clause-room_bytes
invariant_of-self-2-clause-room_bytes c =
    let s = c.args.self.now in
    let left : c.put_events.new.file.items ≡ puts c.args.image (changes_of (drop s.settled s.events.items)) s.synced.items =
    c.put_events.ensures.bytes ∙ ap (λ (es : List Event). puts c.args.image (changes_of es) s.synced.items) (take_rest c.deref.result.now s.settled ∙ ap (λ (es : List Event). drop s.settled es) c.deref.ensures.value) in
    let size = length-puts c.args.image (changes_of (drop s.settled s.events.items)) s.synced.items in
    let long : length c.put_events.new.file.items ≡ length (puts c.args.image (changes_of (drop s.settled s.events.items)) s.synced.items) = ap length left in
    let ok2 = c.push_reserved.new.self.ok in
    let none : drop c.len-self.result c.push_reserved.new.self.items ≡ [] = drop_all c.len-self.result c.push_reserved.new.self.items (omega (arith, ok2, c.len-self.ensures)) in
    let whole : greatest (length c.put_events.new.file.items) (changes_of (drop c.len-self.result c.push_reserved.new.self.items)) ≡ length c.put_events.new.file.items = ap (λ (es : List Event). greatest (length c.put_events.new.file.items) (changes_of es)) none in
    λ live. omega (arith, whole, size, long, s.room_bytes live, c.hold_same.ensures.capacity)

pub invariant_of-self-2-clause-room_synced : goal.invariant_of-self-2-clause-room_synced
invariant_of-self-2-clause-room_synced c =
    let ok2 = c.push_reserved.new.self.ok in
    let none : drop c.len-self.result c.push_reserved.new.self.items ≡ [] = drop_all c.len-self.result c.push_reserved.new.self.items (omega (arith, ok2, c.len-self.ensures)) in
    let whole : greatest (length c.put_events.new.file.items) (changes_of (drop c.len-self.result c.push_reserved.new.self.items)) ≡ length c.put_events.new.file.items = ap (λ (es : List Event). greatest (length c.put_events.new.file.items) (changes_of es)) none in
    λ live. omega (arith, whole, c.put_events.ensures.fits)

pub invariant_of-self-2-clause-placed : goal.invariant_of-self-2-clause-placed
invariant_of-self-2-clause-placed c =
    let s = c.args.self.now in
    settled_within s.first.items s.events.items c.push_reserved.new.self.items c.args.image c.push_reserved.ensures.items
