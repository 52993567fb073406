use Rattle.std.proofs.Common.{◌≡◌, ◌+◌, ◌∷◌, List, length, drop, ap, sym, ◌∙◌, arith}
use Rattle.std.proofs.lemmas.List.{drop_more}
use Rattle.dap_disk.specs.declared.event.Event.{Event}
use Rattle.dap_disk.specs.History.{change_of, changes_of, puts}
use Rattle.dap_disk.specs.Images.{greatest}
use Rattle.dap_disk.proofs.Rules.{puts-append, greatest_first, greatest_puts}
use Rattle.dap_disk.proofs.place.put_events.Goals as goal

pub put_event-requires : goal.put_event-requires
put_event-requires c =
    let e = c.event-item.result in
    let i = c.loop-event.event-index in
    let later = drop (i + 1) c.args.events.now in
    let rest : drop i c.args.events.now ≡ e ∷ later =
    drop_more c.args.events.now i e c.loop-event-test.true ∙ ap (λ (x : Event). x ∷ later) (sym c.event-item.is) in
    let n = length c.loop-event.file.items in
    let whole : greatest n (changes_of (drop i c.args.events.now)) ≡ greatest n (changes_of (e ∷ later)) = ap (λ (l : List Event). greatest n (changes_of l)) rest in
    let first = greatest_first n (change_of e) (changes_of later) in
    let room = c.loop-event.invariant.room in
    record { room = omega (arith, whole, first, room) }

pub loop-event-preserved : goal.loop-event-preserved
loop-event-preserved c =
    let e = c.event-item.result in
    let i = c.loop-event.event-index in
    let later = drop (i + 1) c.args.events.now in
    let rest : drop i c.args.events.now ≡ e ∷ later =
    drop_more c.args.events.now i e c.loop-event-test.true ∙ ap (λ (x : Event). x ∷ later) (sym c.event-item.is) in
    let was = c.loop-event.file.items in
    let now = c.put_event.ensures.bytes in
    let whole : greatest (length was) (changes_of (drop i c.args.events.now)) ≡ greatest (length was) (changes_of (e ∷ later)) = ap (λ (l : List Event). greatest (length was) (changes_of l)) rest in
    let room = c.loop-event.invariant.room in
    let next = greatest_puts c.args.image (change_of e) (changes_of later) was in
    let size : greatest (length c.put_event.new.file.items) (changes_of later) ≡ greatest (length (puts c.args.image (change_of e) was)) (changes_of later) = ap (λ l. greatest (length l) (changes_of later)) now in
    record {
      bytes =
          ap (λ l. puts c.args.image (changes_of later) l) now ∙ sym (puts-append c.args.image (change_of e) (changes_of later) was)
          ∙ ap (λ (l : List Event). puts c.args.image (changes_of l) was) (sym rest) ∙ c.loop-event.invariant.bytes;
      room = omega (arith, whole, room, next, size, c.put_event.ensures.capacity);
      capacity = omega (arith, c.loop-event.invariant.capacity, c.put_event.ensures.capacity);
    }
