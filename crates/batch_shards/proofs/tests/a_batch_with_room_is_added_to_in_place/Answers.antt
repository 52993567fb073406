use Rattle.std.proofs.Common.{◌≡◌, ℕ, List, false, sym, ap, ◌∙◌, subst}
use Rattle.vdaf_api.specs.Toy.{toy_space}
use Rattle.batch_shards.specs.declared.bucket.Bucket.{Bucket}
use Rattle.batch_shards.specs.Bucket.{nothing, with_room, with_rejected, HasSum, IsSum}
use Rattle.batch_shards.specs.Batches.{Kept, bucket_of, changed}
use Rattle.batch_shards.proofs.Kept.{bucket_of-changed}
use Rattle.batch_shards.proofs.Rooms.{has-held}
use Rattle.batch_shards.proofs.tests.a_batch_with_room_is_added_to_in_place.Goals as goal

pub add_in_place-requires-clause-ready : goal.add_in_place-requires-clause-ready
add_in_place-requires-clause-ready g c =
    c.in_ok-ready.ensures.room (subst (λ (b : Bucket). IsSum toy_space b.sum) (sym (c.new-buckets.ensures.holds_nothing c.expect-name.result 0)) tt)

-- a batch of which nothing was held is open with room
stays_open : (kept ready : Kept) (name : List ℕ) → ready ≡ changed kept name 0 (with_room toy_space (bucket_of kept name 0)) → bucket_of kept name 0 ≡ nothing
    → (bucket_of ready name 0).closed ≡ false
stays_open kept ready name made none =
    ap (λ m. (bucket_of m name 0).closed) made ∙ ap (λ (b : Bucket). b.closed) (bucket_of-changed kept name 0 (with_room toy_space (bucket_of kept name 0)))
    ∙ ap (λ (b : Bucket). b.closed) none

pub add_in_place-requires-clause-open : goal.add_in_place-requires-clause-open
add_in_place-requires-clause-open g c =
    let name = c.expect-name.result in
    stays_open c.new-buckets.result c.ready.new.self name c.in_ok-ready.ensures.ok (c.new-buckets.ensures.holds_nothing name 0)

pub reject_in_place-requires-clause-held : goal.reject_in_place-requires-clause-held
reject_in_place-requires-clause-held g c = has-held toy_space c.add_in_place.new.self c.expect-name.result 0 c.add_in_place.ensures.room

pub reject_in_place-requires-clause-open : goal.reject_in_place-requires-clause-open
reject_in_place-requires-clause-open g c =
    let name = c.expect-name.result in
    ap (λ m. (bucket_of m name 0).closed) c.add_in_place.ensures.counted ∙ ap (λ (b : Bucket). b.closed) (bucket_of-changed c.ready.new.self name 0 _)
    ∙ stays_open c.new-buckets.result c.ready.new.self name c.in_ok-ready.ensures.ok (c.new-buckets.ensures.holds_nothing name 0)

pub close_in_place-requires : goal.close_in_place-requires
close_in_place-requires g c =
    let name = c.expect-name.result in
    let second = bucket_of c.add_in_place.new.self name 0 in
    has-held toy_space c.reject_in_place.new.self name 0
    (subst (λ (b : Bucket). HasSum toy_space b.sum) (sym (ap (λ m. bucket_of m name 0) c.reject_in_place.ensures ∙ bucket_of-changed c.add_in_place.new.self name 0 (with_rejected second)))
    c.add_in_place.ensures.room)
