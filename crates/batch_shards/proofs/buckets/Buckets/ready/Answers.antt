use Rattle.std.proofs.Common.{◌≡◌, Ok, None, sym, ap, ◌∙◌}
use Rattle.batch_shards.specs.declared.bucket.Bucket.{Bucket}
use Rattle.batch_shards.specs.Bucket.{with_room, nothing}
use Rattle.batch_shards.specs.Batches.{bucket_of, changed}
use Rattle.batch_shards.proofs.Kept.{held, not_held, not_lent, changed_by, rewritten, some-found, on-ok, on-err, on-any}
use Rattle.batch_shards.proofs.Rooms.{made-room, told-room}
use Rattle.batch_shards.proofs.buckets.Buckets.ready.Goals as goal

pub returns-in-Some-clause-ok : goal.returns-in-Some-clause-ok
returns-in-Some-clause-ok g c =
    let space = (g.V.Vdaf.functions c.args.vdaf.now).space in
    let wrote = c.make_room.new.self in
    on-ok c.make_room.result (λ e.
    changed_by (with_room space) c.self.inside.buckets.entries (c.get_mut.follows.lender wrote).entries c.args.self.now c.args.name.now c.args.start c.in-Some.bucket.now wrote
    c.self.view_is c.in-Some.ensures.value ((c.get_mut.follows.holds wrote).3 (some-found _ c.in-Some.bucket.now c.in-Some.ensures.value)).0
    (e ∙ ap (λ s. with_room s c.in-Some.bucket.now) c.space-space.ensures)) c.make_room.ensures.ok

pub returns-in-Some-clause-err : goal.returns-in-Some-clause-err
returns-in-Some-clause-err g c =
    let wrote = c.make_room.new.self in
    on-err c.make_room.result (λ e.
    rewritten c.self.inside.buckets.entries (c.get_mut.follows.lender wrote).entries c.args.self.now c.args.name.now c.args.start c.in-Some.bucket.now wrote c.self.view_is
    c.in-Some.ensures.value (c.get_mut.follows.holds wrote).0 e) c.make_room.ensures.err

pub returns-in-Some-clause-told : goal.returns-in-Some-clause-told
returns-in-Some-clause-told g c other later =
    told-room (g.V.Vdaf.functions c.args.vdaf.now).space c.make_room.result c.args.self.now _ c.args.name.now c.args.start (returns-in-Some-clause-ok g c) (returns-in-Some-clause-err g c) other later

pub returns-in-Some-clause-room : goal.returns-in-Some-clause-room
returns-in-Some-clause-room g c =
    on-ok c.make_room.result (λ e. made-room (g.met.V.Vdaf.laws c.args.vdaf.now).space c.args.self.now _ c.args.name.now c.args.start e) (returns-in-Some-clause-ok g c)

pub returns-in-Some-clause-memory : goal.returns-in-Some-clause-memory
returns-in-Some-clause-memory g c =
    let is = held c.self.inside.buckets.entries c.args.self.now c.args.name.now c.args.start c.in-Some.bucket.now c.self.view_is c.in-Some.ensures.value in
    on-err c.make_room.result (λ e. ap (λ (b : Bucket). b.sum) is ∙ e) c.make_room.ensures.memory

pub returns-in_err-make_room-clause-memory : goal.returns-in_err-make_room-clause-memory
returns-in_err-make_room-clause-memory g c =
    on-any c.from_residual.result
    (ap (λ (b : Bucket). b.sum) (not_held c.self.inside.buckets.entries c.args.self.now c.args.name.now c.args.start c.self.view_is c.in_default.ensures.value))

pub returns-in-Ok-clause-ok : goal.returns-in-Ok-clause-ok
returns-in-Ok-clause-ok g c =
    let now = c.args.self.now in
    let name = c.args.name.now in
    let start = c.args.start in
    let none : bucket_of now name start ≡ nothing = not_held c.self.inside.buckets.entries now name start c.self.view_is c.in_default.ensures.value in
    c.in-Ok.ensures.ok
    ∙ ap (λ m. changed m name start c.make_room-2.new.self) (not_lent c.self.inside.buckets c.get_mut.follows.lender-at-none now c.get_mut.follows.holds-at-none c.self.view_is)
    ∙ ap (changed now name start) (
    c.in_ok-make_room.ensures.ok ∙ ap (λ s. with_room s c.new-bucket.result) c.space-space.ensures
    ∙ ap (with_room (g.V.Vdaf.functions c.args.vdaf.now).space) (c.new-bucket.ensures ∙ sym none))

pub returns-in-Ok-clause-told : goal.returns-in-Ok-clause-told
returns-in-Ok-clause-told g c other later =
    told-room {E = Unit {0}} (g.V.Vdaf.functions c.args.vdaf.now).space (Ok tt) c.args.self.now c.keep.new.self c.args.name.now c.args.start (returns-in-Ok-clause-ok g c) tt other later

pub returns-in-Ok-clause-room : goal.returns-in-Ok-clause-room
returns-in-Ok-clause-room g c = made-room (g.met.V.Vdaf.laws c.args.vdaf.now).space c.args.self.now c.keep.new.self c.args.name.now c.args.start (returns-in-Ok-clause-ok g c)

pub returns-in-Err-clause-memory : goal.returns-in-Err-clause-memory
returns-in-Err-clause-memory g c =
    ap (λ (b : Bucket). b.sum) (not_held c.self.inside.buckets.entries c.args.self.now c.args.name.now c.args.start c.self.view_is c.in_default.ensures.value)
