use Rattle.std.proofs.Common.{sym, ap, ◌∙◌, subst}
use Rattle.batch_shards.specs.declared.bucket.Bucket.{Bucket}
use Rattle.batch_shards.specs.Bucket.{with_report, HasSum}
use Rattle.batch_shards.specs.Batches.{bucket_of}
use Rattle.batch_shards.proofs.Kept.{held, not_held, bucket_of-changed, changed_by, some-found}
use Rattle.batch_shards.proofs.Rooms.{nothing-has, report-has}
use Rattle.batch_shards.proofs.buckets.Buckets.add_in_place.Goals as goal

pub returns-in_default : goal.returns-in_default
returns-in_default g c =
    absurd (nothing-has (g.V.Vdaf.functions c.args.vdaf.now).space (bucket_of c.args.self.now c.args.name.now c.args.start)
    (not_held c.self.inside.buckets.entries c.args.self.now c.args.name.now c.args.start c.self.view_is c.in_default.ensures.value) c.requires.ready)

pub add_in_place-requires-clause-ready : goal.add_in_place-requires-clause-ready
add_in_place-requires-clause-ready g c =
    let space = (g.V.Vdaf.functions c.args.vdaf.now).space in
    let is = held c.self.inside.buckets.entries c.args.self.now c.args.name.now c.args.start c.in-Some.bucket.now c.self.view_is c.in-Some.ensures.value in
    subst (λ s. HasSum s c.in-Some.bucket.now.sum) (sym c.space-space.ensures) (subst (λ (b : Bucket). HasSum space b.sum) is c.requires.ready)

pub returns-clause-counted : goal.returns-clause-counted
returns-clause-counted g c =
    let wrote = c.add_in_place.new.self in
    changed_by (with_report (g.V.Vdaf.functions c.args.vdaf.now).space c.args.id.now c.args.out.now) c.self.inside.buckets.entries (c.get_mut.follows.lender wrote).entries
    c.args.self.now c.args.name.now c.args.start c.in-Some.bucket.now wrote c.self.view_is c.in-Some.ensures.value
    ((c.get_mut.follows.holds wrote).3 (some-found _ c.in-Some.bucket.now c.in-Some.ensures.value)).0
    (c.add_in_place.ensures ∙ ap (λ s. with_report s c.args.id.now c.args.out.now c.in-Some.bucket.now) c.space-space.ensures)

pub returns-clause-room : goal.returns-clause-room
returns-clause-room g c =
    let space = (g.V.Vdaf.functions c.args.vdaf.now).space in
    let was = bucket_of c.args.self.now c.args.name.now c.args.start in
    subst (λ (b : Bucket). HasSum space b.sum)
    (sym (ap (λ m. bucket_of m c.args.name.now c.args.start) (returns-clause-counted g c)
    ∙ bucket_of-changed c.args.self.now c.args.name.now c.args.start (with_report space c.args.id.now c.args.out.now was)))
    (report-has (g.met.V.Vdaf.laws c.args.vdaf.now).space was.sum c.args.out.now c.requires.out c.requires.ready)
