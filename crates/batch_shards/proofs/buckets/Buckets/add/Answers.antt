use Rattle.std.proofs.Common.{◌≡◌, Err, None, sym, ap, ◌∙◌, subst}
use Rattle.std.proofs.lemmas.Result.{err_from_is_err_and}
use Rattle.std.specs.FinMap as map
use Rattle.batch_shards.specs.declared.bucket.Bucket.{Bucket}
use Rattle.batch_shards.specs.Bucket.{with_report, nothing, IsSum, Opens}
use Rattle.batch_shards.specs.Batches.{batch_order, bucket_of, changed}
use Rattle.batch_shards.proofs.Kept.{held, not_held, not_lent, written, rewritten, some-found, opens-new, on-ok, on-err, bucket_of-changed, kept-out}
use Rattle.batch_shards.proofs.buckets.Buckets.add.Goals as goal

pub add-requires-clause-held : goal.add-requires-clause-held
add-requires-clause-held g c =
    let space = (g.V.Vdaf.functions c.args.vdaf.now).space in
    let is = held c.self.inside.buckets.entries c.args.self.now c.args.name.now c.args.start c.in-Some.bucket.now c.self.view_is c.in-Some.ensures.value in
    subst (λ s. IsSum s c.in-Some.bucket.now.sum) (sym c.space-space.ensures) (subst (λ (b : Bucket). IsSum space b.sum) is c.requires.held)

pub returns-in-Some-clause-closed : goal.returns-in-Some-clause-closed
returns-in-Some-clause-closed g c =
    let is = held c.self.inside.buckets.entries c.args.self.now c.args.name.now c.args.start c.in-Some.bucket.now c.self.view_is c.in-Some.ensures.value in
    subst (λ (b : Bucket). Opens c.add.result b.closed) (sym is) c.add.ensures.closed

pub returns-in-Some-clause-ok : goal.returns-in-Some-clause-ok
returns-in-Some-clause-ok g c =
    let es = c.self.inside.buckets.entries in
    let now = c.args.self.now in
    let name = c.args.name.now in
    let start = c.args.start in
    let id = c.args.id.now in
    let out = c.args.out.now in
    let wrote = c.add.new.self in
    let is : bucket_of now name start ≡ c.in-Some.bucket.now = held es now name start c.in-Some.bucket.now c.self.view_is c.in-Some.ensures.value in
    on-ok c.add.result (λ e.
    written es (c.get_mut.follows.lender wrote).entries now name start wrote c.self.view_is ((c.get_mut.follows.holds wrote).3 (some-found _ c.in-Some.bucket.now c.in-Some.ensures.value)).0
    ∙ ap (changed now name start) (e ∙ ap (λ s. with_report s id out c.in-Some.bucket.now) c.space-space.ensures ∙ ap (with_report (g.V.Vdaf.functions c.args.vdaf.now).space id out) (sym is)))
    c.add.ensures.ok

pub returns-in-Some-clause-err : goal.returns-in-Some-clause-err
returns-in-Some-clause-err g c =
    let wrote = c.add.new.self in
    on-err c.add.result (λ e.
    rewritten c.self.inside.buckets.entries (c.get_mut.follows.lender wrote).entries c.args.self.now c.args.name.now c.args.start c.in-Some.bucket.now wrote c.self.view_is
    c.in-Some.ensures.value (c.get_mut.follows.holds wrote).0 e) c.add.ensures.err

pub returns-clause-closed : goal.returns-clause-closed
returns-clause-closed g c =
    opens-new c.keep.result (bucket_of c.args.self.now c.args.name.now c.args.start)
    (not_held c.self.inside.buckets.entries c.args.self.now c.args.name.now c.args.start c.self.view_is c.in_default.ensures.value) c.keep.ensures.memory

pub returns-clause-ok : goal.returns-clause-ok
returns-clause-ok g c =
    let now = c.args.self.now in
    let name = c.args.name.now in
    let start = c.args.start in
    let id = c.args.id.now in
    let out = c.args.out.now in
    let none : bucket_of now name start ≡ nothing = not_held c.self.inside.buckets.entries now name start c.self.view_is c.in_default.ensures.value in
    on-ok c.keep.result (λ e.
    e
    ∙ ap (λ m. changed m name start c.add-2.new.self) (not_lent c.self.inside.buckets c.get_mut.follows.lender-at-none now c.get_mut.follows.holds-at-none c.self.view_is)
    ∙ ap (changed now name start) (
    c.in_ok-add.ensures.ok ∙ ap (λ s. with_report s id out c.new-bucket.result) c.space-space.ensures
    ∙ ap (with_report (g.V.Vdaf.functions c.args.vdaf.now).space id out) (c.new-bucket.ensures ∙ sym none)))
    c.keep.ensures.ok

pub returns-in_err-add-clause-closed : goal.returns-in_err-add-clause-closed
returns-in_err-add-clause-closed g c =
    let none : bucket_of c.args.self.now c.args.name.now c.args.start ≡ nothing =
    not_held c.self.inside.buckets.entries c.args.self.now c.args.name.now c.args.start c.self.view_is c.in_default.ensures.value in
    let gives = err_from_is_err_and c.from_residual.result c.from_residual.ensures.1 in
    rw (gives.1, gives.2) (subst (λ (b : Bucket). Opens (Err c.in_err-add.field-0.0) b.closed) (c.new-bucket.ensures ∙ sym none) c.in_err-add.ensures.closed)

pub returns-in-Some-clause-held_again : goal.returns-in-Some-clause-held_again
returns-in-Some-clause-held_again g c =
    let es = c.self.inside.buckets.entries in
    let now = c.args.self.now in
    let name = c.args.name.now in
    let start = c.args.start in
    let wrote = c.add.new.self in
    let after = written es (c.get_mut.follows.lender wrote).entries now name start wrote c.self.view_is ((c.get_mut.follows.holds wrote).3 (some-found _ c.in-Some.bucket.now c.in-Some.ensures.value)).0 in
    subst (λ (b : Bucket). IsSum (g.V.Vdaf.functions c.args.vdaf.now).space b.sum) (sym (ap (λ m. bucket_of m name start) after ∙ bucket_of-changed now name start wrote))
    (subst (λ s. IsSum s wrote.sum) c.space-space.ensures c.add.ensures.held_again)

pub returns-clause-held_again : goal.returns-clause-held_again
returns-clause-held_again g c =
    let space = (g.V.Vdaf.functions c.args.vdaf.now).space in
    let now = c.args.self.now in
    let name = c.args.name.now in
    let start = c.args.start in
    let before = map.from_entries {R = batch_order} c.get_mut.follows.lender-at-none.entries in
    let same : before ≡ now = not_lent c.self.inside.buckets c.get_mut.follows.lender-at-none now c.get_mut.follows.holds-at-none c.self.view_is in
    let none : bucket_of before name start ≡ nothing =
    ap (λ m. bucket_of m name start) same ∙ not_held c.self.inside.buckets.entries now name start c.self.view_is c.in_default.ensures.value in
    kept-out space c.keep.result before c.keep.new.self name start c.add-2.new.self c.keep.ensures.ok c.keep.ensures.err
    (subst (λ s. IsSum s c.add-2.new.self.sum) c.space-space.ensures c.in_ok-add.ensures.held_again) (subst (λ (b : Bucket). IsSum space b.sum) (sym none) tt)

nothing_held : (b : Bucket) → b ≡ nothing → b.sum ≡ None
nothing_held b is = ap (λ (x : Bucket). x.sum) is

pub returns-in-Some-clause-memory : goal.returns-in-Some-clause-memory
returns-in-Some-clause-memory g c full =
    let is = held c.self.inside.buckets.entries c.args.self.now c.args.name.now c.args.start c.in-Some.bucket.now c.self.view_is c.in-Some.ensures.value in
    ap (λ (b : Bucket). b.sum) is ∙ c.add.ensures.memory full

pub returns-clause-memory : goal.returns-clause-memory
returns-clause-memory g c full =
    nothing_held (bucket_of c.args.self.now c.args.name.now c.args.start)
    (not_held c.self.inside.buckets.entries c.args.self.now c.args.name.now c.args.start c.self.view_is c.in_default.ensures.value)

pub returns-in_err-add-clause-memory : goal.returns-in_err-add-clause-memory
returns-in_err-add-clause-memory g c full =
    nothing_held (bucket_of c.args.self.now c.args.name.now c.args.start)
    (not_held c.self.inside.buckets.entries c.args.self.now c.args.name.now c.args.start c.self.view_is c.in_default.ensures.value)
