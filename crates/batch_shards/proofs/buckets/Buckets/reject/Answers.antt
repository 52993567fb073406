use Rattle.std.proofs.Common.{◌≡◌, Err, sym, ap, ◌∙◌, refl, subst}
use Rattle.std.proofs.lemmas.Result.{err_from_is_err_and}
use Rattle.batch_shards.specs.declared.bucket.Bucket.{Bucket}
use Rattle.batch_shards.specs.Bucket.{with_rejected, nothing, Opens}
use Rattle.batch_shards.specs.Batches.{bucket_of, changed}
use Rattle.batch_shards.proofs.Kept.{absent, held, not_held, not_lent, written, rewritten, some-found, opens-new, on-ok, on-err, kept-sum}
use Rattle.batch_shards.proofs.buckets.Buckets.reject.Goals as goal

pub returns-in-Some-clause-closed : goal.returns-in-Some-clause-closed
returns-in-Some-clause-closed c =
    let is = held c.self.inside.buckets.entries c.args.self.now c.args.name.now c.args.start c.in-Some.bucket.now c.self.view_is c.in-Some.ensures.value in
    subst (λ (b : Bucket). Opens c.reject.result b.closed) (sym is) c.reject.ensures.closed

pub returns-in-Some-clause-ok : goal.returns-in-Some-clause-ok
returns-in-Some-clause-ok c =
    let es = c.self.inside.buckets.entries in
    let now = c.args.self.now in
    let name = c.args.name.now in
    let start = c.args.start in
    let wrote = c.reject.new.self in
    let is : bucket_of now name start ≡ c.in-Some.bucket.now = held es now name start c.in-Some.bucket.now c.self.view_is c.in-Some.ensures.value in
    on-ok c.reject.result (λ e.
    written es (c.get_mut.follows.lender wrote).entries now name start wrote c.self.view_is ((c.get_mut.follows.holds wrote).3 (some-found _ c.in-Some.bucket.now c.in-Some.ensures.value)).0
    ∙ ap (changed now name start) (e ∙ ap with_rejected (sym is))) c.reject.ensures.ok

pub returns-in-Some-clause-err : goal.returns-in-Some-clause-err
returns-in-Some-clause-err c =
    let wrote = c.reject.new.self in
    on-err c.reject.result (λ e.
    rewritten c.self.inside.buckets.entries (c.get_mut.follows.lender wrote).entries c.args.self.now c.args.name.now c.args.start c.in-Some.bucket.now wrote c.self.view_is
    c.in-Some.ensures.value (c.get_mut.follows.holds wrote).0 e) c.reject.ensures.err

pub returns-clause-closed : goal.returns-clause-closed
returns-clause-closed c =
    opens-new c.keep.result (bucket_of c.args.self.now c.args.name.now c.args.start)
    (not_held c.self.inside.buckets.entries c.args.self.now c.args.name.now c.args.start c.self.view_is c.in_default.ensures.value) c.keep.ensures.memory

pub returns-clause-ok : goal.returns-clause-ok
returns-clause-ok c =
    let now = c.args.self.now in
    let name = c.args.name.now in
    let start = c.args.start in
    let none : bucket_of now name start ≡ nothing = not_held c.self.inside.buckets.entries now name start c.self.view_is c.in_default.ensures.value in
    on-ok c.keep.result (λ e.
    e
    ∙ ap (λ m. changed m name start c.reject-2.new.self) (not_lent c.self.inside.buckets c.get_mut.follows.lender-at-none now c.get_mut.follows.holds-at-none c.self.view_is)
    ∙ ap (changed now name start) (c.in_ok-reject.ensures.ok ∙ ap with_rejected (c.new-bucket.ensures ∙ sym none))) c.keep.ensures.ok

pub returns-in_err-reject-clause-closed : goal.returns-in_err-reject-clause-closed
returns-in_err-reject-clause-closed c =
    let none : bucket_of c.args.self.now c.args.name.now c.args.start ≡ nothing =
    not_held c.self.inside.buckets.entries c.args.self.now c.args.name.now c.args.start c.self.view_is c.in_default.ensures.value in
    let gives = err_from_is_err_and c.from_residual.result c.from_residual.ensures.1 in
    rw (gives.1, gives.2) (subst (λ (b : Bucket). Opens (Err c.in_err-reject.field-0.0) b.closed) (c.new-bucket.ensures ∙ sym none) c.in_err-reject.ensures.closed)

pub returns-in-Some-clause-sum_stays : goal.returns-in-Some-clause-sum_stays
returns-in-Some-clause-sum_stays c =
    kept-sum c.reject.result c.args.self.now _ c.args.name.now c.args.start (with_rejected (bucket_of c.args.self.now c.args.name.now c.args.start))
    (returns-in-Some-clause-ok c) (returns-in-Some-clause-err c) refl

pub returns-clause-sum_stays : goal.returns-clause-sum_stays
returns-clause-sum_stays c =
    let now = c.args.self.now in
    kept-sum c.keep.result now c.keep.new.self c.args.name.now c.args.start (with_rejected (bucket_of now c.args.name.now c.args.start)) (returns-clause-ok c)
    (on-err c.keep.result (λ e. e ∙ not_lent c.self.inside.buckets c.get_mut.follows.lender-at-none now c.get_mut.follows.holds-at-none c.self.view_is) c.keep.ensures.err) refl

pub returns-in-Some-clause-memory : goal.returns-in-Some-clause-memory
returns-in-Some-clause-memory c full = absurd (c.reject.ensures.memory full)

pub returns-clause-memory : goal.returns-clause-memory
returns-clause-memory c full = absent c.self.inside.buckets.entries c.args.self.now c.args.name.now c.args.start c.self.view_is c.in_default.ensures.value

pub returns-in_err-reject-clause-memory : goal.returns-in_err-reject-clause-memory
returns-in_err-reject-clause-memory c full = absent c.self.inside.buckets.entries c.args.self.now c.args.name.now c.args.start c.self.view_is c.in_default.ensures.value
