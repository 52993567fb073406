use Rattle.std.proofs.Common.{◌≡◌, Ok, true, sym, ap, ◌∙◌, refl, subst}
use Rattle.batch_shards.specs.declared.bucket.Bucket.{Bucket}
use Rattle.batch_shards.specs.Bucket.{closed_for_good, nothing}
use Rattle.batch_shards.specs.Batches.{bucket_of, changed}
use Rattle.batch_shards.proofs.Kept.{absent, held, not_held, not_lent, not_closed, written, rewritten, some-found, closed_for_good-same, kept-sum}
use Rattle.batch_shards.proofs.buckets.Buckets.close.Goals as goal

pub returns-in-Some-clause-ok : goal.returns-in-Some-clause-ok
returns-in-Some-clause-ok c =
    let es = c.self.inside.buckets.entries in
    let now = c.args.self.now in
    let name = c.args.name.now in
    let start = c.args.start in
    let wrote = c.close.new.self in
    let is : bucket_of now name start ≡ c.in-Some.bucket.now = held es now name start c.in-Some.bucket.now c.self.view_is c.in-Some.ensures.value in
    written es (c.get_mut.follows.lender wrote).entries now name start wrote c.self.view_is ((c.get_mut.follows.holds wrote).3 (some-found _ c.in-Some.bucket.now c.in-Some.ensures.value)).0
    ∙ ap (changed now name start) (c.close.ensures ∙ ap closed_for_good (sym is))

pub returns-in-Some-clause-stays_closed : goal.returns-in-Some-clause-stays_closed
returns-in-Some-clause-stays_closed c closed =
    let es = c.self.inside.buckets.entries in
    let now = c.args.self.now in
    let name = c.args.name.now in
    let start = c.args.start in
    let wrote = c.close.new.self in
    let is : bucket_of now name start ≡ c.in-Some.bucket.now = held es now name start c.in-Some.bucket.now c.self.view_is c.in-Some.ensures.value in
    let was : c.in-Some.bucket.now.closed ≡ true = subst (λ (b : Bucket). b.closed ≡ true) is closed in
    rewritten es (c.get_mut.follows.lender wrote).entries now name start c.in-Some.bucket.now wrote c.self.view_is c.in-Some.ensures.value (c.get_mut.follows.holds wrote).0
    (c.close.ensures ∙ closed_for_good-same c.in-Some.bucket.now was)

pub returns-in-Ok-clause-ok : goal.returns-in-Ok-clause-ok
returns-in-Ok-clause-ok c =
    let now = c.args.self.now in
    let name = c.args.name.now in
    let start = c.args.start in
    let none : bucket_of now name start ≡ nothing = not_held c.self.inside.buckets.entries now name start c.self.view_is c.in_default.ensures.value in
    c.in-Ok.ensures.ok
    ∙ ap (λ m. changed m name start c.close-2.new.self) (not_lent c.self.inside.buckets c.get_mut.follows.lender-at-none now c.get_mut.follows.holds-at-none c.self.view_is)
    ∙ ap (changed now name start) (c.close-2.ensures ∙ ap closed_for_good (c.new-bucket.ensures ∙ sym none))

pub returns-in-Ok-clause-stays_closed : goal.returns-in-Ok-clause-stays_closed
returns-in-Ok-clause-stays_closed c closed =
    absurd (not_closed (bucket_of c.args.self.now c.args.name.now c.args.start)
    (not_held c.self.inside.buckets.entries c.args.self.now c.args.name.now c.args.start c.self.view_is c.in_default.ensures.value) closed)

pub returns-in-Some-clause-sum_stays : goal.returns-in-Some-clause-sum_stays
returns-in-Some-clause-sum_stays c =
    kept-sum {E = Unit {0}} (Ok tt) c.args.self.now _ c.args.name.now c.args.start (closed_for_good (bucket_of c.args.self.now c.args.name.now c.args.start)) (returns-in-Some-clause-ok c) tt refl

pub returns-in-Ok-clause-sum_stays : goal.returns-in-Ok-clause-sum_stays
returns-in-Ok-clause-sum_stays c =
    kept-sum {E = Unit {0}} (Ok tt) c.args.self.now c.keep.new.self c.args.name.now c.args.start (closed_for_good (bucket_of c.args.self.now c.args.name.now c.args.start)) (returns-in-Ok-clause-ok c) tt refl

pub returns-in-Err-clause-memory : goal.returns-in-Err-clause-memory
returns-in-Err-clause-memory c = absent c.self.inside.buckets.entries c.args.self.now c.args.name.now c.args.start c.self.view_is c.in_default.ensures.value
