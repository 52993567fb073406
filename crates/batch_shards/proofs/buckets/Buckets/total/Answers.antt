use Rattle.std.proofs.Common.{◌≡◌, IfOk, sym, subst}
use Rattle.batch_shards.specs.declared.bucket.Bucket.{Bucket}
use Rattle.batch_shards.specs.Bucket.{sum_or_zero}
use Rattle.batch_shards.proofs.Kept.{held, not_held}
use Rattle.batch_shards.proofs.buckets.Buckets.total.Goals as goal

pub returns-in-Some : goal.returns-in-Some
returns-in-Some g c =
    let is = held c.self.inside.buckets.entries c.args.self.now c.args.name.now c.args.start c.in-Some.bucket.now c.self.view_is c.in-Some.ensures.value in
    subst (λ (b : Bucket). IfOk c.total.result (λ v. v.items ≡ sum_or_zero (g.V.Vdaf.functions c.args.vdaf.now).space b.sum)) (sym is)
    (subst (λ s. IfOk c.total.result (λ v. v.items ≡ sum_or_zero s c.in-Some.bucket.now.sum)) c.space.ensures c.total.ensures)

pub returns-in-None : goal.returns-in-None
returns-in-None g c =
    let none = not_held c.self.inside.buckets.entries c.args.self.now c.args.name.now c.args.start c.self.view_is c.in-None.ensures.value in
    subst (λ (b : Bucket). IfOk c.zero.result (λ v. v.items ≡ sum_or_zero (g.V.Vdaf.functions c.args.vdaf.now).space b.sum)) (sym none) c.zero.ensures
