use Rattle.std.proofs.Common.{◌^◌, ◌<◌, sym, ap, ◌∙◌, subst}
use Rattle.batch_shards.specs.declared.bucket.Bucket.{Bucket}
use Rattle.batch_shards.specs.Bucket.{count_of}
use Rattle.batch_shards.proofs.Kept.{held, not_held}
use Rattle.batch_shards.proofs.buckets.Buckets.count.Goals as goal

pub count-requires-clause-reports : goal.count-requires-clause-reports
count-requires-clause-reports c =
    let is = held c.self.inside.buckets.entries c.args.self.now c.args.name.now c.args.start c.in-Some.bucket.now c.self.view_is c.in-Some.ensures.value in
    subst (λ (b : Bucket). b.reports < 2 ^ 32) is c.requires.reports

pub count-requires-clause-rejected : goal.count-requires-clause-rejected
count-requires-clause-rejected c =
    let is = held c.self.inside.buckets.entries c.args.self.now c.args.name.now c.args.start c.in-Some.bucket.now c.self.view_is c.in-Some.ensures.value in
    subst (λ (b : Bucket). b.rejected < 2 ^ 32) is c.requires.rejected

pub returns-in-Some : goal.returns-in-Some
returns-in-Some c =
    c.count.ensures
    ∙ sym (ap count_of (held c.self.inside.buckets.entries c.args.self.now c.args.name.now c.args.start c.in-Some.bucket.now c.self.view_is c.in-Some.ensures.value))

pub returns-in-None : goal.returns-in-None
returns-in-None c =
    c.count-in-None.ensures ∙ ap count_of c.new.ensures
    ∙ sym (ap count_of (not_held c.self.inside.buckets.entries c.args.self.now c.args.name.now c.args.start c.self.view_is c.in-None.ensures.value))
