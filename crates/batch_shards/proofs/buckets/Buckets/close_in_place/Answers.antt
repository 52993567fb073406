use Rattle.batch_shards.specs.Bucket.{closed_for_good}
use Rattle.batch_shards.proofs.Kept.{absent, changed_by, some-found}
use Rattle.batch_shards.proofs.buckets.Buckets.close_in_place.Goals as goal

pub returns-in_default : goal.returns-in_default
returns-in_default c = absurd (c.requires (absent c.self.inside.buckets.entries c.args.self.now c.args.name.now c.args.start c.self.view_is c.in_default.ensures.value))

pub returns : goal.returns
returns c =
    let wrote = c.close.new.self in
    changed_by closed_for_good c.self.inside.buckets.entries (c.get_mut.follows.lender wrote).entries c.args.self.now c.args.name.now c.args.start c.in-Some.bucket.now wrote
    c.self.view_is c.in-Some.ensures.value ((c.get_mut.follows.holds wrote).3 (some-found _ c.in-Some.bucket.now c.in-Some.ensures.value)).0 c.close.ensures
