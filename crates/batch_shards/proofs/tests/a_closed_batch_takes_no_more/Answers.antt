use Rattle.std.proofs.Common.{sym, ◌∙◌, subst}
use Rattle.vdaf_api.specs.Toy.{toy_space}
use Rattle.batch_shards.specs.Bucket.{IsSum}
use Rattle.batch_shards.proofs.tests.a_closed_batch_takes_no_more.Goals as goal

pub add-requires-clause-held : goal.add-requires-clause-held
add-requires-clause-held g c = rw (c.new-buckets.ensures.holds_nothing c.expect-name.result 0) tt

pub add-requires-3-clause-held : goal.add-requires-3-clause-held
add-requires-3-clause-held g c =
    subst (IsSum toy_space) (sym (c.close-2.ensures.sum_stays ∙ c.close.ensures.sum_stays ∙ c.reject.ensures.sum_stays)) c.add-2.ensures.held_again
