use Rattle.std.proofs.Common.{lit<}
use Rattle.batch_shards.proofs.tests.a_batch_counts_its_reports.Goals as goal

pub count-requires-clause-reports : goal.count-requires-clause-reports
count-requires-clause-reports g c = rw (c.new-2.ensures.holds_nothing c.expect-name.result 0) (lit< tt)

pub count-requires-clause-rejected : goal.count-requires-clause-rejected
count-requires-clause-rejected g c = rw (c.new-2.ensures.holds_nothing c.expect-name.result 0) (lit< tt)
