use Rattle.std.proofs.Common.{length}
use Rattle.helper_lane.proofs.parts.+same_ids.Given as goal

abbrev pub decreases-same_ids : goal.decreases-same_ids
decreases-same_ids g l = length l.left.now
