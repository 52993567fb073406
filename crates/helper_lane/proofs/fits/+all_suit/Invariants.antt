use Rattle.std.proofs.Common.{length}
use Rattle.helper_lane.proofs.fits.+all_suit.Given as goal

abbrev pub decreases-all_suit : goal.decreases-all_suit
decreases-all_suit g l = length l.records.now
