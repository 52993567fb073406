use Rattle.lane_tests.proofs.tests.opened.Goals as goal

pub open-requires-clause-journal : goal.open-requires-clause-journal
open-requires-clause-journal g c = c.in_ok-is_sound.ensures c.if-not-branch.false
