use Rattle.vdaf_api.proofs.adding.+add_from.Given as goal

abbrev pub decreases-add_from : goal.decreases-add_from
decreases-add_from l = l.size
