use Rattle.vdaf_api.proofs.adding.+is_vector.Given as goal

abbrev pub decreases-is_vector : goal.decreases-is_vector
decreases-is_vector l = l.size
