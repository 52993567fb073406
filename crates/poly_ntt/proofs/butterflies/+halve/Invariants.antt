use Rattle.poly_ntt.proofs.butterflies.+halve.Given as goal

abbrev pub decreases-halve : goal.decreases-halve
decreases-halve g l = l.log
