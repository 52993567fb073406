use Rattle.dap_direct.proofs.ContentLemmas.{first_of}
use Rattle.dap_direct.specs.Sums.{AreSumsOver}
use Rattle.dap_direct.proofs.state.Direct.batch_sums.Given as goal

-- the sums of the buckets so far
abbrev pub invariant-loop-i : goal.invariant-loop-i
invariant-loop-i g l = AreSumsOver g.V.Vdaf.of_kind l.task (first_of l.span l.i) l.self.accepted l.total
