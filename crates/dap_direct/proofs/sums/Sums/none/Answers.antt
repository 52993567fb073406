use Rattle.std.proofs.Common.{refl}
use Rattle.dap_direct.proofs.SumLemmas.{no_sums}
use Rattle.dap_direct.proofs.sums.Sums.none.Goals as goal

pub returns-clause-sums : goal.returns-clause-sums
returns-clause-sums g c = no_sums (g.met.V.Vdaf.laws c.args.vdaf.now).space _ c.in_ok-zero.ensures c.in_ok-zero-2.ensures refl refl
