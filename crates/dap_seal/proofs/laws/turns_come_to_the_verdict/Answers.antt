use Rattle.dap_seal.proofs.Turns.{comes_to_the_verdict}
use Rattle.dap_seal.proofs.laws.turns_come_to_the_verdict.Goals as goal

pub returns : goal.returns
returns c f t r = comes_to_the_verdict f t r
