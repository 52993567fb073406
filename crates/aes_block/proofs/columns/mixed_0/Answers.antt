use Rattle.std.proofs.Common.{arith}
use Rattle.aes_block.proofs.Entries.{mixed_0_is}
use Rattle.aes_block.proofs.columns.mixed_0.Goals as goal

pub returns : goal.returns
returns c = mixed_0_is c.args.byte (omega arith)
