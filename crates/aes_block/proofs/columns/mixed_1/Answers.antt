use Rattle.std.proofs.Common.{arith}
use Rattle.aes_block.proofs.Entries.{mixed_1_is}
use Rattle.aes_block.proofs.columns.mixed_1.Goals as goal

pub returns : goal.returns
returns c = mixed_1_is c.args.byte (omega arith)
