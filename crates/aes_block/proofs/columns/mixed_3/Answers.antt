use Rattle.std.proofs.Common.{arith}
use Rattle.aes_block.proofs.Entries.{mixed_3_is}
use Rattle.aes_block.proofs.columns.mixed_3.Goals as goal

pub returns : goal.returns
returns c = mixed_3_is c.args.byte (omega arith)
