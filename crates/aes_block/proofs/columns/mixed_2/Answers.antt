use Rattle.std.proofs.Common.{arith}
use Rattle.aes_block.proofs.Entries.{mixed_2_is}
use Rattle.aes_block.proofs.columns.mixed_2.Goals as goal

pub returns : goal.returns
returns c = mixed_2_is c.args.byte (omega arith)
