use Rattle.std.proofs.Common.{arith}
use Rattle.aes_block.proofs.Entries.{substituted_is}
use Rattle.aes_block.proofs.columns.substituted.Goals as goal

pub returns : goal.returns
returns c = substituted_is c.args.byte (omega arith)
