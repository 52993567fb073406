use Rattle.dap_batch.specs.ChecksumLaws.{checksum_of-middle}
use Rattle.dap_batch.proofs.laws.no_order_changes_a_checksum.Goals as goal

pub returns : goal.returns
returns c id before after = checksum_of-middle id before after
