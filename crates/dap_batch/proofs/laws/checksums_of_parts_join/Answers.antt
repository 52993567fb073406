use Rattle.dap_batch.specs.ChecksumLaws.{checksum_of-append}
use Rattle.dap_batch.proofs.laws.checksums_of_parts_join.Goals as goal

pub returns : goal.returns
returns c ids more = checksum_of-append ids more
