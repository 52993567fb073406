use Rattle.dap_batch.specs.ChecksumLaws.{checksum_of-twice}
use Rattle.dap_batch.proofs.laws.twice_is_never_for_checksums.Goals as goal

pub returns : goal.returns
returns c id ids = checksum_of-twice id ids
