use Rattle.std.proofs.Common.{sym, ap, ◌∙◌}
use Rattle.dap_batch.specs.Checksum.{checksum_of, xor_bytes}
use Rattle.dap_batch.specs.ChecksumLaws.{checksum_of-append}
use Rattle.dap_batch.proofs.checksum.Checksum.join.Goals as goal

pub returns-clause-identifiers : goal.returns-clause-identifiers
returns-clause-identifiers c ids more stands other_stands =
    c.xor-self-inside.ensures ∙ ap (λ sum. xor_bytes sum c.other.inside.bytes) (c.self.view_is ∙ stands) ∙ ap (xor_bytes (checksum_of ids)) (c.other.view_is ∙ other_stands)
    ∙ sym (checksum_of-append ids more)
