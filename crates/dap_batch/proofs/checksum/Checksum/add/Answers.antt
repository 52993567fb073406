use Rattle.std.proofs.Common.{◌≡◌, sym, ap, ◌∙◌}
use Rattle.sha2.specs.Sha256.{sha256}
use Rattle.dap_batch.specs.Checksum.{checksum_of, xor_bytes}
use Rattle.dap_batch.specs.ChecksumLaws.{checksum_of-push}
use Rattle.dap_batch.proofs.checksum.Checksum.add.Goals as goal

pub returns-clause-identifiers : goal.returns-clause-identifiers
returns-clause-identifiers c ids stands =
    let hash : c.digest.result ≡ sha256 c.args.id.now = c.digest.ensures ∙ ap sha256 c.as_slice.ensures in
    c.xor-self-inside.ensures ∙ ap (λ sum. xor_bytes sum c.digest.result) (c.self.view_is ∙ stands) ∙ ap (xor_bytes (checksum_of ids)) hash
    ∙ sym (checksum_of-push ids c.args.id.now)
