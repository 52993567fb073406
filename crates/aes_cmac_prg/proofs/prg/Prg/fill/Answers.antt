use Rattle.std.proofs.Common.{arith}
use Rattle.aes_cmac_prg.specs.Stream.{byte_at}
use Rattle.aes_cmac_prg.proofs.Entries.{map_by_entries}
use Rattle.aes_cmac_prg.proofs.prg.Prg.fill.Goals as goal

pub returns-clause-bytes : goal.returns-clause-bytes
returns-clause-bytes c =
    let start = c.args.self.now in
    map_by_entries (byte_at start.key) start.place _ c.loop-i.buf (omega arith) (λ k lt. c.loop-i.invariant.bytes k (omega arith))
