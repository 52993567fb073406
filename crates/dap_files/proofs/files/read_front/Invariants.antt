use Rattle.std.proofs.Common.{◌≡◌, ◌-◌, length}
use Rattle.std.specs.Io.KnownBytes.{Consumes}
use Rattle.dap_outside.specs.declared.files.TheConstants.{MAX_READ}
use Rattle.dap_files.proofs.files.read_front.Given as goal

abbrev pub invariant-loop-buf : goal.invariant-loop-buf
invariant-loop-buf g l = record {
  read : Consumes (g.F.Read.remaining l.fn.file) (g.F.Read.remaining l.file) l.bytes.items;
  room : length l.buf ≡ 4096;
}

-- what is left up to the limit
abbrev pub decreases-loop-buf : goal.decreases-loop-buf
decreases-loop-buf g l = MAX_READ - length l.bytes.items
