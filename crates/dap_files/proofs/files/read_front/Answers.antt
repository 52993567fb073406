use Rattle.std.proofs.Common.{◌≤◌, length, ap, arith, length-append}
use Rattle.dap_outside.specs.declared.files.TheConstants.{MAX_READ}
use Rattle.dap_files.proofs.Fronts.{Consumes-whole, Consumes-front, Consumes-taken}
use Rattle.dap_files.proofs.files.read_front.Goals as goal

pub loop-buf-preserved : goal.loop-buf-preserved
loop-buf-preserved g c =
    let left = g.F.Read.remaining in
    record {
      read = Consumes-taken (left c.args.file.now) (left c.loop-buf.file) (left c.read_more.new.file) _ _ _ c.loop-buf.invariant.read c.in_ok-read_more.ensures;
      room = search;
    }

pub returns-then-branch-eq0-clause-bytes : goal.returns-then-branch-eq0-clause-bytes
returns-then-branch-eq0-clause-bytes g c =
    let left = g.F.Read.remaining in
    let taken = c.in_ok-read_more.ensures in
    let short : length c.read_more.new.bytes.items ≤ MAX_READ =
    omega (arith, ap length taken.grown, length-append c.loop-buf.bytes.items taken.fresh, taken.count, c.if-branch-eq0.true) in
    Consumes-whole (left c.args.file.now) (left c.read_more.new.file) c.read_more.new.bytes.items MAX_READ
    (Consumes-taken (left c.args.file.now) (left c.loop-buf.file) (left c.read_more.new.file) _ _ _ c.loop-buf.invariant.read taken)
    (taken.end c.if-branch-eq0.true) short

pub returns-clause-bytes : goal.returns-clause-bytes
returns-clause-bytes g c =
    let left = g.F.Read.remaining in
    let long : MAX_READ ≤ length c.loop-buf.bytes.items = omega arith in
    rw c.truncate.ensures.items
    (Consumes-front (left c.args.file.now) (left c.loop-buf.file) c.loop-buf.bytes.items MAX_READ c.loop-buf.invariant.read long)
