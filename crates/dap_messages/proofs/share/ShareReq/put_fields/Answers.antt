use Rattle.std.proofs.Common.{ℕ, List, ◌∷◌, ◌++◌, length}
use Rattle.std.specs.Int.{w32, to_be_bytes}
use Rattle.std.proofs.lemmas.Result.{IfOk-equal}
use Rattle.dap_messages.specs.Shares.{extent_of, span_as, request_as}
use Rattle.dap_messages.specs.AppendLaws.{four}
use Rattle.dap_messages.proofs.share.ShareReq.put_fields.Goals as goal

pub returns : goal.returns
returns c =
    let o : List ℕ = c.args.out.now.items in
    let q = c.args.self.now in
    let extent = extent_of q.span in
    IfOk-equal c.put_slice.result c.put_slice.new.out.items (c.put_u32.new.out.items ++ q.checksum) (o ++ (request_as extent).spell q) c.put_slice.ensures
    (four o (length q.name ∷ q.name) ((span_as extent).spell q.span) (to_be_bytes w32 q.count) q.checksum c.put_name.new.out.items c.put_span.new.out.items
    c.put_u32.new.out.items c.in_ok-put_name.ensures c.in_ok-put_span.ensures c.in_ok-put_u32.ensures.ok)
