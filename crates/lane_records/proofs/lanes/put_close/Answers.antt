use Rattle.std.proofs.Common.{ℕ, List, [], ◌∷◌, ◌++◌, length}
use Rattle.std.specs.Int.{w64, to_be_bytes}
use Rattle.std.proofs.lemmas.Result.{IfOk-equal}
use Rattle.dap_messages.specs.AppendLaws.{four}
use Rattle.lane_records.specs.Records.{close_fields}
use Rattle.lane_records.specs.Stored.{closed}
use Rattle.lane_records.proofs.lanes.put_close.Goals as goal

pub returns : goal.returns
returns c =
    let o : List ℕ = c.args.out.now.items in
    let text = c.args.name.now in
    IfOk-equal c.put.result c.put.new.out.items (c.put_u64.new.out.items ++ closed.spell c.args.closed.now) (o ++ c.args.first ∷ close_fields.spell (text, (c.args.start, c.args.closed.now))) c.put.ensures
    (four o (c.args.first ∷ []) (length text ∷ text) (to_be_bytes w64 c.args.start) (closed.spell c.args.closed.now) c.put_u8.new.out.items c.put_name.new.out.items c.put_u64.new.out.items
    c.in_ok-put_u8.ensures.ok c.in_ok-put_name.ensures c.in_ok-put_u64.ensures.ok)
