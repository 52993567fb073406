use Rattle.std.proofs.Common.{ℕ, List, [], ◌∷◌, ◌++◌, length}
use Rattle.std.proofs.lemmas.Result.{IfOk-equal}
use Rattle.dap_messages.specs.Grammar.{items}
use Rattle.dap_messages.specs.Forms.{job, step}
use Rattle.lane_records.proofs.Appends.{five}
use Rattle.lane_records.specs.Records.{continue_fields}
use Rattle.lane_records.proofs.lanes.put_continue.Goals as goal

pub returns : goal.returns
returns c =
    let o : List ℕ = c.args.out.now.items in
    let text = c.args.name.now in
    let last = (items step).spell c.args.steps.now in
    IfOk-equal c.put-2.result c.put-2.new.out.items (c.put.new.out.items ++ last) (o ++ 3 ∷ continue_fields.spell (text, (c.args.job.now, c.args.steps.now))) c.put-2.ensures
    (five o (3 ∷ []) (length text ∷ text) (3 ∷ []) (job.spell c.args.job.now) last c.put_u8.new.out.items c.put_name.new.out.items c.put_u8-2.new.out.items c.put.new.out.items
    c.in_ok-put_u8.ensures.ok c.in_ok-put_name.ensures c.in_ok-put_u8-2.ensures.ok c.in_ok-put.ensures)
