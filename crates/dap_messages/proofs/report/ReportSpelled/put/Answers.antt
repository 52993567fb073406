use Rattle.std.proofs.Common.{ℕ, List, ◌∷◌, ◌++◌, length}
use Rattle.std.specs.Int.{w16, w32, w64, to_be_bytes}
use Rattle.std.proofs.lemmas.Result.{IfOk-equal}
use Rattle.dap_messages.specs.Messages.{report}
use Rattle.dap_messages.specs.AppendLaws.{seven}
use Rattle.dap_messages.proofs.report.ReportSpelled.put.Goals as goal

pub returns : goal.returns
returns c =
    let r = c.args.self.now in
    let o : List ℕ = c.args.out.now.items in
    let field : List ℕ → List ℕ = λ text. to_be_bytes w32 (length text) ++ text in
    IfOk-equal c.put_bytes-3.result c.put_bytes-3.new.out.items (c.put_bytes-2.new.out.items ++ field r.helper) (o ++ report.spell r) c.put_bytes-3.ensures
    (seven o (length r.name ∷ r.name) r.id (to_be_bytes w64 r.time) (to_be_bytes w16 0) (field r.public) (field r.leader) (field r.helper)
    c.put_name.new.out.items c.extend_from_slice.new.self.items c.put_u64.new.out.items c.put_u16.new.out.items c.put_bytes.new.out.items c.put_bytes-2.new.out.items
    c.in_ok-put_name.ensures c.in_ok-extend_from_slice.ensures.items c.in_ok-put_u64.ensures.ok c.in_ok-put_u16.ensures.ok c.in_ok-put_bytes.ensures c.in_ok-put_bytes-2.ensures)
