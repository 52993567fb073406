use Rattle.std.proofs.Common.{◌≡◌, ◌<◌, length, arith}
use Rattle.std.proofs.lemmas.Grind.{common_steps}
use Rattle.dap_script.proofs.ReportLemmas.{none_from_empty, none_from_fault, some_from_bytes}
use Rattle.dap_script.proofs.fields.report.Goals as goal

pub returns-then-is_empty : goal.returns-then-is_empty
returns-then-is_empty c =
    let none : length c.in-Ok.bytes.items ≡ 0 = grind (arith, common_steps) in
    none_from_empty c.args.text.now c.in-Ok.bytes.items (rw c.as_bytes.ensures.value at c.in-Ok.ensures.ok) none

pub returns-else-is_empty : goal.returns-else-is_empty
returns-else-is_empty c =
    let some : 0 < length c.in-Ok.bytes.items = grind (arith, common_steps) in
    rw c.new.ensures (some_from_bytes c.args.text.now c.in-Ok.bytes.items (rw c.as_bytes.ensures.value at c.in-Ok.ensures.ok) c.in-Ok.ensures.bytes some)

pub returns-in-Err-DecodeError : goal.returns-in-Err-DecodeError
returns-in-Err-DecodeError c =
    none_from_fault c.args.text.now c.in-Err-DecodeError.field-0-0
    (rw (c.as_bytes.ensures.value, c.in-Err-DecodeError.is, c.in-Err-DecodeError.field-0-is) at c.decode.ensures.err)
