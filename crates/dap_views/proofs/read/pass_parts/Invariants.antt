use Rattle.std.proofs.Common.{◌≡◌, ◌-◌, None}
use Rattle.dap_messages.specs.Forms.{half}
use Rattle.dap_messages.specs.Grammar.{items_at}
use Rattle.dap_views.proofs.Walk.{end_of}
use Rattle.dap_views.proofs.read.pass_parts.Given as goal

abbrev pub invariant-loop : goal.invariant-loop
invariant-loop l = end_of (items_at half l.last (l.count - l.counter) l.cursor) ≡ end_of (items_at half None l.count l.fn.cursor)
