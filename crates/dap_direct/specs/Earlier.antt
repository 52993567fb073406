-- The batch that starts first, one batch after another.
use Rattle.std.specs.Prelude.{Option, Some, None}
use Rattle.dap_bytes.specs.declared.span.Span.{Span}
use Rattle.dap_model.specs.State.{earlier}

-- the first so far, if there is one, or another that starts before it
abbrev pub earlier_of : Option Span → Span → Span
earlier_of None other = other
earlier_of (Some first) other = earlier first other
