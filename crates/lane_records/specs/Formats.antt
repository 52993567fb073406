-- Formats of a journal's records.
use Rattle.std.specs.Prelude.{ℕ, Option, Some, None, ◌==◌, if◌then◌else◌}
use Rattle.dap_messages.specs.Grammar.{Grammar, coded}
use Rattle.lane_records.specs.declared.format.Format.{Format}
use Rattle.lane_records.specs.declared.format.Format.TheVariants.{One, Two}

-- the first in format 1, the second in format 2
abbrev pub by_format : {A : Type 0} → A → A → Format → A
by_format one two One = one
by_format one two Two = two

-- the byte of a format, which is its number
abbrev pub byte_of_format : Format → ℕ
byte_of_format f = by_format 1 2 f

-- the format of a byte
abbrev pub format_of : ℕ → Option Format
format_of b =
    if b == 1 then Some One else
    (if b == 2 then Some Two else None)

-- a format, in one byte
abbrev pub format : Grammar Format
format = coded format_of byte_of_format

-- what is said of a value in this format alone: nothing of one in the other
abbrev pub in_format : {A : Type 0} → Format → Format → A → Option A
in_format One One x = Some x
in_format One Two x = None
in_format Two One x = None
in_format Two Two x = Some x
