-- Lemmas: formats keep the laws of grammars.
use Rattle.std.proofs.Common.{◌≡◌, ℕ, Some, refl}
use Rattle.dap_messages.specs.Lawful.{Lawful}
use Rattle.dap_messages.specs.Laws.{coded_lawful, some_is}
use Rattle.dap_messages.specs.FormLaws.{coded_row, no_row}
use Rattle.lane_records.specs.declared.format.Format.{Format}
use Rattle.lane_records.specs.declared.format.Format.TheVariants.{One, Two}
use Rattle.lane_records.specs.Formats.{byte_of_format, format_of, format, in_format}

format_back : (f : Format) → format_of (byte_of_format f) ≡ Some f
format_back One = refl
format_back Two = refl

format_only : (b : ℕ) (f : Format) → format_of b ≡ Some f → byte_of_format f ≡ b
format_only b f = coded_row byte_of_format b 1 One f _ refl (coded_row byte_of_format b 2 Two f _ refl (no_row byte_of_format b f))

pub format_lawful : Lawful format
format_lawful = coded_lawful format_of byte_of_format format_back format_only

-- a format is itself
pub in_format-same : {A : Type 0} (f : Format) (x : A) → in_format f f x ≡ Some x
in_format-same One x = refl
in_format-same Two x = refl

-- where something is said of a value in a format, it is in that format
pub in_format-only : {A : Type 0} (f g : Format) (x y : A) → in_format f g x ≡ Some y → (f ≡ g) × (x ≡ y)
in_format-only One One x y e = (refl, some_is x y e)
in_format-only One Two x y e = absurd cc
in_format-only Two One x y e = absurd cc
in_format-only Two Two x y e = (refl, some_is x y e)
