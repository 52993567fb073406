-- How many elements the field has.
use Rattle.std.specs.Prelude.{ℕ}

-- 3 * 2^18 + 1
abbrev pub modulus : ℕ
modulus = 786433
