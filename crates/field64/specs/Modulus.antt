-- How many elements the field has.
use Rattle.std.specs.Prelude.{ℕ}

-- 2^64 - 2^32 + 1
abbrev pub modulus : ℕ
modulus = 18446744069414584321
