-- How many elements the field has.
use Rattle.std.specs.Prelude.{ℕ}

-- 2^128 - 7 * 2^66 + 1
abbrev pub modulus : ℕ
modulus = 340282366920938462946865773367900766209
