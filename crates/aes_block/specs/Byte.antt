-- Bytes as polynomials over two elements modulo x^8 + x^4 + x^3 + x + 1 (FIPS 197, sections 4 and 5.1.1).
-- Bit i of a number is the coefficient of x^i, so `bit_xor` is the sum of two polynomials.
use Rattle.std.specs.Prelude.{ℕ, ◌+◌, ◌*◌, ◌/◌, ◌%◌, ◌^◌, Bool, true, false, ◌==◌, bit_xor, map, sum}
use Rattle.std.specs.Int.{bit_at}
use Rattle.std.specs.List.{range_with_len}
use Rattle.std.proofs.Common.{zero, suc}

-- the product of two polynomials, the second of degree below n
unfoldable pub product : ℕ → ℕ → ℕ → ℕ
product a b zero = 0
product a b (suc n) = bit_xor (b % 2 * a) (2 * product a (b / 2) n)

-- the remainder of a polynomial of degree below 8 + n: the modulus times x^(n - 1) goes where x^(7 + n) stands, and so on down
unfoldable pub remainder : ℕ → ℕ → ℕ
remainder a zero = a
remainder a (suc n) = remainder (bit_xor a (a / 2 ^ (8 + n) * (0x11b * 2 ^ n))) n

-- the product of two bytes
unfoldable pub times : ℕ → ℕ → ℕ
times a b = remainder (product a b 8) 7

-- the first of the n numbers from b on that passes, or 0
unfoldable pub first_from : (ℕ → Bool) → ℕ → ℕ → ℕ
first_from passes b zero = 0
first_from passes b (suc n) = elim (passes b) [ true ↦ b | false ↦ first_from passes (b + 1) n ]

-- the byte whose product with a is 1, and 0 for 0
unfoldable pub inverse : ℕ → ℕ
inverse a = first_from (λ b. times a b == 1) 0 256

-- bit i of the affine map's value: a_i + a_(i+4) + a_(i+5) + a_(i+6) + a_(i+7) + c_i with c = 63 hex
abbrev pub affine_bit : ℕ → ℕ → ℕ
affine_bit a i =
    (bit_at a i + bit_at a ((i + 4) % 8) + bit_at a ((i + 5) % 8) + bit_at a ((i + 6) % 8) + bit_at a ((i + 7) % 8) + bit_at 0x63 i) % 2

-- SubBytes at one byte: its inverse under the affine map
unfoldable pub sub_byte : ℕ → ℕ
sub_byte a = let b = inverse a in sum (map (λ i. affine_bit b i * 2 ^ i) (range_with_len 0 8))
