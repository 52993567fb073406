use Rattle.std.proofs.Common.{◌≡◌, ℕ, ◌+◌, ◌*◌, ◌%◌, ◌/◌, ap, ◌∙◌, arith}
use Rattle.std.proofs.Math.Nat.{div-add-mod'}
use Rattle.field128.proofs.product.multiply_wide.Goals as goal

-- four products of halves, carried
wide : (a0 a1 b0 b1 first x y z : ℕ) → first ≡ a0 * b0 → x ≡ a1 * b0 → y ≡ a0 * b1 → z ≡ a1 * b1
    → (z + (x + first / 18446744073709551616) / 18446744073709551616 + (y + (x + first / 18446744073709551616) % 18446744073709551616) / 18446744073709551616) * 340282366920938463463374607431768211456
    + ((y + (x + first / 18446744073709551616) % 18446744073709551616) % 18446744073709551616 * 18446744073709551616 + first % 18446744073709551616)
    ≡ (a1 * 18446744073709551616 + a0) * (b1 * 18446744073709551616 + b0)
wide a0 a1 b0 b1 first x y z ef ex ey ez = omega arith

pub returns : goal.returns
returns c =
    let m : ℕ = 18446744073709551616 in
    wide (c.args.a % m) (c.args.a / m) (c.args.b % m) (c.args.b / m) _ _ _ _ c.multiply_halves-first.ensures.value c.multiply_halves.ensures.value c.multiply_halves-2.ensures.value c.multiply_halves-3.ensures.value
    ∙ ap (λ k. k * (c.args.b / m * m + c.args.b % m)) (div-add-mod' c.args.a m)
    ∙ ap (λ k. c.args.a * k) (div-add-mod' c.args.b m)
