-- One call more is one of the listed ones, or it isn't.
use Rattle.std.proofs.Common.{◌≡◌, ℕ, suc, ◌+◌, List, Bool, true, false, cond, nat_eq, ap, ◌∙◌, subst, arith}
use Rattle.std.specs.List.{list_any}
use Rattle.dap_outside.specs.Plan.{failed_among}

next : (n : ℕ) → suc n ≡ n + 1
next n = omega arith

pub failed_among-listed : (n : ℕ) (listed : List ℕ) → list_any (λ call. nat_eq call (n + 1)) listed ≡ true
    → failed_among (n + 1) listed ≡ 1 + failed_among n listed
failed_among-listed n listed h =
    subst (λ (m : ℕ). list_any (λ call. nat_eq call m) listed ≡ true → failed_among m listed ≡ 1 + failed_among n listed) (next n)
    (λ found. ap (λ (b : Bool). cond b 1 0 + failed_among n listed) found) h

pub failed_among-free : (n : ℕ) (listed : List ℕ) → list_any (λ call. nat_eq call (n + 1)) listed ≡ false
    → failed_among (n + 1) listed ≡ failed_among n listed
failed_among-free n listed h =
    subst (λ (m : ℕ). list_any (λ call. nat_eq call m) listed ≡ false → failed_among m listed ≡ failed_among n listed) (next n)
    (λ found. ap (λ (b : Bool). cond b 1 0 + failed_among n listed) found ∙ (omega arith)) h
