-- The faults of a device in memory, from the calls that were listed and made.
use Rattle.std.specs.Prelude.{ℕ, zero, suc, ◌+◌, ◌-◌, ◌^◌, List, Bool, ◌&&◌, cond, nat_eq, nat_lt, min}
use Rattle.std.specs.List.{list_any}
use Rattle.dap_outside.specs.declared.plan.Plan.{Plan}

-- how many of the first n calls are listed
abbrev pub failed_among : ℕ → List ℕ → ℕ
failed_among zero listed = 0
failed_among (suc n) listed = cond (list_any (λ call. nat_eq call (suc n)) listed) 1 0 + failed_among n listed

-- how many of the calls that were made are listed
abbrev pub failed_calls : Plan → ℕ
failed_calls p = failed_among p.calls p.fails.items

-- how many calls were made, up to the end of the count
abbrev pub calls_after : ℕ → ℕ
calls_after calls = min (calls + 1) (2 ^ 64 - 1)

-- the next call is listed
abbrev pub fails_next : Plan → Bool
fails_next p = nat_lt p.calls (2 ^ 64 - 1) && list_any (λ call. nat_eq call (p.calls + 1)) p.fails.items
