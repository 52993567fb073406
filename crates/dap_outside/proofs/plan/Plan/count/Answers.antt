use Rattle.std.proofs.Common.{◌≡◌, ◌⊎◌, inl, inr, ⊎_elim, ◌+◌, ◌-◌, ◌^◌, ◌<◌, ◌≤◌, ℕ, min, List, Bool, true, false, ◌&&◌, nat_lt, nat_eq, ap, ◌∙◌, arith}
use Rattle.std.proofs.lemmas.Bool.Decides.{nat_tests}
use Rattle.std.proofs.lemmas.Bool.{cases_Bool, cases_lt}
use Rattle.std.specs.List.{list_any}
use Rattle.dap_outside.proofs.PlanLemmas.{failed_among-listed, failed_among-free}
use Rattle.dap_outside.specs.Plan.{failed_among}
use Rattle.dap_outside.proofs.plan.Plan.count.Goals as goal

front : (n m : ℕ) (found : Bool) → (nat_lt n m && found) ≡ true → (n < m) × (found ≡ true)
front n m found h = (grind (arith, nat_tests), grind (arith, nat_tests))

-- at the count's end, and where the next call isn't listed
unlisted : (n m : ℕ) (found : Bool) → (nat_lt n m && found) ≡ false → m ≤ n ⊎ ((n < m) × (found ≡ false))
unlisted n m found h = grind (arith, nat_tests)

-- the next call is counted and listed, or it adds nothing
counts : (n next : ℕ) (listed : List ℕ) → n < 2 ^ 64 → next ≡ min (n + 1) (2 ^ 64 - 1) → (failed_among next listed ≡ failed_among n listed) ⊎ (failed_among next listed ≡ 1 + failed_among n listed)
counts n next listed fits is = elim (cases_lt n (2 ^ 64 - 1)) [
  | inl below ↦
      (let more : next ≡ n + 1 = omega (arith, is, below) in
      elim (cases_Bool (list_any (λ call. nat_eq call (n + 1)) listed)) [
        | inl found ↦ inr (ap (λ m. failed_among m listed) more ∙ failed_among-listed n listed found)
        | inr free ↦ inl (ap (λ m. failed_among m listed) more ∙ failed_among-free n listed free)
      ])
  | inr end ↦ (let same : next ≡ n = omega (arith, is, end, fits) in inl (ap (λ m. failed_among m listed) same))
]

pub returns-clause-later : goal.returns-clause-later
returns-clause-later c =
    ⊎_elim (λ same. omega (arith, same)) (λ more. omega (arith, more)) (counts c.args.self.now.calls c.saturating_add-self.result c.args.self.now.fails.items (omega arith) (omega arith))

pub returns-clause-one : goal.returns-clause-one
returns-clause-one c =
    ⊎_elim (λ same. omega (arith, same)) (λ more. omega (arith, more)) (counts c.args.self.now.calls c.saturating_add-self.result c.args.self.now.fails.items (omega arith) (omega arith))

pub returns-clause-risen : goal.returns-clause-risen
returns-clause-risen c = λ listed.
    let calls = c.args.self.now.calls in
    let fails = c.args.self.now.fails.items in
    let found = front calls (2 ^ 64 - 1) _ listed in
    let next : c.saturating_add-self.result ≡ calls + 1 = (let below = found.0 in omega (arith, below)) in
    let more = failed_among-listed calls fails found.1 in
    rw next (omega (arith, more))

pub returns-clause-calm : goal.returns-clause-calm
returns-clause-calm c = λ not.
    let calls = c.args.self.now.calls in
    let fails = c.args.self.now.fails.items in
    ⊎_elim
    (λ end. let same : c.saturating_add-self.result ≡ calls = omega arith in ap (λ n. failed_among n fails) same)
    (λ free. let next : c.saturating_add-self.result ≡ calls + 1 = (let below = free.0 in omega (arith, below)) in ap (λ n. failed_among n fails) next ∙ failed_among-free calls fails free.1)
    (unlisted calls (2 ^ 64 - 1) _ not)
