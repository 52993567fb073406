-- The least power of two that is above the number of calls.
use Rattle.std.proofs.Common.{◌≡◌, ℕ, zero, suc, ◌+◌, ◌*◌, ◌^◌, ◌<◌, ◌≤◌, Bool, true, false, cond, ap, ◌∙◌, refl, arith, subst}
use Rattle.std.proofs.Math.Dec.{leb}
use Rattle.std.proofs.Math.Nat.{pow-suc}
use Rattle.std.proofs.lemmas.Nat.{pow_pos}
use Rattle.std.proofs.lemmas.Bool.{leb-true, leb-false}
use Rattle.field_laws.proofs.Logs.{exponent_below}
use Rattle.flp_proof.specs.Proof.{log_from, wire_log}

log_step : (l n tries later : ℕ) (b : Bool) → leb n (2 ^ l) ≡ b → (n ≤ 2 ^ later) × (later ≤ (l + 1) + tries) → (n ≤ 2 ^ cond b l later) × (cond b l later ≤ l + suc tries)
log_step l n tries later true e h = (leb-true n (2 ^ l) e, omega arith)
log_step l n tries later false e h = (h.0, omega (arith, h.1))

log_enough : (tries l n : ℕ) → n ≤ 2 ^ (l + tries) → (n ≤ 2 ^ log_from tries l n) × (log_from tries l n ≤ l + tries)
unfolding log_from
log_enough zero l n h = (subst (λ k. n ≤ 2 ^ k) (let e : l + 0 ≡ l = omega arith in e) h, omega arith)
log_enough (suc tries) l n h =
    log_step l n tries (log_from tries (l + 1) n) (leb n (2 ^ l)) refl (log_enough tries (l + 1) n (subst (λ k. n ≤ 2 ^ k) (let e : l + suc tries ≡ (l + 1) + tries = omega arith in e) h))

pub wire_log_fits : (calls : ℕ) → calls ≤ 2047 → (calls + 1 ≤ 2 ^ wire_log calls) × (wire_log calls ≤ 11)
unfolding wire_log
wire_log_fits calls few = log_enough 11 0 (calls + 1) (omega arith)

log_before : (l n tries later log : ℕ) (b : Bool) → leb n (2 ^ l) ≡ b → n ≤ 2 ^ log → l ≤ log → (l + 1 ≤ log → later ≤ log) → cond b l later ≤ log
log_before l n tries later log true e enough low rest = low
log_before l n tries later log false e enough low rest =
    let short : 2 ^ l < n = leb-false n (2 ^ l) e in
    let above : l < log = exponent_below l log (omega arith) in
    rest (omega arith)

log_least : (tries l n log : ℕ) → n ≤ 2 ^ log → l ≤ log → log_from tries l n ≤ log
unfolding log_from
log_least zero l n log enough low = low
log_least (suc tries) l n log enough low = log_before l n tries (log_from tries (l + 1) n) log (leb n (2 ^ l)) refl enough low (log_least tries (l + 1) n log enough)

-- no lower exponent is enough
pub wire_log_least : (calls log : ℕ) → calls + 1 ≤ 2 ^ log → wire_log calls ≤ log
unfolding wire_log
wire_log_least calls log enough = log_least 11 0 (calls + 1) log enough (omega arith)

pub twice_order : (log : ℕ) → (2 ^ (log + 1) ≡ 2 * 2 ^ log) × (1 ≤ 2 ^ log)
twice_order log = (ap (λ k. 2 ^ k) (let e : log + 1 ≡ suc log = omega arith in e) ∙ pow-suc 2 log ∙ (let e : 2 ^ log * 2 ≡ 2 * 2 ^ log = omega arith in e), omega (arith, pow_pos log))
