use Rattle.std.proofs.Common.{◌≡◌, ℕ, ◌+◌, ◌<◌, ◌≤◌, length, get_or, take, refl, sym, ap, subst, arith}
use Rattle.helper_lane.proofs.Entered.{known_all, known_more}
use Rattle.helper_lane.proofs.known.Known.catch_up.Goals as goal

pub loop-place-preserved : goal.loop-place-preserved
loop-place-preserved c =
    let i = c.loop-place.place in
    let k = c.loop-place.self in
    let xs = c.args.records.now in
    let x = c.index-records-place.result in
    let same : k.count ≡ i = c.loop-place.invariant.1 in
    let lt : k.count < length xs = omega (arith, same) in
    let here : x ≡ get_or xs k.count x = subst (λ (n : ℕ). x ≡ get_or xs n x) (sym same) c.index-records-place.is in
    (known_more k c.push.new.self (i + 1) xs x lt here (ap (λ (n : ℕ). n + 1) (sym same)) (c.in_ok-push.ensures.ok (take k.count xs) c.loop-place.invariant.0.indexes), refl)

pub returns-in_err-push-clause-known : goal.returns-in_err-push-clause-known
returns-in_err-push-clause-known c =
    let k = c.loop-place.self in
    let is = c.loop-place.invariant.0 in
    record { within = is.within; indexes = c.in_err-push.ensures.err (take k.count c.args.records.now) is.indexes }

pub returns-clause-ok : goal.returns-clause-ok
returns-clause-ok c =
    let k = c.loop-place.self in
    let same : k.count ≡ c.loop-place.place = c.loop-place.invariant.1 in
    let le : length c.args.records.now ≤ k.count = omega (arith, same) in
    known_all k c.args.records.now le c.loop-place.invariant.0
