-- Reading and writing bounds one after the other, as a loop does.
use Rattle.std.proofs.Common.{◌≡◌, ℕ, suc, ◌-◌, ◌+◌, ◌≤◌, ◌<◌, List, [], ◌∷◌, ◌++◌, Option, Some, Result, Ok, Err, refl, sym, ap, ◌∙◌, append_assoc, arith}
use Rattle.std.proofs.lemmas.List.{append-nil}
use Rattle.dap_bytes.specs.Cursor.{Reading}
use Rattle.dap_messages.specs.Grammar.{◌>>=◌}
use Rattle.lane_records.specs.Bounds.{bound, bounds_at}

-- what was read before, and what is still read
abbrev pub with_front : List ℕ → Result (List ℕ × Reading) ℕ → Result (List ℕ × Reading) ℕ
with_front front read = read >>= λ x. Ok (front ++ x.0, x.1)

regroup : (front : List ℕ) (x : ℕ) (read : Result (List ℕ × Reading) ℕ) → with_front front (read >>= λ y. Ok (x ∷ y.0, y.1)) ≡ with_front (front ++ x ∷ []) read
regroup front x (Ok y) =
    ap (λ (xs : List ℕ). let z : Result (List ℕ × Reading) ℕ = Ok (xs, y.1) in z) (sym (append_assoc front (x ∷ []) y.0))
regroup front x (Err at) = refl

pub goes_on : (last : Option ℕ) (front : List ℕ) (count i : ℕ) (r : Reading) (x : ℕ) (after : Reading) (total : Result (List ℕ × Reading) ℕ)
    → i < count → (bound last).read r ≡ Ok (x, after) → with_front front (bounds_at last (count - i) r) ≡ total → with_front (front ++ x ∷ []) (bounds_at (Some x) (count - (i + 1)) after) ≡ total
goes_on last front count i r x after total lt h so_far =
    let k : count - i ≡ suc (count - (i + 1)) = omega arith in
    let one : with_front front (bounds_at last (count - i) r) ≡ with_front (front ++ x ∷ []) (bounds_at (Some x) (count - (i + 1)) after) =
    rw (k, h) (regroup front x (bounds_at (Some x) (count - (i + 1)) after)) in
    sym one ∙ so_far

-- a fault of a bound is the fault of the list
pub ends : (last : Option ℕ) (front : List ℕ) (count i : ℕ) (r : Reading) (at : ℕ) (total : Result (List ℕ × Reading) ℕ)
    → i < count → (bound last).read r ≡ Err at → with_front front (bounds_at last (count - i) r) ≡ total → total ≡ Err at
ends last front count i r at total lt h so_far =
    let k : count - i ≡ suc (count - (i + 1)) = omega arith in
    let one : with_front front (bounds_at last (count - i) r) ≡ Err at = rw (k, h) refl in
    sym so_far ∙ one

pub is_done : (last : Option ℕ) (front : List ℕ) (count i : ℕ) (r : Reading) (total : Result (List ℕ × Reading) ℕ)
    → count ≤ i → with_front front (bounds_at last (count - i) r) ≡ total → total ≡ Ok (front, r)
is_done last front count i r total le so_far =
    let k : count - i ≡ 0 = omega arith in
    let one : with_front front (bounds_at last (count - i) r) ≡ Ok (front, r) =
    rw k (ap (λ (xs : List ℕ). let z : Result (List ℕ × Reading) ℕ = Ok (xs, r) in z) (append-nil front)) in
    sym so_far ∙ one
