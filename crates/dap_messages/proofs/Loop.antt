-- Reading and writing items one after the other, as a loop does.
use Rattle.std.proofs.Common.{◌≡◌, ℕ, suc, ◌-◌, ◌+◌, ◌≤◌, ◌<◌, true, All, List, [], ◌∷◌, ◌++◌, Option, Some, None, Result, Ok, Err, refl, sym, ap, ◌∙◌, append_assoc, arith}
use Rattle.std.specs.List.{AllByRecursion}
use Rattle.std.proofs.lemmas.List.{append-nil}
use Rattle.std.proofs.lemmas.List.Elements.{All-from_recursion}
use Rattle.dap_bytes.specs.Cursor.{Reading}
use Rattle.dap_messages.specs.declared.fault.ReadFault.{ReadFault}
use Rattle.dap_messages.specs.declared.fault.ReadFault.TheVariants as faults
use Rattle.dap_messages.specs.declared.item.Tagged.{Tagged}
use Rattle.dap_messages.specs.Grammar.{Grammar, ◌>>=◌, cells, is_above, item, items_at, allowed_items}
use Rattle.dap_messages.specs.Laws.{and_parts}
use Rattle.dap_messages.specs.Spelled.{Answers}

-- what was read before, and what is still read
abbrev pub with_front : {B : Type 0} → List (Tagged B) → Result (List (Tagged B) × Reading) ℕ → Result (List (Tagged B) × Reading) ℕ
with_front front read = read >>= λ x. Ok (front ++ x.0, x.1)

pub begins : {B : Type 0} (g : Grammar B) (count : ℕ) (r : Reading) → with_front [] (items_at g None (count - 0) r) ≡ items_at g None count r
begins {B} g count r =
    let same : count - 0 ≡ count = omega arith in
    ap (λ (n : ℕ). with_front [] (items_at g None n r)) same ∙ go (items_at g None count r) where
      go : (read : Result (List (Tagged B) × Reading) ℕ) → with_front [] read ≡ read
      go (Ok x) = refl
      go (Err at) = refl

regroup : {B : Type 0} (front : List (Tagged B)) (x : Tagged B) (read : Result (List (Tagged B) × Reading) ℕ) → with_front front (read >>= λ y. Ok (x ∷ y.0, y.1)) ≡ with_front (front ++ x ∷ []) read
regroup {B} front x (Ok y) =
    ap (λ (xs : List (Tagged B)). let z : Result (List (Tagged B) × Reading) ℕ = Ok (xs, y.1) in z) (sym (append_assoc front (x ∷ []) y.0))
regroup front x (Err at) = refl

pub goes_on : {B : Type 0} (g : Grammar B) (last : Option (List ℕ)) (front : List (Tagged B)) (count i : ℕ) (r : Reading) (x : Tagged B) (after : Reading) (total : Result (List (Tagged B) × Reading) ℕ)
    → i < count → (item g last).read r ≡ Ok (x, after) → with_front front (items_at g last (count - i) r) ≡ total → with_front (front ++ x ∷ []) (items_at g (Some x.id) (count - (i + 1)) after) ≡ total
goes_on g last front count i r x after total lt h so_far =
    let k : count - i ≡ suc (count - (i + 1)) = omega arith in
    let one : with_front front (items_at g last (count - i) r) ≡ with_front (front ++ x ∷ []) (items_at g (Some x.id) (count - (i + 1)) after) =
    rw (k, h) (regroup front x (items_at g (Some x.id) (count - (i + 1)) after)) in
    sym one ∙ so_far

-- a fault of an item is the fault of the list
pub ends : {B : Type 0} (g : Grammar B) (last : Option (List ℕ)) (front : List (Tagged B)) (count i : ℕ) (r : Reading) (at : ℕ) (total : Result (List (Tagged B) × Reading) ℕ)
    → i < count → (item g last).read r ≡ Err at → with_front front (items_at g last (count - i) r) ≡ total → total ≡ Err at
ends g last front count i r at total lt h so_far =
    let k : count - i ≡ suc (count - (i + 1)) = omega arith in
    let one : with_front front (items_at g last (count - i) r) ≡ Err at = rw (k, h) refl in
    sym so_far ∙ one

pub fails : {B : Type 0} (g : Grammar B) (last : Option (List ℕ)) (front : List (Tagged B)) (count i : ℕ) (r : Reading) (e : ReadFault) (after : Reading) (total : Result (List (Tagged B) × Reading) ℕ)
    → i < count → Answers ((item g last).read r) (Err e) after → with_front front (items_at g last (count - i) r) ≡ total → Answers total (Err e) after
fails g last front count i r faults.NoMemory after total lt h so_far = tt
fails g last front count i r (faults.Form at) after total lt h so_far = ends g last front count i r at total lt h so_far

pub is_done : {B : Type 0} (g : Grammar B) (last : Option (List ℕ)) (front : List (Tagged B)) (count i : ℕ) (r : Reading) (total : Result (List (Tagged B) × Reading) ℕ)
    → count ≤ i → with_front front (items_at g last (count - i) r) ≡ total → total ≡ Ok (front, r)
is_done {B} g last front count i r total le so_far =
    let k : count - i ≡ 0 = omega arith in
    let one : with_front front (items_at g last (count - i) r) ≡ Ok (front, r) =
    rw k (ap (λ (xs : List (Tagged B)). let z : Result (List (Tagged B) × Reading) ℕ = Ok (xs, r) in z) (append-nil front)) in
    sym so_far ∙ one

-- the bodies of allowed items are allowed
bodies : {B : Type 0} (g : Grammar B) (last : Option (List ℕ)) (xs : List (Tagged B)) → allowed_items g last xs ≡ true → AllByRecursion (λ x. g.allowed x.body ≡ true) xs
bodies g last [] a = tt
bodies g last (x ∷ xs) a =
    let parts = and_parts ((item g last).allowed x) (allowed_items g (Some x.id) xs) a in
    ((and_parts ((cells 16 (is_above last)).allowed x.id) (g.allowed x.body) parts.0).1, bodies g (Some x.id) xs parts.1)

pub bodies_allowed : {B : Type 0} (g : Grammar B) (xs : List (Tagged B)) → allowed_items g None xs ≡ true → All (λ x. g.allowed x.body ≡ true) xs
bodies_allowed g xs a = All-from_recursion (λ x. g.allowed x.body ≡ true) xs (bodies g None xs a)
