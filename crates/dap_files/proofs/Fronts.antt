-- Readings, one after another, and the front of what they took.
use Rattle.std.proofs.Common.{◌≡◌, ℕ, ◌≤◌, List, [], ◌++◌, length, take, Option, Some, None, IfSome, refl, sym, ap, ◌∙◌, append_assoc, append-nil, subst}
use Rattle.std.specs.Io.KnownBytes.{Consumes, IsAtEnd}
use Rattle.std.proofs.lemmas.List.{take_all, take-append-le}
use Rattle.dap_files.specs.Taken.{TakesIn}

pub Consumes-nil : (a : Option (List ℕ)) → Consumes a a []
Consumes-nil None = tt
Consumes-nil (Some xs) = refl

pub Consumes-more : (a b c : Option (List ℕ)) (bs cs : List ℕ) → Consumes a b bs → Consumes b c cs → Consumes a c (bs ++ cs)
Consumes-more None b c bs cs p q = tt
Consumes-more (Some x) None c bs cs p q = absurd p
Consumes-more (Some x) (Some y) None bs cs p q = absurd q
Consumes-more (Some x) (Some y) (Some z) bs cs p q = p ∙ ap (λ l. bs ++ l) q ∙ sym (append_assoc bs cs z)

pub Consumes-taken : (a b c : Option (List ℕ)) (old new : List ℕ) (n : ℕ) → Consumes a b old → TakesIn b c old new n → Consumes a c new
Consumes-taken a b c old new n p t = subst (Consumes a c) (sym t.grown) (Consumes-more a b c old t.fresh p t.consumed)

-- where all was taken, and that is no more than n, it is the front of n
pub Consumes-whole : (a b : Option (List ℕ)) (bs : List ℕ) (n : ℕ) → Consumes a b bs → IsAtEnd b → length bs ≤ n → IfSome a (λ xs. bs ≡ take n xs)
Consumes-whole None b bs n p q h = tt
Consumes-whole (Some x) None bs n p q h = absurd p
Consumes-whole (Some x) (Some y) bs n p q h =
    let all : x ≡ bs = p ∙ ap (λ l. bs ++ l) q ∙ append-nil bs in
    sym (ap (take n) all ∙ take_all n bs h)

-- where n or more were taken, their front of n is that of all
pub Consumes-front : (a b : Option (List ℕ)) (bs : List ℕ) (n : ℕ) → Consumes a b bs → n ≤ length bs → IfSome a (λ xs. take n bs ≡ take n xs)
Consumes-front None b bs n p h = tt
Consumes-front (Some x) None bs n p h = absurd p
Consumes-front (Some x) (Some y) bs n p h = sym (ap (take n) p ∙ take-append-le n bs y h)
