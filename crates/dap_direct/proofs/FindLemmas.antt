-- Elements that are found, replaced and added.
use Rattle.std.proofs.Common.{◌≡◌, ℕ, zero, suc, ◌+◌, ◌<◌, List, [], ◌∷◌, length, get_or, set, Bool, cond, true, false, not, Some, refl, sym, ap, ◌∙◌, arith}
use Rattle.std.specs.List.{find, position_or_len}

pub find-set_other : {X : Type 0} (p : X → Bool) (xs : List X) (i : ℕ) (y d : X) → p (get_or xs i d) ≡ false → p y ≡ false → find p (set xs i y) ≡ find p xs
find-set_other p [] i y d h k = refl
find-set_other p (x ∷ xs) zero y d h k = ap (λ b. cond b (Some y) (find p xs)) k ∙ sym (ap (λ b. cond b (Some x) (find p xs)) h)
find-set_other p (x ∷ xs) (suc i) y d h k = ap (λ o. cond (p x) (Some x) o) (find-set_other p xs i y d h k)

-- what is found at the first place that passes, and what is found when it is replaced
pub record FoundAt {X : Type 0} (p : X → Bool) (xs : List X) (x : X) : Type 0 where
  pub found : find p xs ≡ Some x
  pub passes : p x ≡ true
  pub replaced : (y : X) → p y ≡ true → find p (set xs (position_or_len p xs) y) ≡ Some y

pub found_at : {X : Type 0} (p : X → Bool) (xs : List X) (x : X) → position_or_len p xs < length xs → x ≡ get_or xs (position_or_len p xs) x → FoundAt p xs x
found_at p [] x h e = absurd (omega arith)
found_at {X} p (y ∷ ys) x h e = go (p y) refl h e (λ within is. found_at p ys x within is)
  where
    go : (b : Bool) → p y ≡ b → cond (not b) (1 + position_or_len p ys) 0 < length (y ∷ ys) → x ≡ get_or (y ∷ ys) (cond (not b) (1 + position_or_len p ys) 0) x
        → (position_or_len p ys < length ys → x ≡ get_or ys (position_or_len p ys) x → FoundAt p ys x) → FoundAt p (y ∷ ys) x
    go true t h e more = record {
      found = ap (λ b. cond b (Some y) (find p ys)) t ∙ ap Some (sym e);
      passes = ap p e ∙ t;
      replaced = λ z k. ap (λ b. find p (set (y ∷ ys) (cond (not b) (1 + position_or_len p ys) 0) z)) t ∙ ap (λ b. cond b (Some z) (find p ys)) k;
    }
    go false t h e more =
        let next : 1 + position_or_len p ys ≡ suc (position_or_len p ys) = omega arith in
        let rest : FoundAt p ys x = more (omega arith) (e ∙ ap (λ n. get_or (y ∷ ys) n x) next) in
        record {
          found = ap (λ b. cond b (Some y) (find p ys)) t ∙ rest.found;
          passes = rest.passes;
          replaced = λ z k.
              ap (λ b. find p (set (y ∷ ys) (cond (not b) (1 + position_or_len p ys) 0) z)) t
              ∙ ap (λ n. find p (set (y ∷ ys) n z)) next
              ∙ ap (λ b. cond b (Some y) (find p (set ys (position_or_len p ys) z))) t
              ∙ rest.replaced z k;
        }
