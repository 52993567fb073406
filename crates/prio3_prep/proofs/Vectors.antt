-- Lemmas: vectors read one number at a time.
use Rattle.std.proofs.Common.{◌≡◌, ◌≢◌, ℕ, zero, suc, ◌+◌, ◌-◌, ◌*◌, ◌<◌, ◌≤◌, ◌⊎◌, inl, inr, List, [], ◌∷◌, ◌++◌, append_assoc, length, take, drop, Bool, true, false, Option, Some, None, sym, ap, ◌∙◌, refl, arith}
use Rattle.std.specs.Prelude.{nat_eq, nat_lt}
use Rattle.std.specs.List.{list_all}
use Rattle.std.proofs.lemmas.List.{append-nil}
use Rattle.std.proofs.lemmas.Bool.Decides.{nat_tests}
use Rattle.field_laws.specs.Bytes.{from_low}
use Rattle.vdaf_api.specs.Vectors.{when, is_byte, element_of, joined, vector_of}

-- these numbers, and the ones behind them
abbrev pub behind : List ℕ → Option (List ℕ) → Option (List ℕ)
behind ns (Some ms) = Some (ns ++ ms)
behind ns None = None

joined-behind : (ns : List ℕ) (v : ℕ) (o : Option (List ℕ)) → behind ns (joined (Some v) o) ≡ behind (ns ++ (v ∷ [])) o
joined-behind ns v (Some ms) = ap Some (sym (append_assoc ns (v ∷ []) ms))
joined-behind ns v None = refl

pub behind-step : (p w k : ℕ) (ns rest : List ℕ) (v : ℕ) → 0 < k → element_of p w (take w rest) ≡ Some v → behind ns (vector_of p w k rest) ≡ behind (ns ++ (v ∷ [])) (vector_of p w (k - 1) (drop w rest))
unfolding vector_of
behind-step p w zero ns rest v h e = absurd (omega arith)
behind-step p w (suc k) ns rest v h e =
    ap (λ o. behind ns (joined o (vector_of p w k (drop w rest)))) e ∙ joined-behind ns v (vector_of p w k (drop w rest))
    ∙ ap (λ j. behind (ns ++ (v ∷ [])) (vector_of p w j (drop w rest))) (let e : k ≡ suc k - 1 = omega arith in e)

pub behind-none : (p w k : ℕ) (ns rest : List ℕ) → 0 < k → element_of p w (take w rest) ≡ None → behind ns (vector_of p w k rest) ≡ None
unfolding vector_of
behind-none p w zero ns rest h e = absurd (omega arith)
behind-none p w (suc k) ns rest h e = ap (λ o. behind ns (joined o (vector_of p w k (drop w rest)))) e

pub behind-end : (p w : ℕ) (ns rest : List ℕ) → length rest ≡ 0 → behind ns (vector_of p w 0 rest) ≡ Some ns
unfolding vector_of
behind-end p w ns [] e = ap Some (append-nil ns)
behind-end p w ns (x ∷ rest) e = absurd (omega arith)

pub element-none : (p w : ℕ) (bs : List ℕ) → (length bs ≢ w) ⊎ (p ≤ from_low bs) → element_of p w bs ≡ None
unfolding element_of
element-none p w bs (inl h) = let t : nat_eq (length bs) w ≡ false = grind (arith, nat_tests) in ap (λ t. when t (when (list_all is_byte bs) (when (nat_lt (from_low bs) p) (Some (from_low bs))))) t
element-none p w bs (inr h) = let t : nat_lt (from_low bs) p ≡ false = grind (arith, nat_tests) in ap (λ t. when (nat_eq (length bs) w) (when (list_all is_byte bs) (when t (Some (from_low bs))))) t ∙ twice (nat_eq (length bs) w) (list_all is_byte bs)
  where
    twice : (a b : Bool) → when {A = ℕ} a (when b None) ≡ None
    twice true true = refl
    twice true false = refl
    twice false b = refl

pub row_less : (n i w len rest : ℕ) → i < n → len ≡ (n - i) * w → rest ≡ len - w → rest ≡ (n - (i + 1)) * w
row_less n i w len rest h e r =
    let k : n - i ≡ suc (n - (i + 1)) = omega arith in
    let f : len ≡ suc (n - (i + 1)) * w = e ∙ ap (λ k. k * w) k in
    omega arith
