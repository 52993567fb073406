-- Std's ordered maps as finite maps, and the order of pairs.
use Rattle.std.proofs.Common.{◌≡◌, List, [], ◌∷◌, Some, cond, sym, ap, ◌∙◌, refl}
use Rattle.std.specs.Ordering.{ordering_then, is_eq, eq_by_cmp}
use Rattle.std.specs.declared.cmp.Ordering.{Ordering}
use Rattle.std.specs.declared.cmp.Ordering.TheVariants.{Less, Equal, Greater}
use Rattle.std.specs.Cmp.{IsTotalOrder, then_total, on_total, eq_by_cmp_equiv}
use Rattle.std.specs.Map.{lookup}
use Rattle.std.specs.FinMap as map

both_equal : (r s : Ordering) → ordering_then r s ≡ Equal → (r ≡ Equal) × (s ≡ Equal)
both_equal Less s e = absurd (cc)
both_equal Equal s e = (refl, e)
both_equal Greater s e = absurd (cc)

-- pairs in the order of their parts, the first part first
pub pair-same : {A B : Type 0} (R : A → A → Ordering) (S : B → B → Ordering) → map.IsAntisymmetric R → map.IsAntisymmetric S
    → (a b : A × B) → ordering_then (R a.0 b.0) (S a.1 b.1) ≡ Equal → a ≡ b
pair-same R S first second a b e =
    let k = both_equal (R a.0 b.0) (S a.1 b.1) e in
    let p = first a.0 b.0 k.0 in
    let q = second a.1 b.1 k.1 in
    λ i. (p i, q i)

pub pair-total : {A B : Type 0} {R : A → A → Ordering} {S : B → B → Ordering} → IsTotalOrder R → IsTotalOrder S
    → IsTotalOrder {K = A × B} (λ a b. ordering_then (R a.0 b.0) (S a.1 b.1))
pair-total {A} {B} first second = then_total (on_total (λ (t : A × B). t.0) first) (on_total (λ (t : A × B). t.1) second)

-- the first entry that ties with a key
find-lookup : {K X : Type 0} (R : K → K → Ordering) (key : K) (es : List (K × X)) → map.find R key es ≡ lookup (λ k. is_eq (R key k)) es
find-lookup R key [] = refl
find-lookup R key (e ∷ es) = ap (cond (is_eq (R key e.0)) (Some e.1)) (find-lookup R key es)

-- what a finite map has at a key is what the entries have that it was made of
pub get-lookup : {K X : Type 0} {R : K → K → Ordering} → IsTotalOrder R → (key : K) (es : List (K × X))
    → map.get (map.from_entries {R = R} es) key ≡ lookup (λ k. is_eq (R key k)) es
get-lookup {R = R} total key es = map.get-from_entries total es key ∙ find-lookup R key es

-- entries that look up as others, but for one key
pub inserted : {K X : Type 0} {R : K → K → Ordering} → IsTotalOrder R → map.IsAntisymmetric R → (before after : List (K × X)) (key : K) (value : X)
    → ((q : K) → lookup (λ k. is_eq (R q k)) after ≡ cond (is_eq (R key q)) (Some value) (lookup (λ k. is_eq (R q k)) before))
    → map.from_entries {R = R} after ≡ map.insert (map.from_entries before) key value
inserted {R = R} total same before after key value updates =
    map.same_map total same _ _ (λ q.
    get-lookup total q after ∙ updates q
    ∙ ap (λ b. cond b (Some value) (lookup (λ k. is_eq (R q k)) before)) ((eq_by_cmp_equiv total).symm key q)
    ∙ sym (map.get-insert total (map.from_entries before) key value q ∙ ap (cond (eq_by_cmp R q key) (Some value)) (get-lookup total q before)))
