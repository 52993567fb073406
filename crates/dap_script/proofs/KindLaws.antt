-- A kind has one spelling, in visible words.
use Rattle.std.proofs.Common.{◌≡◌, ℕ, List, [], ◌∷◌, true, nat_eq, length, codes, Some, refl, ap, subst, ◌∙◌, arith}
use Rattle.std.proofs.lemmas.Bool.{eqb-true}
use Rattle.std.proofs.lemmas.List.Elements.{All-from_recursion}
use Rattle.std.proofs.lemmas.List.Sums.{AllPass-from_list_all}
use Rattle.std.proofs.lemmas.List.{nil_from_length}
use Rattle.std.proofs.lemmas.Option.{option_and_then_some, same_Some}
use Rattle.std.proofs.lemmas.Slice.Eq.{bytes_eq-Decides}
use Rattle.std.specs.List.{All}
use Rattle.std.specs.Str.{bytes_eq}
use Rattle.vdaf_api.proofs.Ranges.{is_kind-decides}
use Rattle.vdaf_api.specs.Kind.{IsKind, is_kind}
use Rattle.vdaf_api.specs.declared.kind.Kind.TheVariants.{Count, Histogram, Sum, Vector}
use Rattle.vdaf_api.specs.declared.kind.Kind.{Kind}
use Rattle.dap_script.proofs.NumberLaws.{number_of-decimal, number_spelled}
use Rattle.dap_script.proofs.NumbersLaws.{list_of-text, list_spelled, visible_list}
use Rattle.dap_script.specs.OptionLaws.{guarded, if_some}
use Rattle.dap_script.proofs.Visible.{IsVisible, is_visible, visible_decimal}
use Rattle.dap_script.proofs.WordLaws.{listed}
use Rattle.dap_script.specs.Fields.{◌>>=◌, number_of, count_of, histogram_of, kind_of, list_of, ranged, sum_of, vector_of}
use Rattle.dap_script.specs.Spelling.{HasWords, kind_words}
use Rattle.dap_script.specs.Words.{word}

-- ---- what is read is spelled so

-- the words spell the kind, which is within its ranges
abbrev pub SpellKind : List (List ℕ) → Kind → Type 0
SpellKind words kind = (words ≡ kind_words kind) × IsKind kind × HasWords kind

count_spelled : (parts : List (List ℕ)) (kind : Kind) → count_of parts ≡ Some kind → SpellKind (codes "count" ∷ parts) kind
count_spelled parts kind h =
    let g = guarded (nat_eq (length parts) 0) (Some Count) kind h in
    let none : parts ≡ [] = nil_from_length parts (eqb-true (length parts) 0 g.0) in
    subst (SpellKind (codes "count" ∷ parts)) (same_Some Count kind g.1) (ap (λ (ps : List (List ℕ)). codes "count" ∷ ps) none, tt, tt)

sum_spelled : (parts : List (List ℕ)) (kind : Kind) → sum_of parts ≡ Some kind → SpellKind (codes "sum" ∷ parts) kind
sum_spelled parts kind h =
    let g = guarded (nat_eq (length parts) 1) _ kind h in
    let all = listed 1 parts g.0 in
    option_and_then_some _ (number_of (word parts 0)) kind g.1 (λ bits e h1.
    let b = number_spelled (word parts 0) bits e in
    let r = guarded (is_kind (Sum bits)) (Some (Sum bits)) kind h1 in
    subst (SpellKind (codes "sum" ∷ parts)) (same_Some (Sum bits) kind r.1)
    (ap (λ (ps : List (List ℕ)). codes "sum" ∷ ps) (cc (all, b.0)), (is_kind-decides (Sum bits)).0 r.0, tt))

histogram_spelled : (parts : List (List ℕ)) (kind : Kind) → histogram_of parts ≡ Some kind → SpellKind (codes "histogram" ∷ parts) kind
histogram_spelled parts kind h =
    let g = guarded (nat_eq (length parts) 1) _ kind h in
    let all = listed 1 parts g.0 in
    option_and_then_some _ (list_of (word parts 0)) kind g.1 (λ bounds e h1.
    let l = list_spelled (word parts 0) bounds e in
    let r = guarded (is_kind (Histogram bounds)) (Some (Histogram bounds)) kind h1 in
    subst (SpellKind (codes "histogram" ∷ parts)) (same_Some (Histogram bounds) kind r.1)
    (ap (λ (ps : List (List ℕ)). codes "histogram" ∷ ps) (cc (all, l.0)), (is_kind-decides (Histogram bounds)).0 r.0, l.1))

vector_spelled : (parts : List (List ℕ)) (kind : Kind) → vector_of parts ≡ Some kind → SpellKind (codes "vector" ∷ parts) kind
vector_spelled parts kind h =
    let g = guarded (nat_eq (length parts) 2) _ kind h in
    let all = listed 2 parts g.0 in
    option_and_then_some _ (number_of (word parts 0)) kind g.1 (λ len elen h1.
    option_and_then_some _ (number_of (word parts 1)) kind h1 (λ bits ebits h2.
    let n = number_spelled (word parts 0) len elen in
    let b = number_spelled (word parts 1) bits ebits in
    let r = guarded (is_kind (Vector len bits)) (Some (Vector len bits)) kind h2 in
    subst (SpellKind (codes "vector" ∷ parts)) (same_Some (Vector len bits) kind r.1)
    (ap (λ (ps : List (List ℕ)). codes "vector" ∷ ps) (cc (all, n.0, b.0)), (is_kind-decides (Vector len bits)).0 r.0, tt)))

-- the form in front
formed : (form other : List ℕ) (parts : List (List ℕ)) (kind : Kind) → bytes_eq form other ≡ true → SpellKind (other ∷ parts) kind → SpellKind (form ∷ parts) kind
formed form other parts kind e s = (ap (λ (w : List ℕ). w ∷ parts) ((bytes_eq-Decides form other).0 e) ∙ s.0, s.1, s.2)

pub kind_spelled : (words : List (List ℕ)) (kind : Kind) → kind_of words ≡ Some kind → SpellKind words kind
kind_spelled [] kind h = cc h
kind_spelled (form ∷ parts) kind h =
    if_some (bytes_eq form (codes "count")) _ _ kind h (λ e k. formed form (codes "count") parts kind e (count_spelled parts kind k)) (λ h1.
    if_some (bytes_eq form (codes "sum")) _ _ kind h1 (λ e k. formed form (codes "sum") parts kind e (sum_spelled parts kind k)) (λ h2.
    if_some (bytes_eq form (codes "histogram")) _ _ kind h2 (λ e k. formed form (codes "histogram") parts kind e (histogram_spelled parts kind k)) (λ h3.
    if_some (bytes_eq form (codes "vector")) _ _ kind h3 (λ e k. formed form (codes "vector") parts kind e (vector_spelled parts kind k)) (λ h4. cc h4))))

-- ---- what is spelled so is read

pub kind_of-kind_words : (kind : Kind) → IsKind kind → HasWords kind → kind_of (kind_words kind) ≡ Some kind
kind_of-kind_words Count k h = refl
kind_of-kind_words (Sum bits) k h = rw (number_of-decimal bits (omega (arith, k.1)), (is_kind-decides (Sum bits)).1 k) refl
kind_of-kind_words (Histogram bounds) k h =
    let valid : is_kind (Histogram bounds) ≡ true = (is_kind-decides (Histogram bounds)).1 k in
    ap (λ o. o >>= λ numbers. ranged (Histogram numbers)) (list_of-text bounds k.some h) ∙ rw valid refl
kind_of-kind_words (Vector len bits) k h =
    rw (number_of-decimal len (omega (arith, k.few_numbers)), number_of-decimal bits (omega (arith, k.few_bits)), (is_kind-decides (Vector len bits)).1 k) refl

pub visible_kind : (kind : Kind) → IsKind kind → HasWords kind → All (All IsVisible) (kind_words kind)
visible_kind Count k h = All-from_recursion (All IsVisible) (kind_words Count) (AllPass-from_list_all is_visible (codes "count") refl, tt)
visible_kind (Sum bits) k h =
    All-from_recursion (All IsVisible) (kind_words (Sum bits)) (AllPass-from_list_all is_visible (codes "sum") refl, (visible_decimal bits (omega (arith, k.1)), tt))
visible_kind (Histogram bounds) k h =
    All-from_recursion (All IsVisible) (kind_words (Histogram bounds)) (AllPass-from_list_all is_visible (codes "histogram") refl, (visible_list bounds h, tt))
visible_kind (Vector len bits) k h =
    All-from_recursion (All IsVisible) (kind_words (Vector len bits))
    (AllPass-from_list_all is_visible (codes "vector") refl, (visible_decimal len (omega (arith, k.few_numbers)), (visible_decimal bits (omega (arith, k.few_bits)), tt)))
