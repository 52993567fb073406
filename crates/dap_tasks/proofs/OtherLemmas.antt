-- The first other key of a table, whose keys ascend.
use Rattle.std.proofs.Common.{◌≡◌, ℕ, suc, Bool, true, false, cond, List, [], ◌∷◌, length, map, filter, Option, Some, None, IfSome, String, Global, Less, Greater, string_bytes, nat_cmp, refl, sym, ap, ◌∙◌}
use Rattle.std.proofs.lemmas.Cmp.{nat_list_cmp_total}
use Rattle.std.specs.Cmp.Lexicographic.{slice_cmp}
use Rattle.std.specs.List.{AllByRecursion}
use Rattle.std.specs.List.Sorted.{IsStrictlySortedBy}
use Rattle.std.specs.Map.{keys_of}
use Rattle.std.specs.Ordering.{is_lt, ordering_reverse}
use Rattle.std.specs.String.{string_cmp}
use Rattle.toml.specs.View.{members_view}
use Rattle.toml.specs.declared.value.Value.{Value}
use Rattle.dap_tasks.specs.Fields.{earlier, first_of, table_keys}

pub table_keys-view : (es : List (String Global × Value)) → table_keys (members_view es) ≡ map string_bytes (keys_of es)
table_keys-view [] = refl
table_keys-view (e ∷ es) = ap (λ ks. string_bytes e.0 ∷ ks) (table_keys-view es)

-- the text comes before the other, where there is one
abbrev IsBefore : List ℕ → Option (List ℕ) → Type 0
IsBefore text other = IfSome other (λ z. slice_cmp nat_cmp text z ≡ Less)

earlier-stays : (text : List ℕ) (other : Option (List ℕ)) → IsBefore text other → earlier text other ≡ text
earlier-stays text None before = refl
earlier-stays text (Some z) before =
    let later : slice_cmp nat_cmp z text ≡ Greater = nat_list_cmp_total.antisymm z text ∙ ap ordering_reverse before in
    rw later

earlier-after : (text first : List ℕ) (other : Option (List ℕ)) → slice_cmp nat_cmp text first ≡ Less → IsBefore text other → slice_cmp nat_cmp text (earlier first other) ≡ Less
earlier-after text first None here more = here
earlier-after text first (Some z) here more =
    elim (is_lt (slice_cmp nat_cmp z first)) as (λ b. slice_cmp nat_cmp text (cond b z first) ≡ Less) [ true ↦ more | false ↦ here ]

first-after : (p : List ℕ → Bool) (text : List ℕ) (keys : List (String Global)) → AllByRecursion (λ y. slice_cmp nat_cmp text (string_bytes y) ≡ Less) keys
    → IsBefore text (first_of (filter p (map string_bytes keys)))
first-after p text [] all = tt
first-after p text (k ∷ keys) all =
    let rest = first_of (filter p (map string_bytes keys)) in
    elim (p (string_bytes k)) as (λ b. IsBefore text (first_of (cond b (string_bytes k ∷ filter p (map string_bytes keys)) (filter p (map string_bytes keys))))) [
      | true ↦ earlier-after text (string_bytes k) rest all.0 (first-after p text keys all.1)
      | false ↦ first-after p text keys all.1
    ]

-- the first key, where it passes
pub first_of-found : (p : List ℕ → Bool) (k : String Global) (keys : List (String Global)) → p (string_bytes k) ≡ true → IsStrictlySortedBy string_cmp (k ∷ keys)
    → Some (string_bytes k) ≡ first_of (filter p (map string_bytes (k ∷ keys)))
unfolding IsStrictlySortedBy
first_of-found p k keys passes sorted =
    rw passes (ap Some (sym (earlier-stays (string_bytes k) _ (first-after p (string_bytes k) keys sorted.0))))

-- the keys after it, where it doesn't
pub first_of-passed : (p : List ℕ → Bool) (k : String Global) (keys : List (String Global)) → p (string_bytes k) ≡ false
    → first_of (filter p (map string_bytes (k ∷ keys))) ≡ first_of (filter p (map string_bytes keys))
first_of-passed p k keys passed = rw passed

pub sorted-after : (k : String Global) (keys : List (String Global)) → IsStrictlySortedBy string_cmp (k ∷ keys) → IsStrictlySortedBy string_cmp keys
unfolding IsStrictlySortedBy
sorted-after k keys sorted = sorted.1

-- a table has as many keys as its map
pub length-table_keys : (es : List (String Global × Value)) → length (table_keys (members_view es)) ≡ length es
length-table_keys [] = refl
length-table_keys (e ∷ es) = ap suc (length-table_keys es)
