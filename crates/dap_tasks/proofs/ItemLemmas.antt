-- One more item of an array that is read in turn.
use Rattle.std.proofs.Common.{◌≡◌, ℕ, ◌+◌, ◌<◌, List, [], ◌∷◌, ◌++◌, length, drop, get_or, Option, Some, None, String, BTreeMap, Global, Bor, refl, sym, ap, ◌∙◌}
use Rattle.std.proofs.lemmas.List.{append_assoc, map-append}
use Rattle.std.specs.Option.{option_and_then, option_map}
use Rattle.toml.proofs.Views.{items_view-drop}
use Rattle.toml.specs.Data.{Items, Members, as_table}
use Rattle.toml.specs.View.{view, items_view, table_view}
use Rattle.toml.specs.declared.value.Value.{Value}
use Rattle.dap_tasks.specs.Fields.{number_of, numbers_of}
use Rattle.dap_tasks.specs.File.{tables_in}
use Rattle.dap_tasks.specs.Reads.{tables_seen}

-- what was read so far, with the rest
abbrev pub joined : {A : Type 0} → List A → Option (List A) → Option (List A)
joined before rest = option_map (λ xs. before ++ xs) rest

one_more : {A : Type 0} (before : List A) (x : A) (rest : Option (List A))
    → joined (before ++ x ∷ []) rest ≡ joined before (option_and_then (λ xs. Some (x ∷ xs)) rest)
one_more before x None = refl
one_more before x (Some xs) = ap Some (append_assoc before (x ∷ []) xs)

-- the numbers so far, with those of the items that are left
abbrev pub numbers_after : List ℕ → Items → Option (List ℕ)
numbers_after before items = joined before (numbers_of items)

-- the numbers of an item and of those after it
with_number : Option ℕ → Option (List ℕ) → Option (List ℕ)
with_number number numbers = option_and_then (λ n. option_and_then (λ ns. Some (n ∷ ns)) numbers) number

pub numbers_go : (before : List ℕ) (vs : List Value) (i : ℕ) (d : Value) (n : ℕ) → i < length vs
    → number_of 0 9223372036854775807 (view (get_or vs i d)) ≡ Some n
    → numbers_after (before ++ n ∷ []) (items_view (drop (i + 1) vs)) ≡ numbers_after before (items_view (drop i vs))
unfolding with_number
numbers_go before vs i d n h e =
    one_more before n (numbers_of (items_view (drop (i + 1) vs)))
    ∙ sym (ap (numbers_after before) (items_view-drop vs i d h) ∙ ap (λ o. joined before (with_number o (numbers_of (items_view (drop (i + 1) vs))))) e)

pub numbers_stop : (before : List ℕ) (vs : List Value) (i : ℕ) (d : Value) → i < length vs
    → number_of 0 9223372036854775807 (view (get_or vs i d)) ≡ None → numbers_after before (items_view (drop i vs)) ≡ None
unfolding with_number
numbers_stop before vs i d h e =
    ap (numbers_after before) (items_view-drop vs i d h) ∙ ap (λ o. joined before (with_number o (numbers_of (items_view (drop (i + 1) vs))))) e

-- the tables so far, with those of the items that are left
abbrev pub tables_after : List (Bor (BTreeMap (String Global) Value)) → Items → Option (List Members)
tables_after before items = joined (tables_seen before) (tables_in items)

-- the tables of an item and of those after it
with_table : Option Members → Option (List Members) → Option (List Members)
with_table table tables = option_and_then (λ t. option_and_then (λ ts. Some (t ∷ ts)) tables) table

pub tables_go : (before : List (Bor (BTreeMap (String Global) Value))) (vs : List Value) (i : ℕ) (d : Value) (t : Bor (BTreeMap (String Global) Value)) → i < length vs
    → as_table (view (get_or vs i d)) ≡ Some (table_view t.now)
    → tables_after (before ++ t ∷ []) (items_view (drop (i + 1) vs)) ≡ tables_after before (items_view (drop i vs))
unfolding with_table
tables_go before vs i d t h e =
    ap (λ ts. joined ts (tables_in (items_view (drop (i + 1) vs)))) (map-append {A = Bor (BTreeMap (String Global) Value)} (λ t. table_view t.now) before (t ∷ []))
    ∙ one_more (tables_seen before) (table_view t.now) (tables_in (items_view (drop (i + 1) vs)))
    ∙ sym (ap (tables_after before) (items_view-drop vs i d h) ∙ ap (λ o. joined (tables_seen before) (with_table o (tables_in (items_view (drop (i + 1) vs))))) e)

pub tables_stop : (before : List (Bor (BTreeMap (String Global) Value))) (vs : List Value) (i : ℕ) (d : Value) → i < length vs
    → as_table (view (get_or vs i d)) ≡ None → tables_after before (items_view (drop i vs)) ≡ None
unfolding with_table
tables_stop before vs i d h e =
    ap (tables_after before) (items_view-drop vs i d h) ∙ ap (λ o. joined (tables_seen before) (with_table o (tables_in (items_view (drop (i + 1) vs))))) e
