-- The identifiers of allowed items ascend.
use Rattle.std.proofs.Common.{◌≡◌, ℕ, ◌≤◌, true, List, [], ◌∷◌, length, Option, Some, None, refl}
use Rattle.std.specs.Prelude.{nat_eq, nat_le}
use Rattle.std.specs.declared.cmp.Ordering.{Ordering}
use Rattle.std.specs.declared.cmp.Ordering.TheVariants.{Less, Equal, Greater}
use Rattle.std.specs.Ordering.{nat_cmp, is_lt}
use Rattle.std.specs.Cmp.Lexicographic.{slice_cmp}
use Rattle.std.proofs.lemmas.Bool.{leb-true}
use Rattle.dap_messages.specs.declared.item.TheConstants.{MOST_ITEMS}
use Rattle.dap_messages.specs.declared.item.Tagged.{Tagged}
use Rattle.dap_messages.specs.Grammar.{Grammar, cells, is_above, is_between, item, items, allowed_items}
use Rattle.dap_messages.specs.Items.{ids_of, IsAscending}
use Rattle.dap_messages.specs.Laws.{and_parts}

is_less : (o : Ordering) → is_lt o ≡ true → o ≡ Less
is_less Less e = refl
is_less Equal e = absurd cc
is_less Greater e = absurd cc

ascend : {B : Type 0} (g : Grammar B) (last : Option (List ℕ)) (xs : List (Tagged B)) → allowed_items g last xs ≡ true → IsAscending (ids_of xs)
ascend g last [] a = tt
ascend g last (x ∷ []) a = tt
ascend g last (x ∷ y ∷ rest) a =
    let more = (and_parts ((item g last).allowed x) (allowed_items g (Some x.id) (y ∷ rest)) a).1 in
    let one = (and_parts ((item g (Some x.id)).allowed y) (allowed_items g (Some y.id) rest) more).0 in
    let id = (and_parts ((cells 16 (is_above (Some x.id))).allowed y.id) (g.allowed y.body) one).0 in
    let above = (and_parts (nat_eq (length y.id) 16) (is_above (Some x.id) y.id) id).1 in
    (is_less (slice_cmp nat_cmp x.id y.id) above, ascend g (Some x.id) (y ∷ rest) more)

pub items_ascend : {B : Type 0} (g : Grammar B) (xs : List (Tagged B)) → (items g).allowed xs ≡ true → (1 ≤ length xs) × (length xs ≤ MOST_ITEMS) × IsAscending (ids_of xs)
items_ascend g xs a =
    let parts = and_parts (is_between 1 MOST_ITEMS (length xs)) (allowed_items g None xs) a in
    let few = and_parts (nat_le 1 (length xs)) (nat_le (length xs) MOST_ITEMS) parts.0 in
    (leb-true 1 (length xs) few.0, leb-true (length xs) MOST_ITEMS few.1, ascend g None xs parts.1)
