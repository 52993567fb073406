-- Lemmas: tests on jobs and on the identifiers of items.
use Rattle.std.proofs.Common.{true, ◌≡◌, ℕ, ◌==◌, Bool, ◌&&◌, List, Decides, bytes_eq, refl, sym, subst}
use Rattle.std.proofs.lemmas.Bool.{and_from, eq-eqb}
use Rattle.std.proofs.lemmas.Slice.Eq.{bytes_eq-Decides, slice_eq-Decides}
use Rattle.std.specs.List.{list_all}
use Rattle.dap_messages.specs.declared.item.Tagged.{Tagged}
use Rattle.dap_messages.specs.Items.{ids_of}
use Rattle.legal_journals.specs.History.{Mem}
use Rattle.legal_journals.specs.HistoryTests.{has_id, same_ids}
use Rattle.legal_journals.proofs.Members.{any_tells, any_told, all_tells, all_told, Mem-map, Mem-from_map}

pub same_batch : (n : List ℕ) (s : ℕ) → (bytes_eq n n && s == s) ≡ true
same_batch n s = and_from (bytes_eq n n) (s == s) ((bytes_eq-Decides n n).1 refl) (eq-eqb s s refl)

pub has_id-Decides : {B : Type 0} (id : List ℕ) (xs : List (Tagged B)) → Decides (has_id id xs) (Mem id (ids_of xs))
has_id-Decides {B} id xs = (
  λ e.
      let found = any_tells (λ (x : Tagged B). bytes_eq x.id id) xs e in
      subst (λ (i : List ℕ). Mem i (ids_of xs)) ((bytes_eq-Decides found.0.id id).0 found.2) (Mem-map (λ (x : Tagged B). x.id) found.0 xs found.1),
  λ m.
      let found = Mem-from_map (λ (x : Tagged B). x.id) id xs m in
      any_told (λ (x : Tagged B). bytes_eq x.id id) xs found.0 found.1 ((bytes_eq-Decides found.0.id id).1 (sym found.2)),
)

pub same_ids-Decides : {A B : Type 0} (xs : List (Tagged A)) (ys : List (Tagged B)) → Decides (same_ids xs ys) (ids_of xs ≡ ids_of ys)
same_ids-Decides xs ys = slice_eq-Decides bytes_eq-Decides (ids_of xs) (ids_of ys) (same_ids xs ys) refl

-- each identifier of the items has what the test decides
pub each_id-Decides : {B : Type 0} (p : Tagged B → Bool) (P : List ℕ → Type 0) → ((x : Tagged B) → Decides (p x) (P x.id)) → (xs : List (Tagged B))
    → Decides (list_all p xs) ((id : List ℕ) → Mem id (ids_of xs) → P id)
each_id-Decides {B} p P decides xs = (
  λ e id m.
      let found = Mem-from_map (λ (x : Tagged B). x.id) id xs m in
      subst P (sym found.2) ((decides found.0).0 (all_tells p xs e found.0 found.1)),
  λ each. all_told p xs (λ x m. (decides x).1 (each x.id (Mem-map (λ (x : Tagged B). x.id) x xs m))),
)
