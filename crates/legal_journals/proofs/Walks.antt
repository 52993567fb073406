-- Lemmas: walking a journal from its front.
use Rattle.std.proofs.Common.{◌≡◌, ℕ, suc, ◌+◌, ◌≤◌, ◌<◌, true, false, ◌&&◌, ◌||◌, List, [], ◌∷◌, ◌++◌, length, get_or, take, drop, reverse, Some, None, Decides, sym, ap, subst, ◌∙◌, drop-cons, arith}
use Rattle.std.proofs.lemmas.Bool.{and_parts, and_from, both_ways}
use Rattle.std.proofs.lemmas.List.{reverse-append, take_more, take-append-drop, length-take-le, take_all}
use Rattle.std.specs.List.{list_any}
use Rattle.dap_bytes.specs.declared.node.Node.{Node}
use Rattle.dap_bytes.specs.declared.node.Node.TheVariants.{Leader, Helper}
use Rattle.dap_bytes.specs.declared.part.Part.{Part}
use Rattle.dap_bytes.specs.declared.part.Part.TheVariants.{Front, Lane}
use Rattle.lane_records.specs.declared.record.Record.{Record}
use Rattle.lane_records.specs.Records.{record_}
use Rattle.legal_journals.specs.Legal.{PartMay, May, IsLegal, IsLegalJournal, IsFirstRefused}
use Rattle.legal_journals.specs.HistoryTests.{is_open}
use Rattle.legal_journals.specs.LegalTests.{part_may, may}
use Rattle.legal_journals.proofs.OpenTests.{open_before-Decides}
use Rattle.legal_journals.proofs.LeaderRules.{leader_lane_may-Decides}
use Rattle.legal_journals.proofs.HelperRules.{helper_lane_may-Decides}
use Rattle.legal_journals.proofs.FrontRules.{leader_front_may-Decides, helper_front_may-Decides}

part_may-Decides : (node : Node) (part : Part) (x : Record) (earlier : List Record) → Decides (part_may node part x earlier) (PartMay node part x (reverse earlier))
part_may-Decides Leader (Lane lane) x earlier = leader_lane_may-Decides lane x earlier
part_may-Decides Leader Front x earlier = leader_front_may-Decides x earlier
part_may-Decides Helper (Lane lane) x earlier = helper_lane_may-Decides lane x earlier
part_may-Decides Helper Front x earlier = helper_front_may-Decides x earlier

may-Decides : (node : Node) (part : Part) (x : Record) (earlier : List Record) → Decides (may node part x earlier) (May node part x (reverse earlier))
may-Decides node part x earlier =
    let known = record_.allowed x in
    let begun = is_open x || list_any is_open earlier in
    let rules = part_may node part x earlier in
    let d1 = open_before-Decides x earlier in
    let d2 = part_may-Decides node part x earlier in (
      λ e.
          let p = and_parts (known && begun) rules e in
          let q = and_parts known begun p.0 in
          (q.0, d1.0 q.1, d2.0 p.1),
      λ h. and_from (known && begun) rules (and_from known begun h.0 (d1.1 h.1)) (d2.1 h.2),
    )

-- one record more
pub legal_more : (node : Node) (part : Part) (xs : List Record) (i : ℕ) (x : Record) → i < length xs → x ≡ get_or xs i x
    → IsLegalJournal node part (take i xs) → may node part x (take i xs) ≡ true → IsLegalJournal node part (take (i + 1) xs)
legal_more node part xs i x lt is so_far t =
    let longer : take (i + 1) xs ≡ take i xs ++ x ∷ [] = take_more xs i x lt ∙ ap (λ (y : Record). take i xs ++ y ∷ []) (sym is) in
    let turned : x ∷ reverse (take i xs) ≡ reverse (take (i + 1) xs) = sym (ap (λ (ys : List Record). reverse ys) longer ∙ reverse-append (take i xs) (x ∷ [])) in
    subst (λ (ys : List Record). IsLegal node part ys) turned ((may-Decides node part x (take i xs)).0 t, so_far)

-- a record that is refused
pub first_refused : (node : Node) (part : Part) (xs : List Record) (i : ℕ) (x : Record) → i < length xs → x ≡ get_or xs i x
    → IsLegalJournal node part (take i xs) → may node part x (take i xs) ≡ false → IsFirstRefused node part xs (Some i)
first_refused node part xs i x lt is so_far t = (
  take i xs,
  x,
  drop (suc i) xs,
  sym (take-append-drop i xs) ∙ ap (λ (ys : List Record). take i xs ++ ys) (drop-cons xs i x lt ∙ ap (λ (y : Record). y ∷ drop (suc i) xs) (sym is)),
  (let le : i ≤ length xs = omega arith in length-take-le i xs le),
  so_far,
  λ m. both_ways (may node part x (take i xs)) t ((may-Decides node part x (take i xs)).1 m),
)

-- no record is refused
pub none_refused : (node : Node) (part : Part) (xs : List Record) (n : ℕ) → length xs ≤ n → IsLegalJournal node part (take n xs) → IsFirstRefused node part xs None
none_refused node part xs n le so_far = subst (λ (ys : List Record). IsLegalJournal node part ys) (take_all n xs le) so_far
