-- Lemmas: the oldest report that waits.
use Rattle.std.proofs.Common.{◌≡◌, ℕ, ◌≤◌, Bool, not, ◌&&◌, cond, List, Option, Some, None, refl, sym, ap, subst, ◌∙◌}
use Rattle.std.specs.Option.{IsSome}
use Rattle.std.specs.declared.cmp.Ordering.{Ordering}
use Rattle.std.specs.declared.cmp.Ordering.TheVariants.{Equal}
use Rattle.std.specs.Ordering.{is_eq}
use Rattle.std.specs.Cmp.{IsTotalOrder}
use Rattle.std.proofs.lemmas.Cmp.{tied_back}
use Rattle.std.specs.BTreeMap.Range.{IsLeBy}
use Rattle.dap_messages.specs.declared.report.Report.{Report}
use Rattle.lane_records.specs.declared.record.Record.{Record}
use Rattle.legal_journals.specs.declared.waiting.Waiting.{Waiting}
use Rattle.legal_journals.specs.Accepts.{accept_at}
use Rattle.legal_journals.specs.Waiting.{place_order, waits_at, waits_under, Waits}
use Rattle.legal_journals.specs.Tables.{at}
use Rattle.legal_journals.proofs.Order.{le_place, place_le, between}

-- what the table tells of the least key
abbrev pub IsNext : {G : Type 0} → (G → G → Ordering) → List ((G × ℕ) × List ℕ) → G → ℕ → (G × ℕ) × List ℕ → Type 0
IsNext {G} order entries g from e =
    IsLeBy (place_order order) (g, from) e.0 × (at (place_order order) e.0 entries ≡ Some e.1)
    × ((q : G × ℕ) → IsLeBy (place_order order) (g, from) q → IsSome (at (place_order order) q entries) → IsLeBy (place_order order) e.0 q)

module _ {G : Type 0} {order : G → G → Ordering} (total : IsTotalOrder order) (of : Report → G) (settled : ℕ → Bool) (w : Waiting G) (records : List Record) where
  -- the same waits in groups that tie
  alike : (g m : G) → order m g ≡ Equal → (done : Bool) (o : Option Report) → waits_under order of m done o ≡ waits_under order of g done o
  alike g m tie done None = refl
  alike g m tie done (Some r) = ap (λ c. cond (is_eq c && not done) (Some r.id) None) (total.congr m g (of r) tie)

  pub oldest : (g : G) (from : ℕ) (e : (G × ℕ) × List ℕ) → IsNext order w.reports g from e → order e.0.0 g ≡ Equal → Waits order of settled w records
      → (from ≤ e.0.1) × IsSome (waits_at order of settled records (g, e.0.1)) × ((k : ℕ) → from ≤ k → IsSome (waits_at order of settled records (g, k)) → e.0.1 ≤ k)
  oldest g from e said tie h = (
    le_place total g e.0.0 from e.0.1 (tied_back total e.0.0 g tie) said.0,
    subst (λ (o : Option (List ℕ)). IsSome o) (sym said.1 ∙ h e.0 ∙ alike g e.0.0 tie (settled e.0.1) (accept_at e.0.1 records)) refl,
    λ k le has. le_place total e.0.0 g e.0.1 k tie (said.2 (g, k) (place_le total g from k le) (subst (λ (o : Option (List ℕ)). IsSome o) (sym (h (g, k))) has)),
  )

  pub none_of_group : (g : G) (from : ℕ) (e : (G × ℕ) × List ℕ) → IsNext order w.reports g from e → (order e.0.0 g ≡ Equal → ⊥) → Waits order of settled w records
      → (k : ℕ) → from ≤ k → waits_at order of settled records (g, k) ≡ None
  none_of_group g from e said differ h k le = by_entry (waits_at order of settled records (g, k)) refl
    where
      by_entry : (o : Option (List ℕ)) → waits_at order of settled records (g, k) ≡ o → waits_at order of settled records (g, k) ≡ None
      by_entry None is = is
      by_entry (Some id) is =
          let behind = said.2 (g, k) (place_le total g from k le) (subst (λ (o : Option (List ℕ)). IsSome o) (sym (h (g, k) ∙ is)) refl) in
          absurd (differ (between total g e.0.0 from e.0.1 k said.0 behind))

  pub none_at_all : (g : G) (from : ℕ) → ((q : G × ℕ) → IsLeBy (place_order order) (g, from) q → at (place_order order) q w.reports ≡ None) → Waits order of settled w records
      → (k : ℕ) → from ≤ k → waits_at order of settled records (g, k) ≡ None
  none_at_all g from none h k le = sym (h (g, k)) ∙ none (g, k) (place_le total g from k le)
