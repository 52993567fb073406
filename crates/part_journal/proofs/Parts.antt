-- What the type keeps, an Open in hand and one that counts.
use Rattle.std.proofs.Common.{◌≡◌, inl, inr, ℕ, ◌≤◌, ◌<◌, List, [], ◌∷◌, ◌++◌, Bool, true, false, None, refl, ap, sym, ◌∙◌, arith, length-append}
use Rattle.std.specs.Prelude.{IsTrue}
use Rattle.dap_messages.specs.Grammar.{Grammar}
use Rattle.report_journal.specs.Log.{LogView, Leaves}
use Rattle.part_journal.specs.Pages.{Pages, reopening, reopened}
use Rattle.part_journal.specs.Part.{IsPart}
use Rattle.part_journal.proofs.Maps.{map_push}

pub reopened_keeps : {D R : Type 0} (g : Grammar R) (may_leave : D → List ℕ → Type 0) (was log : LogView D) (p : Pages R) (x : R) (opening left : ℕ) (up : Bool)
    → IsPart g may_leave was p x opening left up → p.block ≡ [] → (p.fate ≡ None → ⊥) → 0 < left → log.records ≡ was.records ++ g.spell x ∷ [] → log.coming ≡ [] → IsTrue log.up → Leaves may_leave log
    → IsPart g may_leave log (reopened (reopening x p)) x opening left true
reopened_keeps g may_leave was log p x opening left up i none told some grown rest on images = record {
  holds = record { records = grown ∙ ap (λ (l : List (List ℕ)). l ++ g.spell x ∷ []) i.holds.records ∙ sym (map_push g.spell p.records x); block = rest };
  images = images;
  allowed = i.allowed;
  room = i.room;
  budget = i.budget;
  within = let long = length-append p.records (x ∷ []) in let w = i.within in omega arith;
  idle = λ b e. inl refl;
  rest = λ _. (on, record { block = refl; opened = refl; fate = told; borne = some });
}

pub reopening_keeps : {D R : Type 0} (g : Grammar R) (may_leave : D → List ℕ → Type 0) (was log : LogView D) (p : Pages R) (x : R) (opening left fewer : ℕ) (up : Bool)
    → IsPart g may_leave was p x opening left up → fewer ≤ left → log.records ≡ was.records → log.coming ≡ g.spell x ∷ [] → Leaves may_leave log
    → IsPart g may_leave log (reopening x p) x opening fewer false
reopening_keeps g may_leave was log p x opening left fewer up i few same comes images = record {
  holds = record { records = same ∙ i.holds.records; block = comes };
  images = images;
  allowed = i.allowed;
  room = i.room;
  budget = let b = i.budget in omega (arith, few, b);
  within = i.within;
  idle = λ b e. inr refl;
  rest = λ on. absurd (cc on);
}
