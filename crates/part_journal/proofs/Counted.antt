-- The counts behind one call more.
use Rattle.std.proofs.Common.{◌≡◌, ◌⊎◌, ℕ, ◌<◌, ◌-◌, arith, sym, subst, max, ◌∙◌}
use Rattle.dap_disk.specs.Disk.{CountsStop}
use Rattle.part_journal.specs.Counts.{CountsStops}
use Rattle.part_journal.specs.CountsLaws.{stops_calm, stops_once, stops_then}

module _ {D : Type 0} (downs deads : D → ℕ) where
  pub calm_behind : (down stopped : Type 0) (a b c : ℕ) (x y z : D) → CountsStops downs deads ⊥ a b x y → CountsStop downs deads down y z
      → (down → ⊥) → (stopped → ⊥) → 0 < b → c ≡ b → CountsStops downs deads stopped a c x z
  calm_behind down stopped a b c x y z first call calm runs some same =
      subst (λ (n : ℕ). CountsStops downs deads stopped a n x z) (sym same)
      (stops_then downs deads ⊥ stopped a b b x y z (λ e. e) first (stops_calm downs deads down stopped b y z calm some runs call))

  pub stop_behind : (down stopped : Type 0) (a b c : ℕ) (x y z : D) → CountsStops downs deads ⊥ a b x y → CountsStop downs deads down y z
      → down → stopped ⊎ (0 < c) → (stopped → c ≡ 0) → 0 < b → c ≡ b - 1 → CountsStops downs deads stopped a c x z
  stop_behind down stopped a b c x y z first call is borne last some same =
      subst (λ (n : ℕ). CountsStops downs deads stopped a n x z) (sym same)
      (stops_then downs deads ⊥ stopped a b (b - 1) x y z (λ e. e) first
      (stops_once downs deads down stopped b y z is some (subst (λ (n : ℕ). stopped ⊎ (0 < n)) same borne) (λ s. sym same ∙ last s) call))

  pub wake_behind : (stopped : Type 0) (a b c : ℕ) (x y z : D) → CountsStops downs deads ⊥ a b x y → CountsStops downs deads stopped (max b 1) c y z
      → 0 < b → CountsStops downs deads stopped a c x z
  wake_behind stopped a b c x y z first call some =
      let same : max b 1 ≡ b = omega (arith, some) in
      stops_then downs deads ⊥ stopped a b c x y z (λ e. e) first (subst (λ (n : ℕ). CountsStops downs deads stopped n c y z) same call)
