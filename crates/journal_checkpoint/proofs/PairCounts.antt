-- The counts of a pair: sums, and one disk after the other.
use Rattle.std.proofs.Common.{◌≡◌, inl, inr, ⊎_elim, ℕ, ◌+◌, Bool, true, false, ◌∙◌, ap, arith}
use Rattle.dap_bytes.specs.Causes.{Counts}
use Rattle.dap_disk.specs.Disk.{CountsStop}
use Rattle.journal_checkpoint.specs.Pair.{disks_of, CountsPair}

-- a count moves in a sum as it moves alone
pub counts_plus : (fault : Type 0) (before now other : ℕ) → Counts fault before now → Counts fault (before + other) (now + other)
counts_plus fault before now other c = record {
  never_falls = omega (arith, c.never_falls);
  rises_by_one_at_most = omega (arith, c.rises_by_one_at_most);
  answered = λ f. omega (arith, c.answered f);
  calm = ⊎_elim (λ f. inl f) (λ same. inr (ap (λ (n : ℕ). n + other) same)) c.calm;
}

module _ {D : Type 0} (downs deads : D → ℕ) where
  -- the second disk isn't touched
  pub counts_first : (stopped told : Type 0) (a b a' b' : D) → CountsStop downs deads stopped a a' → b' ≡ b → (stopped → told) → (told → stopped) → CountsPair downs deads told (a, b) (a', b')
  counts_first stopped told a b a' b' c same says is =
      let downs_same = ap downs same in
      let stops = c.stops in
      record {
        stops = record {
          never_falls = (stops.never_falls, omega (arith, downs_same));
          rises_by_one_at_most = (stops.rises_by_one_at_most, omega (arith, downs_same));
          answered = λ t. inl (stops.answered (is t));
          calm = ⊎_elim (λ f. inl (says f)) (λ calm. inr (calm, downs_same)) stops.calm;
          alone = inr downs_same;
        };
        no_death = (c.no_death, ap deads same);
      }

  -- the first disk counts nothing before the second
  pub counts_second : (stopped told : Type 0) (a b a' b' : D) → downs a' ≡ downs a → deads a' ≡ deads a → CountsStop downs deads stopped b b' → (stopped → told) → (told → stopped) → CountsPair downs deads told (a, b) (a', b')
  counts_second stopped told a b a' b' same alive c says is =
      let stops = c.stops in
      record {
        stops = record {
          never_falls = (omega (arith, same), stops.never_falls);
          rises_by_one_at_most = (omega (arith, same), stops.rises_by_one_at_most);
          answered = λ t. inr (stops.answered (is t));
          calm = ⊎_elim (λ f. inl (says f)) (λ calm. inr (same, calm)) stops.calm;
          alone = inl same;
        };
        no_death = (alive, c.no_death);
      }

  -- the same stop, told otherwise
  pub counts_as : (stopped told : Type 0) (old new : D × D) → (stopped → told) → (told → stopped) → CountsPair downs deads stopped old new → CountsPair downs deads told old new
  counts_as stopped told old new says is c =
      let stops = c.stops in
      record {
        stops = record {
          never_falls = stops.never_falls;
          rises_by_one_at_most = stops.rises_by_one_at_most;
          answered = λ t. stops.answered (is t);
          calm = ⊎_elim (λ f. inl (says f)) (λ same. inr same) stops.calm;
          alone = stops.alone;
        };
        no_death = c.no_death;
      }

  -- nothing is counted before, and then these two, named in their order or in the other
  pub counts_in_order : (second : Bool) (stopped : Type 0) (old : D × D) (live other live' other' : D) → CountsPair downs deads ⊥ old (disks_of second live other) → CountsPair downs deads stopped (live, other) (live', other')
      → CountsPair downs deads stopped old (disks_of second live' other')
  counts_in_order false stopped old live other live' other' first then =
      ⊎_elim (λ never. absurd never)
      (λ calm.
      (let stops = then.stops in
      let died = first.no_death in
      let dies = then.no_death in
      record {
        stops = record {
          never_falls = (omega (arith, calm.0, stops.never_falls.0), omega (arith, calm.1, stops.never_falls.1));
          rises_by_one_at_most = (omega (arith, calm.0, stops.rises_by_one_at_most.0), omega (arith, calm.1, stops.rises_by_one_at_most.1));
          answered = λ t. ⊎_elim (λ rose. inl (omega (arith, calm.0, rose))) (λ rose. inr (omega (arith, calm.1, rose))) (stops.answered t);
          calm = ⊎_elim (λ f. inl f) (λ same. inr (same.0 ∙ calm.0, same.1 ∙ calm.1)) stops.calm;
          alone = ⊎_elim (λ same. inl (same ∙ calm.0)) (λ same. inr (same ∙ calm.1)) stops.alone;
        };
        no_death = (dies.0 ∙ died.0, dies.1 ∙ died.1);
      }))
      first.stops.calm
  counts_in_order true stopped old live other live' other' first then =
      ⊎_elim (λ never. absurd never)
      (λ calm.
      (let stops = then.stops in
      let died = first.no_death in
      let dies = then.no_death in
      record {
        stops = record {
          never_falls = (omega (arith, calm.0, stops.never_falls.1), omega (arith, calm.1, stops.never_falls.0));
          rises_by_one_at_most = (omega (arith, calm.0, stops.rises_by_one_at_most.1), omega (arith, calm.1, stops.rises_by_one_at_most.0));
          answered = λ t. ⊎_elim (λ rose. inr (omega (arith, calm.1, rose))) (λ rose. inl (omega (arith, calm.0, rose))) (stops.answered t);
          calm = ⊎_elim (λ f. inl f) (λ same. inr (same.1 ∙ calm.0, same.0 ∙ calm.1)) stops.calm;
          alone = ⊎_elim (λ same. inr (same ∙ calm.1)) (λ same. inl (same ∙ calm.0)) stops.alone;
        };
        no_death = (dies.1 ∙ died.0, dies.0 ∙ died.1);
      }))
      first.stops.calm
