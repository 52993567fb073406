-- How the counts of several calls join.
use Rattle.std.proofs.Common.{◌≡◌, ◌⊎◌, inl, inr, ⊎_elim, ℕ, ◌≤◌, ◌<◌, ◌-◌, arith, refl, ◌∙◌}
use Rattle.std.specs.Prelude.{zero, suc, max}
use Rattle.dap_bytes.specs.Causes.{Rose, RoseBy}
use Rattle.dap_disk.specs.Disk.{CountsStop}
use Rattle.part_journal.specs.Counts.{CountsStops}

module _ {D : Type 0} (downs deads : D → ℕ) where
  -- nothing came
  pub stops_none : (n : ℕ) (x : D) → 0 < n → CountsStops downs deads ⊥ n n x x
  stops_none n x some = record {
    used = omega arith;
    stops = record { never_falls = omega arith; rises_by_each = omega arith; rises_by_no_more = omega arith };
    deaths = record { never_falls = omega arith; rises_by_one_at_most = omega arith; answered = λ s. absurd s.0; calm = inr refl };
    borne = inr some;
  }

  -- one call of the disk that isn't a restart and doesn't stop
  pub stops_calm : (down stopped : Type 0) (n : ℕ) (x y : D) → (down → ⊥) → 0 < n → (stopped → ⊥) → CountsStop downs deads down x y → CountsStops downs deads stopped n n x y
  stops_calm down stopped n x y none some runs c =
      let same : downs y ≡ downs x = ⊎_elim (λ s. absurd (none s)) (λ e. e) c.stops.calm in
      let death = c.no_death in
      record {
        used = omega arith;
        stops = record { never_falls = omega (arith, same); rises_by_each = omega (arith, same); rises_by_no_more = omega (arith, same) };
        deaths = record { never_falls = omega (arith, death); rises_by_one_at_most = omega (arith, death); answered = λ s. absurd (runs s.0); calm = inr death };
        borne = inr some;
      }

  -- one that stops; with the last stop the call above answers so
  pub stops_once : (down stopped : Type 0) (n : ℕ) (x y : D) → down → 0 < n → stopped ⊎ (0 < n - 1) → (stopped → n - 1 ≡ 0) → CountsStop downs deads down x y → CountsStops downs deads stopped n (n - 1) x y
  stops_once down stopped n x y is some borne last c =
      let rose = c.stops.answered is in
      let most = c.stops.rises_by_one_at_most in
      let never = c.stops.never_falls in
      let death = c.no_death in
      record {
        used = omega arith;
        stops = record { never_falls = never; rises_by_each = omega (arith, rose, some); rises_by_no_more = omega (arith, most, some) };
        deaths = record { never_falls = omega (arith, death); rises_by_one_at_most = omega (arith, death); answered = λ s. absurd (let e = last s.0 in let l = s.1 in omega (arith, e, l)); calm = inr death };
        borne = borne;
      }

  -- `Stopped` has one of two causes: a restart has failed, or the last stop that may come has come
  pub stopped_by : (stopped : Type 0) (a b : ℕ) (x y : D) → CountsStops downs deads stopped a b x y → 0 < a → stopped
      → (Rose (deads x) (deads y) × (0 < b)) ⊎ (Rose (downs x) (downs y) × (b ≡ 0))
  stopped_by stopped a b x y c some s = go b c.deaths.answered c.stops.rises_by_each where
    go : (n : ℕ) → (stopped × (0 < n) → Rose (deads x) (deads y)) → RoseBy (a - n) (downs x) (downs y) → (Rose (deads x) (deads y) × (0 < n)) ⊎ (Rose (downs x) (downs y) × (n ≡ 0))
    go zero died rose = inr (omega (arith, rose, some), refl)
    go (suc n) died rose = inl (died (s, omega arith), omega arith)

  -- how often the disk has stopped since an opening at which so many stops were left, and how often restarts have failed
  pub risen_since : (stopped : Type 0) (most start a b : ℕ) (x y : D) → a ≤ most → RoseBy (most - a) start (downs x) → CountsStops downs deads stopped (max a 1) b x y → RoseBy (most - b) start (downs y)
  risen_since stopped most start a b x y within so_far c = (let u = c.used in let r = c.stops.rises_by_each in omega (arith, within, so_far, u, r))

  -- a call that bears its stops, and a call behind it
  pub stops_then : (quiet stopped : Type 0) (a b c : ℕ) (x y z : D) → (quiet → ⊥) → CountsStops downs deads quiet a b x y → CountsStops downs deads stopped b c y z → CountsStops downs deads stopped a c x z
  stops_then quiet stopped a b c x y z none first next =
      let same : deads y ≡ deads x = ⊎_elim (λ s. absurd (none s.0)) (λ e. e) first.deaths.calm in
      record {
        used = (let u = first.used in let v = next.used in omega (arith, u, v));
        stops = record {
          never_falls = (let u = first.stops.never_falls in let v = next.stops.never_falls in omega (arith, u, v));
          rises_by_each = (let u = first.used in let v = next.used in let p = first.stops.rises_by_each in let q = next.stops.rises_by_each in omega (arith, u, v, p, q));
          rises_by_no_more = (let u = first.used in let v = next.used in let p = first.stops.rises_by_no_more in let q = next.stops.rises_by_no_more in omega (arith, u, v, p, q));
        };
        deaths = record {
          never_falls = (let d = next.deaths.never_falls in omega (arith, same, d));
          rises_by_one_at_most = (let d = next.deaths.rises_by_one_at_most in omega (arith, same, d));
          answered = λ s. (let d = next.deaths.answered s in omega (arith, same, d));
          calm = ⊎_elim (λ s. inl s) (λ e. inr (e ∙ same)) next.deaths.calm;
        };
        borne = next.borne;
      }

  -- a call that isn't answered so
  pub borne_all : (stopped : Type 0) (a b : ℕ) (x y : D) → (stopped → ⊥) → CountsStops downs deads stopped a b x y → CountsStops downs deads ⊥ a b x y
  borne_all stopped a b x y runs c = record {
    used = c.used;
    stops = c.stops;
    deaths = record { never_falls = c.deaths.never_falls; rises_by_one_at_most = c.deaths.rises_by_one_at_most; answered = λ s. absurd s.0; calm = ⊎_elim (λ s. absurd (runs s.0)) (λ e. inr e) c.deaths.calm };
    borne = ⊎_elim (λ s. absurd (runs s)) (λ e. inr e) c.borne;
  }

  -- a call above that is answered so exactly where this one is
  pub stops_as : (stopped other : Type 0) (a b : ℕ) (x y : D) → (stopped → other) → (other → stopped) → CountsStops downs deads stopped a b x y → CountsStops downs deads other a b x y
  stops_as stopped other a b x y there back c = record {
    used = c.used;
    stops = c.stops;
    deaths = record {
      never_falls = c.deaths.never_falls;
      rises_by_one_at_most = c.deaths.rises_by_one_at_most;
      answered = λ s. c.deaths.answered (back s.0, s.1);
      calm = ⊎_elim (λ s. inl (there s.0, s.1)) (λ e. inr e) c.deaths.calm;
    };
    borne = ⊎_elim (λ s. inl (there s)) (λ e. inr e) c.borne;
  }
