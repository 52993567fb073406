-- What a report comes to, by what is known of it.
use Rattle.std.proofs.Common.{◌≡◌, ℕ, ◌+◌, ◌<◌, ◌≤◌, Bool, true, false, List, Option, Some, None, refl, ap, bytes_eq}
use Rattle.std.proofs.lemmas.Bool.{le-leb, lt-ltb}
use Rattle.std.proofs.lemmas.Slice.Eq.{bytes_eq-Decides}
use Rattle.dap_tasks.specs.declared.cause.Cause.TheVariants.{Early, Expired, Conflict}
use Rattle.dap_tasks.specs.declared.cause.Judged.TheVariants.{Again, Barred}
use Rattle.dap_tasks.specs.declared.cause.TheConstants.{MOST_AHEAD}
use Rattle.dap_tasks.specs.Judged.{is_early, is_expired, is_known_as, judged}

abbrev known_by : List ℕ → Option (List ℕ)
known_by bytes = Some bytes

others : (accepted bytes : List ℕ) → (accepted ≡ bytes → ⊥) → bytes_eq accepted bytes ≡ false
others accepted bytes differ = go (bytes_eq accepted bytes) refl where
  go : (t : Bool) → bytes_eq accepted bytes ≡ t → bytes_eq accepted bytes ≡ false
  go false e = e
  go true e = absurd (differ ((bytes_eq-Decides accepted bytes).0 e))

unknown : (known : Option (List ℕ)) (bytes : List ℕ) → (known ≡ Some bytes → ⊥) → is_known_as known bytes ≡ false
unknown None bytes differ = refl
unknown (Some accepted) bytes differ = others accepted bytes (λ e. differ (ap known_by e))

pub judged_again : (moment expires : Option ℕ) (collected : Bool) (bytes : List ℕ) (time : ℕ) → judged (Some bytes) moment expires collected bytes time ≡ Again
judged_again moment expires collected bytes time = rw ((bytes_eq-Decides bytes bytes).1 refl) refl

pub judged_early : (known : Option (List ℕ)) (moment time : ℕ) (expires : Option ℕ) (collected : Bool) (bytes : List ℕ) → (known ≡ Some bytes → ⊥)
    → moment + MOST_AHEAD < time → judged known (Some moment) expires collected bytes time ≡ Barred Early
judged_early known moment time expires collected bytes differ ahead = rw (unknown known bytes differ, lt-ltb (moment + MOST_AHEAD) time ahead) refl

pub judged_expired : (known : Option (List ℕ)) (moment expiry time : ℕ) (collected : Bool) (bytes : List ℕ) → (known ≡ Some bytes → ⊥)
    → is_early (Some moment) time ≡ false → expiry ≤ moment → judged known (Some moment) (Some expiry) collected bytes time ≡ Barred Expired
judged_expired known moment expiry time collected bytes differ timely past = rw (unknown known bytes differ, timely, le-leb expiry moment past) refl

pub judged_conflict : (accepted bytes : List ℕ) (moment expires : Option ℕ) (collected : Bool) (time : ℕ) → (accepted ≡ bytes → ⊥) → is_early moment time ≡ false
    → is_expired moment expires ≡ false → judged (Some accepted) moment expires collected bytes time ≡ Barred Conflict
judged_conflict accepted bytes moment expires collected time differ timely open_ = rw (others accepted bytes differ, timely, open_) refl
