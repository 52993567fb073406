-- What a report comes to that is offered and reads.
use Rattle.std.specs.Prelude.{ℕ, ◌+◌, List, Bool, false, nat_le, nat_lt, if◌then◌else◌, is_some, Option}
use Rattle.std.specs.Option.{option_map_or}
use Rattle.std.specs.Str.{bytes_eq}
use Rattle.dap_tasks.specs.declared.cause.TheConstants.{MOST_AHEAD}
use Rattle.dap_tasks.specs.declared.cause.Cause.TheVariants.{Early, Expired, Conflict, Collected}
use Rattle.dap_tasks.specs.declared.cause.Judged.{Judged}
use Rattle.dap_tasks.specs.declared.cause.Judged.TheVariants.{Again, Barred, Added}

-- a moment is known, and the time is more above it than clocks may differ
abbrev pub is_early : Option ℕ → ℕ → Bool
is_early moment time = option_map_or (λ m. nat_lt (m + MOST_AHEAD) time) moment false

-- a moment is known, and is at or past the task's expiry
abbrev pub is_expired : Option ℕ → Option ℕ → Bool
is_expired moment expires = option_map_or (λ m. option_map_or (λ t. nat_le t m) expires false) moment false

-- the accepted report has these bytes
abbrev pub is_known_as : Option (List ℕ) → List ℕ → Bool
is_known_as known bytes = option_map_or (λ accepted. bytes_eq accepted bytes) known false

-- The judgement of a report with these bytes and this time, where `known` are the bytes of the accepted report of its
-- task with its identifier, if there is one, its task takes no more reports from the moment `expires` on, if there is
-- one, and `collected` says whether its bucket lies in a collected batch. The first that applies counts.
abbrev pub judged : Option (List ℕ) → Option ℕ → Option ℕ → Bool → List ℕ → ℕ → Judged
judged known moment expires collected bytes time =
    if is_known_as known bytes then Again
    else (if is_early moment time then Barred Early
    else (if is_expired moment expires then Barred Expired
    else (if is_some known then Barred Conflict
    else (if collected then Barred Collected
    else Added))))
