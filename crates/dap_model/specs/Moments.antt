-- The moment, in the times of the lines.
use Rattle.std.specs.Prelude.{◌≡◌, ◌⊎◌, ◌<◌, ◌≤◌, ℕ, List, [], ◌∷◌, ◌++◌, false, Option, Some, None}
use Rattle.std.specs.List.{All, Contains}
use Rattle.std.specs.Option.{option_to_list}
use Rattle.dap_tasks.specs.Judged.{is_early}
use Rattle.dap_script.specs.declared.line.Line.{Line}
use Rattle.dap_script.specs.declared.line.Line.TheVariants as line

-- the time that a line tells, if it tells one
abbrev pub time_in : Line → List ℕ
time_in (line.Now t) = t ∷ []
time_in line.Blank = []
time_in (line.Task name kind min precision expires) = []
time_in (line.Measure name id time value seed) = []
time_in (line.Upload bytes) = []
time_in (line.Collect name span) = []
time_in (line.Restart node) = []

-- the times that lines tell, in order
abbrev pub times_of : List Line → List ℕ
times_of [] = []
times_of (l ∷ more) = time_in l ++ times_of more

-- the moment, where one is known, and the times that lines tell behind it
abbrev pub times_since : Option ℕ → List Line → List ℕ
times_since moment lines = option_to_list moment ++ times_of lines

-- the greatest of the times, or none where there are none
abbrev pub IsGreatest : List ℕ → Option ℕ → Type 0
IsGreatest times None = times ≡ []
IsGreatest times (Some moment) = Contains times moment × All (λ t. t ≤ moment) times

-- none of the times was told, or the time isn't early at one of them
abbrev pub IsTimely : List ℕ → ℕ → Type 0
IsTimely times time = (times ≡ []) ⊎ ((t : ℕ) × Contains times t × (is_early (Some t) time ≡ false))

-- each of the times that were told is below the time at which the task expires, if it expires
abbrev pub IsUnexpired : List ℕ → Option ℕ → Type 0
IsUnexpired times None = Unit {0}
IsUnexpired times (Some end) = All (λ t. t < end) times
