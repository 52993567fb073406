-- Loops that change each job in its place.
use Rattle.std.proofs.Common.{◌≡◌, ℕ, zero, suc, ◌+◌, ◌<◌, List, [], ◌∷◌, ◌++◌, length, map, take, drop, get_or, set, refl, arith}
use Rattle.std.proofs.lemmas.List.Edits.{map_over_more}
use Rattle.job_leases.specs.declared.job.OpenJob.{OpenJob}

by_any_default : (js : List OpenJob) (i : ℕ) (d e : OpenJob) → i < length js → get_or js i d ≡ get_or js i e
by_any_default [] i d e h = absurd (omega arith)
by_any_default (j ∷ js) zero d e h = refl
by_any_default (j ∷ js) (suc i) d e h = by_any_default js i d e (omega arith)

-- the first i + 1 jobs are changed after one more was
pub each-more : (f : OpenJob → OpenJob) (first now : List OpenJob) (i : ℕ) (d : OpenJob) → i < length first → i < length now
    → now ≡ map f (take i first) ++ drop i first → set now i (f (get_or now i d)) ≡ map f (take (i + 1) first) ++ drop (i + 1) first
each-more f first now i d within inside so_far = map_over_more f first now i (get_or now i d) within so_far (by_any_default now i d (get_or now i d) inside)
