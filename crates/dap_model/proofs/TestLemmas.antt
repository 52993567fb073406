-- The judgement of a report, by its tests.
use Rattle.std.proofs.Common.{◌≡◌, Bool, cond, true, false, refl}
use Rattle.dap_tasks.specs.declared.cause.Cause.TheVariants as cause
use Rattle.dap_tasks.specs.declared.cause.Judged.{Judged}
use Rattle.dap_tasks.specs.declared.cause.Judged.TheVariants.{Again, Barred, Added}

-- what follows from the tests whether it's known, early, expired, in conflict and collected
abbrev pub by_tests : Bool → Bool → Bool → Bool → Bool → Judged
by_tests again early expired known closed =
    cond again Again (cond early (Barred cause.Early) (cond expired (Barred cause.Expired) (cond known (Barred cause.Conflict) (cond closed (Barred cause.Collected) Added))))

-- what is added is neither known nor of a bucket that was collected
pub added_by_tests : (again early expired known closed : Bool) → by_tests again early expired known closed ≡ Added → (known ≡ false) × (closed ≡ false)
added_by_tests true early expired known closed e = cc e
added_by_tests false true expired known closed e = cc e
added_by_tests false false true known closed e = cc e
added_by_tests false false false true closed e = cc e
added_by_tests false false false false true e = cc e
added_by_tests false false false false false e = (refl, refl)
