-- A job at its place: the first that passes, a change there, and a removal there.
use Rattle.std.proofs.Common.{◌≡◌, ℕ, zero, suc, ◌<◌, ◌≤◌, List, [], ◌∷◌, ◌++◌, length, get_or, set, take, drop, Bool, true, false, not, Some, None, sym, ap, ◌∙◌, subst, refl, arith}
use Rattle.std.specs.Prelude.{filter, find, position}
use Rattle.std.specs.List.{position_or_len}
use Rattle.std.specs.Prelude.{nat_lt}
use Rattle.std.specs.Option.{option_map}
use Rattle.std.proofs.lemmas.Bool.Decides.{nat_tests}
use Rattle.std.proofs.lemmas.List.Folds.{find_at}
use Rattle.std.proofs.lemmas.List.Quantifiers.{position-Some}
use Rattle.std.proofs.lemmas.Option.{slice_get_past}
use Rattle.dap_messages.specs.declared.job.JobNo.{JobNo}
use Rattle.dap_messages.specs.JobLaws.{same_job-Decides}
use Rattle.job_leases.specs.declared.job.OpenJob.{OpenJob}
use Rattle.job_leases.specs.declared.job.Lease.{Lease}
use Rattle.job_leases.specs.declared.job.Stage.{Stage}
use Rattle.job_leases.specs.Jobs.{is_job, IsNew, AreDistinct, is_free, first_free, stage_of, changed, leased, moved}
use Rattle.job_leases.proofs.Numbers.{apart, new-at, distinct-changed, distinct-filter}

find-first : (p : OpenJob → Bool) (js : List OpenJob) (i : ℕ) (d : OpenJob) → i < length js → p (get_or js i d) ≡ true → ((k : ℕ) → k < i → p (get_or js k d) ≡ false)
    → find p js ≡ Some (get_or js i d)
find-first p [] i d h t f = absurd (omega arith)
find-first p (j ∷ js) zero d h t f = rw t refl
find-first p (j ∷ js) (suc i) d h t f = rw (f 0 (omega arith)) (find-first p js i d (omega arith) t (λ k l. f (suc k) (omega arith)))

-- the job at the first place that passes
pub record IsFound (p : OpenJob → Bool) (js : List OpenJob) (i : ℕ) (d : OpenJob) : Type 0 where
  pub within : i < length js
  pub passes : p (get_or js i d) ≡ true
  pub found : find p js ≡ Some (get_or js i d)

pub position-found : (p : OpenJob → Bool) (js : List OpenJob) (i : ℕ) (d : OpenJob) → position p js ≡ Some i → IsFound p js i d
position-found p js i d e =
    let k = position-Some p js i d e in
    record { within = k.0; passes = k.1; found = find-first p js i d k.0 k.1 k.2 }

pub position-none : (p : OpenJob → Bool) (js : List OpenJob) → position p js ≡ None → find p js ≡ None
position-none p js e = go (nat_lt (position_or_len p js) (length js)) refl
  where
    go : (b : Bool) → nat_lt (position_or_len p js) (length js) ≡ b → find p js ≡ None
    go true f = absurd (let m : position p js ≡ Some (position_or_len p js) = rw f refl in let n : Some (position_or_len p js) ≡ None = sym m ∙ e in cc)
    go false f = let past : length js ≤ position_or_len p js = grind (arith, nat_tests) in find_at p js ∙ slice_get_past js (position_or_len p js) past

unchanged : (job : JobNo) (f : OpenJob → OpenJob) (js : List OpenJob) → IsNew job js → changed job f js ≡ js
unchanged job f [] n = refl
unchanged job f (j ∷ js) n = rw n.0 (ap (λ l. j ∷ l) (unchanged job f js n.1))

kept : (job : JobNo) (js : List OpenJob) → IsNew job js → filter (λ j. not (is_job job j)) js ≡ js
kept job [] n = refl
kept job (j ∷ js) n = rw n.0 (ap (λ l. j ∷ l) (kept job js n.1))

pub changed-at : (job : JobNo) (f : OpenJob → OpenJob) (js : List OpenJob) (i : ℕ) (d : OpenJob) → AreDistinct js → i < length js → is_job job (get_or js i d) ≡ true
    → changed job f js ≡ set js i (f (get_or js i d))
changed-at job f [] i d a h t = absurd (omega arith)
changed-at job f (j ∷ js) zero d a h t =
    let rest : IsNew job js = subst (λ k. IsNew k js) (sym ((same_job-Decides job j.job).0 t)) a.0 in
    rw t (ap (λ l. f j ∷ l) (unchanged job f js rest))
changed-at job f (j ∷ js) (suc i) d a h t =
    let other : is_job job j ≡ false = apart job j (get_or js i d) (new-at j.job js i d a.0 (omega arith)) t in
    rw other (ap (λ l. j ∷ l) (changed-at job f js i d a.1 (omega arith) t))

pub removed-at : (job : JobNo) (js : List OpenJob) (i : ℕ) (d : OpenJob) → AreDistinct js → i < length js → is_job job (get_or js i d) ≡ true
    → filter (λ j. not (is_job job j)) js ≡ take i js ++ drop (suc i) js
removed-at job [] i d a h t = absurd (omega arith)
removed-at job (j ∷ js) zero d a h t =
    let rest : IsNew job js = subst (λ k. IsNew k js) (sym ((same_job-Decides job j.job).0 t)) a.0 in
    rw t (kept job js rest)
removed-at job (j ∷ js) (suc i) d a h t =
    let other : is_job job j ≡ false = apart job j (get_or js i d) (new-at j.job js i d a.0 (omega arith)) t in
    rw other (ap (λ l. j ∷ l) (removed-at job js i d a.1 (omega arith) t))

-- the first free job is given a lease at its place
pub record IsLeasedAt (turn : ℕ) (lease : Lease) (js : List OpenJob) (i : ℕ) (j : OpenJob) : Type 0 where
  pub oldest : Some j.job ≡ first_free turn js
  pub given : set js i (record { job = j.job; stage = j.stage; lease = Some lease }) ≡ leased j.job lease js
  pub distinct : AreDistinct (set js i (record { job = j.job; stage = j.stage; lease = Some lease }))

pub leased-at : (turn : ℕ) (lease : Lease) (js : List OpenJob) (i : ℕ) (j : OpenJob) → AreDistinct js → position (is_free turn) js ≡ Some i → j ≡ get_or js i j
    → IsLeasedAt turn lease js i j
leased-at turn lease js i j a e is =
    let k : IsFound (is_free turn) js i j = position-found (is_free turn) js i j e in
    let f : OpenJob → OpenJob = λ x. record { job = x.job; stage = x.stage; lease = Some lease } in
    let mine : is_job j.job (get_or js i j) ≡ true = subst (λ x. is_job j.job x ≡ true) is ((same_job-Decides j.job j.job).1 refl) in
    let given : set js i (f j) ≡ changed j.job f js = ap (λ x. set js i (f x)) is ∙ sym (changed-at j.job f js i j a k.within mine) in
    record {
      oldest = ap (λ (x : OpenJob). Some x.job) is ∙ sym (ap (option_map (λ (x : OpenJob). x.job)) k.found);
      given = given;
      distinct = subst AreDistinct (sym given) (distinct-changed j.job f js (λ x t. refl) a);
    }

-- a job is moved or closed at its place
pub record IsMovedAt (job : JobNo) (js : List OpenJob) (i : ℕ) : Type 0 where
  pub moved_on : (stage : Stage) → set js i (record { job = job; stage = stage; lease = None }) ≡ moved job (Some stage) js
  pub distinct_moved : (stage : Stage) → AreDistinct (set js i (record { job = job; stage = stage; lease = None }))
  pub closed : take i js ++ drop (suc i) js ≡ moved job None js
  pub distinct_closed : AreDistinct (take i js ++ drop (suc i) js)

pub moved-at : (job : JobNo) (js : List OpenJob) (i : ℕ) (d : OpenJob) → AreDistinct js → position (is_job job) js ≡ Some i → IsMovedAt job js i
moved-at job js i d a e =
    let k : IsFound (is_job job) js i d = position-found (is_job job) js i d e in
    let closed : take i js ++ drop (suc i) js ≡ moved job None js = sym (removed-at job js i d a k.within k.passes) in
    let on : (stage : Stage) → set js i (record { job = job; stage = stage; lease = None }) ≡ moved job (Some stage) js =
    λ stage. sym (changed-at job (λ _. record { job = job; stage = stage; lease = None }) js i d a k.within k.passes) in
    record {
      moved_on = on;
      distinct_moved = λ stage. subst AreDistinct (sym (on stage)) (distinct-changed job (λ _. record { job = job; stage = stage; lease = None }) js (λ x t. (same_job-Decides job x.job).0 t) a);
      closed = closed;
      distinct_closed = subst AreDistinct (sym closed) (distinct-filter (λ x. not (is_job job x)) js a);
    }

-- at which stage the job at a place stands
pub stage-at : (job : JobNo) (js : List OpenJob) (i : ℕ) (d : OpenJob) → position (is_job job) js ≡ Some i → stage_of job js ≡ Some (get_or js i d).stage
stage-at job js i d e = ap (option_map (λ (x : OpenJob). x.stage)) (position-found (is_job job) js i d e).found

pub stage-none : (job : JobNo) (js : List OpenJob) → position (is_job job) js ≡ None → stage_of job js ≡ None
stage-none job js e = ap (option_map (λ (x : OpenJob). x.stage)) (position-none (is_job job) js e)
