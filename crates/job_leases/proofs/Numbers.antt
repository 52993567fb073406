-- Lists of jobs whose numbers are distinct.
use Rattle.std.proofs.Common.{◌≡◌, ℕ, zero, suc, ◌<◌, List, [], ◌∷◌, ◌++◌, length, get_or, map, Bool, true, false, cond, Some, None, sym, ◌∙◌, subst, refl, arith}
use Rattle.std.specs.Prelude.{filter}
use Rattle.dap_messages.specs.declared.job.JobNo.{JobNo}
use Rattle.dap_messages.specs.Jobs.{is_same_job}
use Rattle.dap_messages.specs.JobLaws.{same_job-Decides}
use Rattle.job_leases.specs.declared.job.OpenJob.{OpenJob}
use Rattle.job_leases.specs.Jobs.{is_job, IsNew, AreDistinct, changed, stage_of}

-- a number that isn't another's isn't so the other way round
pub apart-turned : (a b : JobNo) → is_same_job a b ≡ false → is_same_job b a ≡ false
apart-turned a b h = go (is_same_job b a) refl
  where
    go : (t : Bool) → is_same_job b a ≡ t → is_same_job b a ≡ false
    go false e = e
    go true e = absurd (let k : is_same_job a a ≡ false = subst (λ n. is_same_job a n ≡ false) ((same_job-Decides b a).0 e) h in let t : is_same_job a a ≡ true = (same_job-Decides a a).1 refl in cc)

-- a job of another number than one that has it
pub apart : (job : JobNo) (j k : OpenJob) → is_job j.job k ≡ false → is_job job k ≡ true → is_job job j ≡ false
apart job j k n t = go (is_job job j) refl
  where
    go : (b : Bool) → is_job job j ≡ b → is_job job j ≡ false
    go false e = e
    go true e = absurd (let m : is_job job k ≡ false = subst (λ x. is_job x k ≡ false) (sym ((same_job-Decides job j.job).0 e)) n in cc)

pub new-at : (job : JobNo) (js : List OpenJob) (i : ℕ) (d : OpenJob) → IsNew job js → i < length js → is_job job (get_or js i d) ≡ false
new-at job [] i d n h = absurd (omega arith)
new-at job (j ∷ js) zero d n h = n.0
new-at job (j ∷ js) (suc i) d n h = new-at job js i d n.1 (omega arith)

pub new-none : (job : JobNo) (js : List OpenJob) → stage_of job js ≡ None → IsNew job js
new-none job [] e = tt
new-none job (j ∷ js) e = go (is_job job j) refl (new-none job js)
  where
    go : (b : Bool) → is_job job j ≡ b → (stage_of job js ≡ None → IsNew job js) → IsNew job (j ∷ js)
    go false f rest = (f, rest (let m : stage_of job (j ∷ js) ≡ stage_of job js = rw f refl in sym m ∙ e))
    go true f rest = absurd (let m : stage_of job (j ∷ js) ≡ Some j.stage = rw f refl in let n : Some j.stage ≡ None = sym m ∙ e in cc)

-- a change of jobs that keeps their numbers
pub new-map : (job : JobNo) (g : OpenJob → OpenJob) (js : List OpenJob) → ((j : OpenJob) → (g j).job ≡ j.job) → IsNew job js → IsNew job (map g js)
new-map job g [] keeps n = tt
new-map job g (j ∷ js) keeps n = (subst (λ k. is_same_job job k ≡ false) (sym (keeps j)) n.0, new-map job g js keeps n.1)

pub distinct-map : (g : OpenJob → OpenJob) (js : List OpenJob) → ((j : OpenJob) → (g j).job ≡ j.job) → AreDistinct js → AreDistinct (map g js)
distinct-map g [] keeps a = tt
distinct-map g (j ∷ js) keeps a = (subst (λ k. IsNew k (map g js)) (sym (keeps j)) (new-map j.job g js keeps a.0), distinct-map g js keeps a.1)

changed_number : (job : JobNo) (f : OpenJob → OpenJob) (j : OpenJob) → (is_job job j ≡ true → (f j).job ≡ j.job) → (cond (is_job job j) (f j) j).job ≡ j.job
changed_number job f j keeps = go (is_job job j) keeps
  where
    go : (b : Bool) → (b ≡ true → (f j).job ≡ j.job) → (cond b (f j) j).job ≡ j.job
    go true k = k refl
    go false k = refl

pub distinct-changed : (job : JobNo) (f : OpenJob → OpenJob) (js : List OpenJob) → ((j : OpenJob) → is_job job j ≡ true → (f j).job ≡ j.job) → AreDistinct js
    → AreDistinct (changed job f js)
distinct-changed job f js keeps a = distinct-map (λ j. cond (is_job job j) (f j) j) js (λ j. changed_number job f j (keeps j)) a

pub new-filter : (job : JobNo) (p : OpenJob → Bool) (js : List OpenJob) → IsNew job js → IsNew job (filter p js)
new-filter job p [] n = tt
new-filter job p (j ∷ js) n = go (p j) (new-filter job p js n.1)
  where
    go : (b : Bool) → IsNew job (filter p js) → IsNew job (cond b (j ∷ filter p js) (filter p js))
    go true rest = (n.0, rest)
    go false rest = rest

pub distinct-filter : (p : OpenJob → Bool) (js : List OpenJob) → AreDistinct js → AreDistinct (filter p js)
distinct-filter p [] a = tt
distinct-filter p (j ∷ js) a = go (p j) (distinct-filter p js a.1)
  where
    go : (b : Bool) → AreDistinct (filter p js) → AreDistinct (cond b (j ∷ filter p js) (filter p js))
    go true rest = (new-filter j.job p js a.0, rest)
    go false rest = rest

new-push : (job : JobNo) (js : List OpenJob) (x : OpenJob) → IsNew job js → is_job job x ≡ false → IsNew job (js ++ x ∷ [])
new-push job [] x n e = (e, tt)
new-push job (j ∷ js) x n e = (n.0, new-push job js x n.1 e)

pub distinct-push : (js : List OpenJob) (x : OpenJob) → AreDistinct js → IsNew x.job js → AreDistinct (js ++ x ∷ [])
distinct-push [] x a n = (tt, tt)
distinct-push (j ∷ js) x a n = (new-push j.job js x a.0 (apart-turned x.job j.job n.0), distinct-push js x a.1 n.1)
