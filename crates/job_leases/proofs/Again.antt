-- A job that has a lease isn't given while it stands.
use Rattle.std.proofs.Common.{◌≡◌, ℕ, ◌+◌, ◌<◌, List, [], ◌∷◌, Bool, true, false, cond, Some, sym, ap, ◌∙◌, subst, refl, arith}
use Rattle.std.specs.Prelude.{find, nat_lt, ◌&&◌}
use Rattle.std.specs.Option.{option_map}
use Rattle.std.proofs.lemmas.Bool.Decides.{nat_tests}
use Rattle.dap_messages.specs.declared.job.JobNo.{JobNo}
use Rattle.dap_messages.specs.JobLaws.{same_job-Decides}
use Rattle.job_leases.specs.declared.job.TheConstants.Lease.{TURNS}
use Rattle.job_leases.specs.declared.job.Lease.{Lease}
use Rattle.job_leases.specs.declared.job.OpenJob.{OpenJob}
use Rattle.job_leases.specs.Jobs.{is_job, is_free, waits_for_worker, first_free, leased}

abbrev with_lease : Lease → OpenJob → OpenJob
with_lease lease j = record { job = j.job; stage = j.stage; lease = Some lease }

no_work : (b : Bool) → (b && false) ≡ false
no_work true = refl
no_work false = refl

busy : (turn later worker : ℕ) (j : OpenJob) → later < turn + TURNS → is_free later (with_lease (record { turn = turn; worker = worker }) j) ≡ false
busy turn later worker j before =
    let stands : nat_lt later (turn + TURNS) ≡ true = grind (arith, nat_tests) in
    rw stands (no_work (waits_for_worker j.stage))

first-skip : (later : ℕ) (j : OpenJob) (js : List OpenJob) → is_free later j ≡ false → first_free later (j ∷ js) ≡ first_free later js
first-skip later j js e = ap (λ b. option_map (λ (x : OpenJob). x.job) (cond b (Some j) (find (is_free later) js))) e

first-here : (later : ℕ) (j : OpenJob) (js : List OpenJob) → is_free later j ≡ true → first_free later (j ∷ js) ≡ Some j.job
first-here later j js e = ap (λ b. option_map (λ (x : OpenJob). x.job) (cond b (Some j) (find (is_free later) js))) e

-- nor is another job this one
other_number : (job : JobNo) (j : OpenJob) → is_job job j ≡ false → Some j.job ≡ Some job → ⊥
other_number job j f e =
    let same : j.job ≡ job = cc in
    let t : is_job job j ≡ true = subst (λ n. is_job job (record { job = n; stage = j.stage; lease = j.lease }) ≡ true) (sym same) ((same_job-Decides job job).1 refl) in
    let no : true ≡ false = sym t ∙ f in
    cc

pub not_again : (turn later worker : ℕ) (job : JobNo) (js : List OpenJob) → later < turn + TURNS → first_free later (leased job (record { turn = turn; worker = worker }) js) ≡ Some job → ⊥
not_again turn later worker job [] before e = cc
not_again turn later worker job (j ∷ js) before e = number (is_job job j) refl (not_again turn later worker job js before)
  where
    lease : Lease
    lease = record { turn = turn; worker = worker }

    rest : List OpenJob
    rest = leased job lease js

    free : (b : Bool) → is_job job j ≡ false → first_free later (j ∷ rest) ≡ Some job → is_free later j ≡ b → (first_free later rest ≡ Some job → ⊥) → ⊥
    free true f k t again = other_number job j f (sym (first-here later j rest t) ∙ k)
    free false f k t again = again (sym (first-skip later j rest t) ∙ k)

    number : (b : Bool) → is_job job j ≡ b → (first_free later rest ≡ Some job → ⊥) → ⊥
    number true t again =
        let is : leased job lease (j ∷ js) ≡ with_lease lease j ∷ rest = ap (λ b. cond b (with_lease lease j) j ∷ rest) t in
        again (sym (first-skip later (with_lease lease j) rest (busy turn later worker j before)) ∙ sym (ap (first_free later) is) ∙ e)
    number false t again =
        let is : leased job lease (j ∷ js) ≡ j ∷ rest = ap (λ b. cond b (with_lease lease j) j ∷ rest) t in
        free (is_free later j) t (sym (ap (first_free later) is) ∙ e) refl again
