-- Lemmas: the test of two numbers decides whether they are one job's.
use Rattle.std.proofs.Common.{◌≡◌, ℕ, ◌&&◌, Decides, ap, ◌∙◌}
use Rattle.std.specs.Prelude.{nat_eq}
use Rattle.std.proofs.lemmas.Bool.{and_parts, and_from, eqb-true, eq-eqb}
use Rattle.dap_messages.specs.declared.job.JobNo.{JobNo}
use Rattle.dap_messages.specs.Jobs.{is_same_job}

abbrev numbered : ℕ → ℕ → ℕ → JobNo
numbered lane incarnation counter = record { lane = lane; incarnation = incarnation; counter = counter }

pub same_job-Decides : (a b : JobNo) → Decides (is_same_job a b) (a ≡ b)
same_job-Decides a b = (
  λ e.
      let parts = and_parts (nat_eq a.lane b.lane && nat_eq a.incarnation b.incarnation) (nat_eq a.counter b.counter) e in
      let more = and_parts (nat_eq a.lane b.lane) (nat_eq a.incarnation b.incarnation) parts.0 in
      ap (λ (n : ℕ). numbered n a.incarnation a.counter) (eqb-true a.lane b.lane more.0)
      ∙ ap (λ (n : ℕ). numbered b.lane n a.counter) (eqb-true a.incarnation b.incarnation more.1)
      ∙ ap (λ (n : ℕ). numbered b.lane b.incarnation n) (eqb-true a.counter b.counter parts.1),
  λ e.
      and_from (nat_eq a.lane b.lane && nat_eq a.incarnation b.incarnation) (nat_eq a.counter b.counter)
      (and_from (nat_eq a.lane b.lane) (nat_eq a.incarnation b.incarnation) (eq-eqb a.lane b.lane (ap (λ (j : JobNo). j.lane) e)) (eq-eqb a.incarnation b.incarnation (ap (λ (j : JobNo). j.incarnation) e)))
      (eq-eqb a.counter b.counter (ap (λ (j : JobNo). j.counter) e)),
)
