-- Lemmas: keys that tie are the same.
use Rattle.std.proofs.Common.{◌≡◌, ℕ, ◌==◌, Bool, ◌&&◌, refl, sym, ap, ◌∙◌, bytes_eq}
use Rattle.std.specs.declared.cmp.Ordering.{Ordering}
use Rattle.std.specs.declared.cmp.Ordering.TheVariants.{Less, Equal, Greater}
use Rattle.std.specs.Ordering.{is_eq, nat_cmp, ordering_then}
use Rattle.std.specs.Cmp.Lexicographic.{slice_cmp}
use Rattle.std.specs.Cmp.{unsigned_ties}
use Rattle.std.proofs.lemmas.Map.Text.{is_eq-slice_cmp}
use Rattle.dap_messages.specs.Jobs.{is_same_job}
use Rattle.legal_journals.specs.Reports.{Report, Batch, Job, job_of, report_order, batch_order, job_order}

pub then-eq : (r s : Ordering) → is_eq (ordering_then r s) ≡ (is_eq r && is_eq s)
then-eq Less s = refl
then-eq Equal s = refl
then-eq Greater s = refl

both : {a b c d : Bool} → a ≡ b → c ≡ d → (a && c) ≡ (b && d)
both {a} {b} {c} {d} e f = ap (λ x. x && c) e ∙ ap (λ x. b && x) f

pub nat_cmp-eq : (m n : ℕ) → is_eq (nat_cmp m n) ≡ (m == n)
nat_cmp-eq m n = sym (unsigned_ties m n)

pub report-ties : (a b : Report) → is_eq (report_order a b) ≡ (bytes_eq a.0 b.0 && bytes_eq a.1 b.1)
report-ties a b = then-eq (slice_cmp nat_cmp a.0 b.0) (slice_cmp nat_cmp a.1 b.1) ∙ both (is_eq-slice_cmp a.0 b.0) (is_eq-slice_cmp a.1 b.1)

pub batch-ties : (a b : Batch) → is_eq (batch_order a b) ≡ (bytes_eq a.0 b.0 && a.1 == b.1)
batch-ties a b = then-eq (slice_cmp nat_cmp a.0 b.0) (nat_cmp a.1 b.1) ∙ both (is_eq-slice_cmp a.0 b.0) (nat_cmp-eq a.1 b.1)

pub job-ties : (a b : Job) → is_eq (job_order a b) ≡ is_same_job (job_of a) (job_of b)
job-ties a b =
    then-eq (ordering_then (nat_cmp a.0 b.0) (nat_cmp a.1 b.1)) (nat_cmp a.2 b.2)
    ∙ both (then-eq (nat_cmp a.0 b.0) (nat_cmp a.1 b.1) ∙ both (nat_cmp-eq a.0 b.0) (nat_cmp-eq a.1 b.1)) (nat_cmp-eq a.2 b.2)
