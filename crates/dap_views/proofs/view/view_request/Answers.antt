use Rattle.std.proofs.Common.{◌≡◌, ℕ, ◌&&◌, true, List, [], length, Some, Result, Ok, refl, sym, ap, ◌∙◌, arith, rules, bytes_eq}
use Rattle.std.proofs.lemmas.Bool.{and_from}
use Rattle.std.proofs.lemmas.Slice.Eq.{bytes_eq-Decides}
use Rattle.std.proofs.lemmas.Grind.{common_steps}
use Rattle.std.proofs.lemmas.List.{nil_from_length}
use Rattle.std.specs.Prelude.{slice_get}
use Rattle.std.proofs.lemmas.Result.{err_from_is_err_and}
use Rattle.dap_bytes.specs.Cursor.{Reading, rest_of, past}
use Rattle.dap_messages.specs.declared.body.Half.{Half}
use Rattle.dap_messages.specs.declared.item.Tagged.{Tagged}
use Rattle.dap_messages.specs.declared.job.JobNo.{JobNo}
use Rattle.dap_messages.specs.declared.message.Message.{Message}
use Rattle.dap_messages.specs.declared.message.Message.TheVariants.{InitReq}
use Rattle.dap_messages.specs.Forms.{job}
use Rattle.dap_messages.specs.JobLaws.{same_job-Decides}
use Rattle.dap_messages.specs.Jobs.{is_same_job}
use Rattle.dap_views.specs.Parts.{parts_at, place_in}
use Rattle.dap_views.specs.Request.{Request}
use Rattle.dap_views.specs.Whole.{is_headed}
use Rattle.dap_views.proofs.Whole.{begins, begun, count_fails, is_request}
use Rattle.dap_views.proofs.view.view_request.Goals as goal

-- the message of a request
abbrev as_request : JobNo → List ℕ → List (Tagged Half) → Result Message ℕ
as_request j n parts = Ok (InitReq j n parts)

-- a job and a name are themselves
same_head : (j : JobNo) (n : List ℕ) → (is_same_job j j && bytes_eq n n) ≡ true
same_head j n = and_from (is_same_job j j) (bytes_eq n n) ((same_job-Decides j j).1 refl) ((bytes_eq-Decides n n).1 refl)

pub returns-in_err-count : goal.returns-in_err-count
returns-in_err-count c =
    let input = c.args.bytes.now in
    let first : slice_get (rest_of (place_in input 0)) 0 ≡ Some 1 = search rules in
    let from : c.u8.new.self ≡ begun input = c.u8.ensures.place ∙ ap (past 1) c.new-cursor.ensures in
    let job_is : job.read (begun input) ≡ Ok (c.in_ok-job.job, c.read_job.new.cursor) = ap job.read (sym from) ∙ c.in_ok-job.ensures in
    let p = err_from_is_err_and c.from_residual-in_err-count.result c.from_residual-in_err-count.ensures.1 in
    rw (p.1, p.2) (count_fails input first c.in_ok-job.job c.read_job.new.cursor job_is c.in_ok-name.name.now c.take_name.new.cursor c.in_ok-name.ensures
    c.in_err-count.field-0.0.at c.in_err-count.ensures)

pub at-requires-clause-request : goal.at-requires-clause-request
at-requires-clause-request c =
    let input = c.args.bytes.now in
    let first : slice_get (rest_of (place_in input 0)) 0 ≡ Some 1 = search rules in
    let from : c.u8.new.self ≡ begun input = c.u8.ensures.place ∙ ap (past 1) c.new-cursor.ensures in
    let j = c.in_ok-job.job in
    let n = c.in_ok-name.name.now in
    let count = c.in_ok-count.count in
    let r2 = c.read_job.new.cursor in
    let r3 = c.take_name.new.cursor in
    let r4 = c.read_u16.new.cursor in
    let end = c.pass_parts.new.cursor in
    let job_is : job.read (begun input) ≡ Ok (j, r2) = ap job.read (sym from) ∙ c.in_ok-job.ensures in
    let none : length c.rest.result.now ≡ 0 = grind (arith, common_steps, c.is_empty.ensures, c.if-not-is_empty.false) in
    let nothing : rest_of end ≡ [] = nil_from_length (rest_of end) (ap length (sym c.rest.ensures) ∙ none) in
    let whole = is_request input first j r2 job_is n r3 c.in_ok-name.ensures count r4 c.in_ok-count.ensures c.in_ok-pass_parts.field-0 end c.in_ok-pass_parts.ensures nothing in
    ap (is_headed j n) whole ∙ same_head j n

pub returns : goal.returns
returns c =
    let input = c.args.bytes.now in
    let first : slice_get (rest_of (place_in input 0)) 0 ≡ Some 1 = search rules in
    let from : c.u8.new.self ≡ begun input = c.u8.ensures.place ∙ ap (past 1) c.new-cursor.ensures in
    let j = c.in_ok-job.job in
    let n = c.in_ok-name.name.now in
    let count = c.in_ok-count.count in
    let r2 = c.read_job.new.cursor in
    let r3 = c.take_name.new.cursor in
    let r4 = c.read_u16.new.cursor in
    let end = c.pass_parts.new.cursor in
    let job_is : job.read (begun input) ≡ Ok (j, r2) = ap job.read (sym from) ∙ c.in_ok-job.ensures in
    let none : length c.rest.result.now ≡ 0 = grind (arith, common_steps, c.is_empty.ensures, c.if-not-is_empty.false) in
    let nothing : rest_of end ≡ [] = nil_from_length (rest_of end) (ap length (sym c.rest.ensures) ∙ none) in
    let whole = is_request input first j r2 job_is n r3 c.in_ok-name.ensures count r4 c.in_ok-count.ensures c.in_ok-pass_parts.field-0 end c.in_ok-pass_parts.ensures nothing in
    let stands : r4 ≡ place_in input c.place-place.result =
    begins input first j r2 job_is n r3 c.in_ok-name.ensures count r4 c.in_ok-count.ensures (λ i. omega (arith, c.type_inv.bytes i)) ∙ ap (place_in input) (sym c.place-place.ensures.place) in (
      whole ∙ ap (λ (r : Reading). as_request j n (parts_at count r)) stands ∙ ap (λ (q : Request). as_request q.job q.name q.parts) (sym c.at.ensures),
      ap (λ (q : Request). q.message) c.at.ensures,
    )
