use Rattle.std.proofs.Common.{◌≡◌, ℕ, ◌+◌, ◌<◌, ◌++◌, length, sym, ap, subst, ◌∙◌, arith}
use Rattle.dap_bytes.specs.Spans.{bucket_at}
use Rattle.dap_bytes.specs.declared.span.Span.{Span}
use Rattle.dap_tasks.specs.Task.{PlainTask}
use Rattle.dap_model.specs.State.{batch_contents, batch_rejected, contents_in, rejected_in}
use Rattle.dap_direct.proofs.ContentLemmas.{batch_contents-more, batch_rejected-more, first_of, more-few}
use Rattle.dap_direct.specs.Sums.{AreSums}
use Rattle.dap_direct.proofs.state.Direct.batch_sums.Goals as goal

pub join_bucket-requires-clause-reports : goal.join_bucket-requires-clause-reports
join_bucket-requires-clause-reports g c =
    let f = g.V.Vdaf.of_kind in
    let task : PlainTask = c.args.task.now in
    let span : Span = c.args.span.now in
    let acc = c.args.self.now.accepted in
    let i : ℕ = c.loop-i.i in
    let some : 0 < task.precision = subst (λ (t : PlainTask). 0 < t.precision) c.task.view_is (omega (arith, c.task.invariant.0.some_time)) in
    let here : c.bucket.result ≡ bucket_at span task.precision i = c.bucket.ensures ∙ ap (λ (t : PlainTask). bucket_at span t.precision i) c.task.view_is in
    subst (λ (b : ℕ). c.loop-i.total.reports + length (contents_in f task b acc) < 4294967296) (sym here)
    (omega (arith, c.loop-i.invariant.counted, more-few f task span acc i some, c.requires.few))

pub join_bucket-requires-clause-rejected : goal.join_bucket-requires-clause-rejected
join_bucket-requires-clause-rejected g c =
    let f = g.V.Vdaf.of_kind in
    let task : PlainTask = c.args.task.now in
    let span : Span = c.args.span.now in
    let acc = c.args.self.now.accepted in
    let i : ℕ = c.loop-i.i in
    let some : 0 < task.precision = subst (λ (t : PlainTask). 0 < t.precision) c.task.view_is (omega (arith, c.task.invariant.0.some_time)) in
    let here : c.bucket.result ≡ bucket_at span task.precision i = c.bucket.ensures ∙ ap (λ (t : PlainTask). bucket_at span t.precision i) c.task.view_is in
    subst (λ (b : ℕ). c.loop-i.total.rejected + rejected_in f task b acc < 4294967296) (sym here)
    (omega (arith, c.loop-i.invariant.barred, more-few f task span acc i some, c.requires.few))

pub loop-i-preserved : goal.loop-i-preserved
loop-i-preserved g c =
    let f = g.V.Vdaf.of_kind in
    let task : PlainTask = c.args.task.now in
    let span : Span = c.args.span.now in
    let acc = c.args.self.now.accepted in
    let i : ℕ = c.loop-i.i in
    let own = f task.kind in
    let total = c.join_bucket.new.total in
    let contents = batch_contents f task (first_of span i) acc in
    let rejected : ℕ = batch_rejected f task (first_of span i) acc in
    let here : c.bucket.result ≡ bucket_at span task.precision i = c.bucket.ensures ∙ ap (λ (t : PlainTask). bucket_at span t.precision i) c.task.view_is in
    let joined = subst (λ (b : ℕ). AreSums own (contents ++ contents_in f task b acc) (rejected + rejected_in f task b acc) total) here
    (c.join_bucket.ensures contents rejected c.loop-i.invariant) in
    subst (λ l. AreSums own l (batch_rejected f task (first_of span (i + 1)) acc) total) (batch_contents-more f task span acc i)
    (subst (λ (n : ℕ). AreSums own (contents ++ contents_in f task (bucket_at span task.precision i) acc) n total) (batch_rejected-more f task span acc i) joined)
