use Rattle.std.proofs.Common.{cond, Some, None, take, bytes_eq, sym, ap, ◌∙◌}
use Rattle.std.specs.Option.{option_or}
use Rattle.std.specs.Ordering.{is_eq}
use Rattle.legal_journals.specs.Reports.{report_order, among}
use Rattle.legal_journals.specs.Tables.{at, without, given}
use Rattle.legal_journals.proofs.Amongs.{more_marked, more_unmarked, whole, of_all, entered_none, entered_more, undone}
use Rattle.legal_journals.proofs.Results.{on_ok, on_err}
use Rattle.legal_journals.proofs.reports.enter_all.Goals as goal
use Rattle.legal_journals.proofs.reports.enter_all.Goals.{else-is_marked-via-then-is_marked+else-is_err, else-is_marked-via-else-is_marked}

pub loop-x-init : goal.loop-x-init
loop-x-init g c q = entered_none (bytes_eq c.args.name.now q.0) c.args.place (at report_order q c.args.table.now)

pub returns-then-is_err-clause-err : goal.returns-then-is_err-clause-err
returns-then-is_err-clause-err g c new q =
    let marked = g.B.Marked.marked in
    let n = c.args.name.now in
    let xs = c.args.items.now in
    let i = c.loop-x.x-index in
    let old = at report_order q c.args.table.now in
    c.leave_all.ensures q
    ∙ ap (without c.args.place (among marked n xs q)) (ap (at report_order q) (on_err c.enter.result c.enter.ensures.err (sym c.if-is_err.ensures.value)) ∙ c.loop-x.invariant q)
    ∙ undone old c.args.place (among marked n (take i xs) q) (among marked n xs q) (of_all marked n xs i q) (new q)

pub loop-x-preserved : goal.loop-x-preserved
loop-x-preserved g c q =
    let marked = g.B.Marked.marked in
    let n = c.args.name.now in
    let xs = c.args.items.now in
    let i = c.loop-x.x-index in
    let x = c.x-item.result in
    let old = at report_order q c.args.table.now in
    elim c.else-is_marked.branch [
      | else-is_marked-via-then-is_marked+else-is_err w ↦ rw w.table-is (
          on_ok w.enter.result w.enter.ensures.ok (sym w.if-is_err.ensures.value) q
          ∙ ap (λ had. option_or had (given report_order q (n, x.id) c.args.place)) (c.loop-x.invariant q)
          ∙ entered_more old c.args.place (among marked n (take i xs) q) (is_eq (report_order (n, x.id) q))
          ∙ ap (λ b. option_or old (cond b (Some c.args.place) None)) (sym (more_marked marked n xs i x q c.loop-x-test.true c.x-item.is (sym w.if-is_marked.ensures))))
      | else-is_marked-via-else-is_marked w ↦ rw w.table-is (
          c.loop-x.invariant q
          ∙ ap (λ b. option_or old (cond b (Some c.args.place) None)) (sym (more_unmarked marked n xs i x q c.loop-x-test.true c.x-item.is (sym w.if-is_marked.ensures))))
    ]

pub returns-clause-ok : goal.returns-clause-ok
returns-clause-ok g c q =
    c.loop-x.invariant q
    ∙ ap (λ b. option_or (at report_order q c.args.table.now) (cond b (Some c.args.place) None)) (whole g.B.Marked.marked c.args.name.now c.args.items.now c.loop-x.x-index q c.loop-x-test.false)
