use Rattle.std.proofs.Common.{sym, ap, ◌∙◌, take, bytes_eq}
use Rattle.std.specs.Ordering.{is_eq}
use Rattle.legal_journals.specs.Reports.{report_order, among}
use Rattle.legal_journals.specs.Tables.{at, without}
use Rattle.legal_journals.proofs.Amongs.{more_marked, more_unmarked, whole, left_more, left_none}
use Rattle.legal_journals.proofs.reports.leave_all.Goals as goal
use Rattle.legal_journals.proofs.reports.leave_all.Goals.{then-is_marked, else-is_marked}

pub loop-x-init : goal.loop-x-init
loop-x-init g c q = left_none (bytes_eq c.args.name.now q.0) c.args.place (at report_order q c.args.table.now)

pub loop-x-preserved : goal.loop-x-preserved
loop-x-preserved g c q =
    let marked = g.B.Marked.marked in
    let n = c.args.name.now in
    let xs = c.args.items.now in
    let i = c.loop-x.x-index in
    let x = c.x-item.result in
    let old = at report_order q c.args.table.now in
    elim c.if-is_marked.branch [
      | then-is_marked w ↦ rw w.table-is (
          w.leave_at.ensures q ∙ ap (without c.args.place (is_eq (report_order (n, x.id) q))) (c.loop-x.invariant q)
          ∙ left_more old c.args.place (among marked n (take i xs) q) (is_eq (report_order (n, x.id) q))
          ∙ ap (λ b. without c.args.place b old) (sym (more_marked marked n xs i x q c.loop-x-test.true c.x-item.is (sym w.if-is_marked.ensures))))
      | else-is_marked w ↦ rw w.table-is (
          c.loop-x.invariant q ∙ ap (λ b. without c.args.place b old) (sym (more_unmarked marked n xs i x q c.loop-x-test.true c.x-item.is (sym w.if-is_marked.ensures))))
    ]

pub returns : goal.returns
returns g c q =
    c.loop-x.invariant q
    ∙ ap (λ b. without c.args.place b (at report_order q c.args.table.now)) (whole g.B.Marked.marked c.args.name.now c.args.items.now c.loop-x.x-index q c.loop-x-test.false)
