use Rattle.std.proofs.Common.{◌≡◌, ◌+◌, ℕ, List, length, take, drop, ap, sym, ◌∙◌, subst, arith, length-take}
use Rattle.report_journal.specs.Log.{contents}
use Rattle.report_journal.specs.Journal.{block}
use Rattle.report_journal.proofs.Places.{Counted, counted_start, counted_more, counted_closed}
use Rattle.report_journal.proofs.Steps.{length-block}
use Rattle.report_journal.proofs.grammar.parse_blocks.Goals as goal

pub loop-at-init : goal.loop-at-init
loop-at-init c =
    let start = subst (λ (rs : List (List ℕ)). Counted rs 0 0 c.args.file.now) (sym (ap contents c.new-records.ensures.items)) (counted_start c.args.file.now c.requires.some) in
    record { behind = start.0; count = start.1; few = omega arith }

pub loop-at-preserved : goal.loop-at-preserved
loop-at-preserved c =
    let h = rw c.in-Some.is at c.in_ok-n.ensures.some in
    let inv = c.loop-at.invariant in
    let q = c.loop-at.at in
    let n = c.in-Some.n in
    let rest : c.rest_of.result.now ≡ drop q c.args.file.now = c.rest_of.ensures in
    let size = ap length rest in
    let whole : take n (drop q c.args.file.now) ≡ block h.1.0 = ap (λ (l : List ℕ). take n l) (sym rest) ∙ h.1.2 in
    let cut = length-take n (drop q c.args.file.now) in
    let long = length-block h.1.0 in
    let same = ap length whole in
    let more = subst (λ (rs : List (List ℕ)). Counted rs (q + n) (c.loop-at.blocks + 1) c.args.file.now) (sym h.1.3)
    (counted_more (contents c.loop-at.records.items) h.1.0 q n c.loop-at.blocks c.args.file.now inv.behind inv.count h.1.1 whole (omega (arith, size, h.0))) in
    record { behind = more.0; count = more.1; few = omega (arith, inv.few, same, cut, long) }

pub returns-clause-ok : goal.returns-clause-ok
returns-clause-ok c = counted_closed (contents c.loop-at.records.items) c.loop-at.at c.loop-at.blocks c.args.file.now c.loop-at.invariant.behind c.loop-at.invariant.count c.loop-at-test.false
