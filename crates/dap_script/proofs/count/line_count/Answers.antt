use Rattle.std.proofs.Common.{◌+◌, sym, ap, ◌∙◌}
use Rattle.dap_script.proofs.CountLemmas.{ended-lines, unended-lines}
use Rattle.dap_script.proofs.count.line_count.Goals as goal

pub returns-then-last-eq10 : goal.returns-then-last-eq10
returns-then-last-eq10 c =
    let item = c.in-Some.ensures.item in
    c.line_feeds-ended.ensures ∙ ended-lines c.args.bytes.now item.3.0 (sym (item.3.1 0) ∙ c.if-last-eq10.true)

pub returns-else-last-eq10 : goal.returns-else-last-eq10
returns-else-last-eq10 c =
    let item = c.in-Some.ensures.item in
    ap (λ n. n + 1) c.line_feeds-ended.ensures
    ∙ unended-lines c.args.bytes.now item.3.0 (λ last. c.if-last-eq10.false (item.3.1 0 ∙ last))
