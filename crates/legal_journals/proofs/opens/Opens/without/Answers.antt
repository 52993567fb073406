use Rattle.std.proofs.Common.{◌-◌, refl, ap, ◌∙◌, arith}
use Rattle.legal_journals.proofs.Counts.{one_less}
use Rattle.legal_journals.proofs.Results.{some}
use Rattle.legal_journals.proofs.opens.Opens.without.Goals as goal

pub returns-then-opens-eq0 : goal.returns-then-opens-eq0
returns-then-opens-eq0 c records h =
    one_less c.args.self _ records c.args.x.now c.saturating_sub-count.ensures
    (c.saturating_sub-opens.ensures ∙ ap (λ n. c.args.self.opens - n) c.one_open.ensures)
    (c.saturating_sub-twos.ensures ∙ ap (λ n. c.args.self.twos - n) c.one_two.ensures)
    (λ e. refl) (λ le. absurd (omega (arith, c.if-opens-eq0.true, le))) h

pub returns-else-opens-eq0 : goal.returns-else-opens-eq0
returns-else-opens-eq0 c records h =
    one_less c.args.self _ records c.args.x.now c.saturating_sub-count.ensures
    (c.saturating_sub-opens.ensures ∙ ap (λ n. c.args.self.opens - n) c.one_open.ensures)
    (c.saturating_sub-twos.ensures ∙ ap (λ n. c.args.self.twos - n) c.one_two.ensures)
    (λ e. absurd (omega (arith, some c.saturating_sub-opens.result c.if-opens-eq0.false, e))) (λ le. refl) h
