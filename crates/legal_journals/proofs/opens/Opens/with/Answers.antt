use Rattle.std.proofs.Common.{◌+◌, ap, ◌∙◌}
use Rattle.std.specs.Option.{option_or}
use Rattle.legal_journals.proofs.Counts.{one_more}
use Rattle.legal_journals.proofs.opens.Opens.with.Goals as goal

pub returns : goal.returns
returns c records h =
    one_more c.args.self (record { count = c.in_ok-count.count; opens = c.in_ok-opens.opens; twos = c.in_ok-twos.twos; lanes = c.or-lanes.result }) records c.args.x.now
    c.in_ok-count.ensures.1
    (c.in_ok-opens.ensures.1 ∙ ap (λ n. c.args.self.opens + n) c.one_open.ensures)
    (c.in_ok-twos.ensures.1 ∙ ap (λ n. c.args.self.twos + n) c.one_two.ensures)
    (c.or-lanes.ensures ∙ ap (option_or c.args.self.lanes) c.lanes_in.ensures) h
