use Rattle.std.proofs.Common.{sym, subst, ◌∙◌}
use Rattle.lane_records.specs.declared.record.Record.{Record}
use Rattle.legal_journals.specs.History.{Mem}
use Rattle.legal_journals.proofs.Firsts.{Mem-get}
use Rattle.legal_journals.proofs.front_rules.are_clear_asks.Goals as goal

pub is_clear_ask-requires-clause-asked : goal.is_clear_ask-requires-clause-asked
is_clear_ask-requires-clause-asked c n s e =
    c.requires.asked n s
    (subst (λ (z : Record). Mem z c.args.earlier.now) (sym c.x-item.is ∙ e) (Mem-get c.args.earlier.now c.loop-x.x-index c.x-item.result c.loop-x-test.true))
