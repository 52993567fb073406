use Rattle.std.proofs.Common.{◌≡◌, true, not, ◌&&◌, sym, ap, subst, ◌∙◌}
use Rattle.std.specs.List.{list_any}
use Rattle.lane_records.specs.declared.record.Record.{Record}
use Rattle.lane_records.specs.Records.{record_}
use Rattle.legal_journals.specs.FrontTests.{leader_answers, leader_front_may}
use Rattle.legal_journals.proofs.Batches.{ask_range, asks_range}
use Rattle.legal_journals.proofs.front_rules.leader_front_may.Goals as goal

pub may_ask-requires-clause-span : goal.may_ask-requires-clause-span
may_ask-requires-clause-span c = ask_range c.in-Ask.name c.in-Ask.span (subst (λ (z : Record). record_.allowed z ≡ true) c.in-Ask.is c.requires.allowed)

pub may_ask-requires-clause-asked : goal.may_ask-requires-clause-asked
may_ask-requires-clause-asked c = asks_range c.args.earlier.now c.requires.legal

pub returns-then-was_asked : goal.returns-then-was_asked
returns-then-was_asked c =
    let answered = list_any (leader_answers c.in-LeaderAnswer.name c.in-LeaderAnswer.span) c.args.earlier.now in
    subst (λ (z : Record). not c.has_leader_answered.result ≡ leader_front_may z c.args.earlier.now) (sym c.in-LeaderAnswer.is)
    (ap not c.has_leader_answered.ensures ∙ ap (λ b. b && not answered) (sym (sym c.was_asked.ensures ∙ c.if-was_asked.true)))
