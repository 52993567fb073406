use Rattle.std.proofs.Common.{◌≡◌, true, subst}
use Rattle.lane_records.specs.declared.record.Record.{Record}
use Rattle.lane_records.specs.Records.{record_}
use Rattle.legal_journals.proofs.Batches.{answer_range, answers_range}
use Rattle.legal_journals.proofs.front_rules.helper_front_may.Goals as goal

pub may_answer-requires-clause-span : goal.may_answer-requires-clause-span
may_answer-requires-clause-span c =
    answer_range c.in-HelperAnswer.request c.in-HelperAnswer.response (subst (λ (z : Record). record_.allowed z ≡ true) c.in-HelperAnswer.is c.requires.allowed)

pub may_answer-requires-clause-answered : goal.may_answer-requires-clause-answered
may_answer-requires-clause-answered c = answers_range c.args.earlier.now c.requires.legal
