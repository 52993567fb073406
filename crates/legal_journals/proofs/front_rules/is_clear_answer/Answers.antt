use Rattle.legal_journals.proofs.front_rules.is_clear_answer.Goals as goal

pub shares-requires-clause-times : goal.shares-requires-clause-times
shares-requires-clause-times c = (c.requires.span.1, (c.requires.answered c.in-HelperAnswer.request c.in-HelperAnswer.field-1 c.in-HelperAnswer.is).1)

pub shares-requires-clause-buckets : goal.shares-requires-clause-buckets
shares-requires-clause-buckets c = (c.requires.span.0, (c.requires.answered c.in-HelperAnswer.request c.in-HelperAnswer.field-1 c.in-HelperAnswer.is).0)
