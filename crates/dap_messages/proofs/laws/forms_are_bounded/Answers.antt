use Rattle.dap_messages.specs.MessageLaws.{report_lawful, message_lawful}
use Rattle.dap_messages.proofs.laws.forms_are_bounded.Goals as goal

pub returns-clause-messages : goal.returns-clause-messages
returns-clause-messages c = message_lawful.within

pub returns-clause-reports : goal.returns-clause-reports
returns-clause-reports c = report_lawful.within
