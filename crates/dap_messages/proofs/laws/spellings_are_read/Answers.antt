use Rattle.dap_messages.specs.Laws.{whole_again}
use Rattle.dap_messages.specs.Messages.{report, message}
use Rattle.dap_messages.specs.MessageLaws.{report_lawful, message_lawful}
use Rattle.dap_messages.proofs.laws.spellings_are_read.Goals as goal

pub returns-clause-messages : goal.returns-clause-messages
returns-clause-messages c = whole_again message message_lawful

pub returns-clause-reports : goal.returns-clause-reports
returns-clause-reports c = whole_again report report_lawful
