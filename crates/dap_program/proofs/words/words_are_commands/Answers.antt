use Rattle.dap_program.proofs.WordLemmas.{command_of-command, command_of-faulty, command_of_is, faulty_command_of}
use Rattle.dap_program.proofs.words.words_are_commands.Goals as goal

pub returns-clause-command : goal.returns-clause-command
returns-clause-command c words command = (command_of_is words command, command_of-command words command)

pub returns-clause-faulty : goal.returns-clause-faulty
returns-clause-faulty c words n = (command_of-faulty words n, faulty_command_of words n)
