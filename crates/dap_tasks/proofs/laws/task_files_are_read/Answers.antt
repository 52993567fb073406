use Rattle.dap_tasks.proofs.FileLaws.{tasks_of_file, file_of_tasks}
use Rattle.dap_tasks.proofs.laws.task_files_are_read.Goals as goal

pub returns : goal.returns
returns c bytes tasks = (tasks_of_file bytes tasks, file_of_tasks bytes tasks)
