use Rattle.gb_run.proofs.Failing.{failed_runs_keep_right_files as law}
use Rattle.gb_run.proofs.laws.failed_runs_keep_right_files.Goals as goal

pub returns : goal.returns
returns c = λ returned. law _
