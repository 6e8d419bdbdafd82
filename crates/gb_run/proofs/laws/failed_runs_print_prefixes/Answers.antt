use Rattle.gb_run.proofs.FailedRuns.{failed_runs_print_prefixes as law}
use Rattle.gb_run.proofs.laws.failed_runs_print_prefixes.Goals as goal

pub returns : goal.returns
returns c = λ returned. law _
