use Rattle.gb_run.proofs.Failing.{failed_runs_invent_nothing_by_changes as law}
use Rattle.gb_run.proofs.laws.failed_runs_invent_nothing_by_changes.Goals as goal

pub returns : goal.returns
returns c = λ returned. law _
