use Rattle.gb_run.proofs.FailedRuns.{failed_runs_invent_nothing_in_full as law}
use Rattle.gb_run.proofs.laws.failed_runs_invent_nothing_in_full.Goals as goal

pub returns : goal.returns
returns c = λ returned. law _
