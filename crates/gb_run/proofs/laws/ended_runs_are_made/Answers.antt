use Rattle.gb_run.proofs.FailedRuns.{ended_runs_are_made}
use Rattle.gb_run.proofs.laws.ended_runs_are_made.Goals as goal

pub returns : goal.returns
returns c = ended_runs_are_made
