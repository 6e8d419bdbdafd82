use Rattle.gb_task.proofs.CaseOutside.{outside_is_enough}
use Rattle.gb_task.proofs.case_laws.outside_is_enough.Goals as goal

pub returns : goal.returns
returns c = outside_is_enough
