use Rattle.gb_task.proofs.CaseOutside.{decided_outside}
use Rattle.gb_task.proofs.case_laws.decided_outside.Goals as goal

pub returns : goal.returns
returns c = decided_outside
