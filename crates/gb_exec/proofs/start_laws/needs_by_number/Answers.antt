use Rattle.gb_exec.proofs.Starting.{needs_by_number as law}
use Rattle.gb_exec.proofs.start_laws.needs_by_number.Goals as goal

pub returns : goal.returns
returns c = law
