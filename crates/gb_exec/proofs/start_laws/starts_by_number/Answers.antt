use Rattle.gb_exec.proofs.Starting.{starts_by_number as law}
use Rattle.gb_exec.proofs.start_laws.starts_by_number.Goals as goal

pub returns : goal.returns
returns c = law
