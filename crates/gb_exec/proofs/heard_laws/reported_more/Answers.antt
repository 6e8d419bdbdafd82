use Rattle.gb_exec.proofs.Further.{reported_more as law}
use Rattle.gb_exec.proofs.heard_laws.reported_more.Goals as goal

pub returns : goal.returns
returns c = law
