use Rattle.gb_exec.proofs.Further.{reported_is_heard as law}
use Rattle.gb_exec.proofs.heard_laws.reported_is_heard.Goals as goal

pub returns : goal.returns
returns c = law
