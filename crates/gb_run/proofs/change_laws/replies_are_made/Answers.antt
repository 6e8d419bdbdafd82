use Rattle.gb_run.proofs.Leading.{replies_are_made}
use Rattle.gb_run.proofs.change_laws.replies_are_made.Goals as goal

pub returns : goal.returns
returns c = replies_are_made
