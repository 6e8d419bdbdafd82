use Rattle.gb_run.proofs.Leading.{replies_lead_on}
use Rattle.gb_run.proofs.change_laws.replies_lead_on.Goals as goal

pub returns : goal.returns
returns c = replies_lead_on
