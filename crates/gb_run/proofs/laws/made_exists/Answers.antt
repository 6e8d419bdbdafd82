use Rattle.gb_run.proofs.Existed.{made_exists}
use Rattle.gb_run.proofs.laws.made_exists.Goals as goal

pub returns : goal.returns
returns c = made_exists
