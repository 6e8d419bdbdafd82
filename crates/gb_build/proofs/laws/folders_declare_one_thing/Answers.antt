use Rattle.gb_build.proofs.OneLemmas.{folders_one}
use Rattle.gb_build.proofs.laws.folders_declare_one_thing.Goals as goal

pub returns : goal.returns
returns g c = λ tables. folders_one tables
