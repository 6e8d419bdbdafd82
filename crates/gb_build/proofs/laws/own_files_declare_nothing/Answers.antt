use Rattle.gb_build.proofs.OwnLemmas.{own_say_nothing}
use Rattle.gb_build.proofs.laws.own_files_declare_nothing.Goals as goal

pub returns : goal.returns
returns g c = λ tables. own_say_nothing tables
