use Rattle.gb_folder.proofs.Leading.{answered_all}
use Rattle.gb_folder.proofs.laws.calls_are_exact.Goals as goal

pub returns : goal.returns
returns g c = λ old new calls faithful led. answered_all g.F.Folder.device g.met.F.Folder.sound old new calls faithful led
