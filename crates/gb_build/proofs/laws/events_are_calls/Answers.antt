use Rattle.gb_build.proofs.EventAsked.{events_calls}
use Rattle.gb_build.proofs.laws.events_are_calls.Goals as goal

pub returns : goal.returns
returns g c = λ tables events answers old new made. events_calls g.F.Folder.device tables events answers old new made
