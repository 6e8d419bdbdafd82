use Rattle.gb_build.proofs.InvocationAsked.{their_own}
use Rattle.gb_build.proofs.laws.builds_change_their_own.Goals as goal

pub returns : goal.returns
returns g c = λ tables invocation report old new is. their_own g.F.Folder.device tables invocation report old new is.requests
