use Rattle.gb_build.proofs.InvocationAsked.{dry_requests_nothing}
use Rattle.gb_build.proofs.laws.dry_runs_request_nothing.Goals as goal

pub returns : goal.returns
returns g c = λ tables invocation answer old new is dry. dry_requests_nothing g.F.Folder.device tables invocation answer old new is.requests dry
