use Rattle.gb_folder.specs.Calls.{answered}
use Rattle.gb_folder.proofs.Called.{listed_badly, listed_well}
use Rattle.gb_folder.proofs.listing.listed_at.Goals as goal

pub returns-in-Ok-clause-call : goal.returns-in-Ok-clause-call
returns-in-Ok-clause-call g c =
    let F = g.F.Folder in
    let root = c.args.place.now in
    (answered c.list.result, c.list.ensures.called, listed_well root c.list.result c.in-Ok.places c.in-Ok.is)

pub returns-in-Err-clause-call : goal.returns-in-Err-clause-call
returns-in-Err-clause-call g c =
    let F = g.F.Folder in
    let root = c.args.place.now in
    (answered c.list.result, c.list.ensures.called, listed_badly root c.list.result c.in-Err.fault _ c.in-Err.is c.fault_at.ensures)
