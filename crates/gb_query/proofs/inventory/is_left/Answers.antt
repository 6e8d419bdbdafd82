use Rattle.std.proofs.Common.{refl, sym}
use Rattle.std.proofs.lemmas.Result.{IfOk-weaker}
use Rattle.gb_query.specs.Inventory.{known}
use Rattle.gb_query.proofs.Left.{of_record}
use Rattle.gb_query.proofs.inventory.is_left.Goals as goal

pub returns-then-is_among-clause-left : goal.returns-then-is_among-clause-left
returns-then-is_among-clause-left g c = λ faithful place owner. known c.args.path.now owner (sym c.if-is_among.ensures) refl

pub returns-else-is_among-clause-left : goal.returns-else-is_among-clause-left
returns-else-is_among-clause-left g c = λ faithful.
    let files = (g.F.Folder.device.contents c.args.folder.now).files in
    let registered = c.args.registered.now in
    let path = c.args.path.now in
    IfOk-weaker c.has_record.result _ _
    (λ has read place owner. of_record files registered place path read.0 has owner read.1 read.2 (sym c.if-is_among.ensures))
    (c.has_record.ensures.read faithful)
