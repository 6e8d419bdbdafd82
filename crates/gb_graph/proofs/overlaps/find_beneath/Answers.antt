use Rattle.std.proofs.Common.{◌∷◌, ◌++◌, []}
use Rattle.std.proofs.lemmas.Result.{on_ok_weaker}
use Rattle.gb_core.specs.Place.{is_beneath}
use Rattle.gb_graph.specs.Overlaps.{is_between}
use Rattle.gb_graph.proofs.Cuts.{between_is_beneath, finds_same}
use Rattle.gb_graph.proofs.overlaps.find_beneath.Goals as goal

pub returns : goal.returns
returns c =
    let folder = c.args.folder.now in
    on_ok_weaker c.find_between.result
    (finds_same c.args.row.now (is_between (folder ++ 47 ∷ []) (folder ++ 48 ∷ [])) (λ place. is_beneath place folder) (between_is_beneath folder) c.args.found.now.items c.find_between.new.found.items)
    c.find_between.ensures
