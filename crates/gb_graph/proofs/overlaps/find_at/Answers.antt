use Rattle.std.proofs.Common.{◌∷◌, ◌++◌, []}
use Rattle.std.specs.Prelude.{bytes_eq}
use Rattle.std.proofs.lemmas.Result.{on_ok_weaker}
use Rattle.gb_graph.specs.Overlaps.{is_between}
use Rattle.gb_graph.proofs.Cuts.{between_is_text, finds_same}
use Rattle.gb_graph.proofs.overlaps.find_at.Goals as goal

pub returns : goal.returns
returns c =
    let text = c.args.text.now in
    on_ok_weaker c.find_between.result
    (finds_same c.args.row.now (is_between text (text ++ 0 ∷ [])) (λ place. bytes_eq place text) (between_is_text text) c.args.found.now.items c.find_between.new.found.items)
    c.find_between.ensures
