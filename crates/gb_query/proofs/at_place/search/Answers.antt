use Rattle.std.proofs.Common.{List, ap, subst, sym, ◌∙◌}
use Rattle.std.specs.Prelude.{IsTrue, bytes_eq}
use Rattle.std.specs.Cmp.Lexicographic.{bytes_decides}
use Rattle.std.proofs.lemmas.List.Folds.{list_any_at}
use Rattle.gb_plan.specs.Graph.{paths_of}
use Rattle.gb_plan.specs.Task.{Path, has_path}
use Rattle.gb_query.proofs.at_place.search.Goals as goal

pub search_task-requires : goal.search_task-requires
search_task-requires g c =
    let paths : List Path = c.args.names.now in
    let path = c.path-item.result in
    subst (λ (paths : List Path). IsTrue (has_path paths path)) (c.requires ∙ ap paths_of (sym c.loop-path.invariant.kept))
    (list_any_at (bytes_eq path) paths c.loop-path.path-index path c.loop-path-test.true ((bytes_decides path _).1 c.path-item.is))
