use Rattle.std.proofs.Common.{List, ap, subst, sym, ◌∙◌}
use Rattle.std.specs.Prelude.{IsTrue}
use Rattle.gb_plan.specs.Graph.{paths_of}
use Rattle.gb_plan.specs.Task.{Path, has_path}
use Rattle.gb_query.proofs.Listed.{is_there}
use Rattle.gb_query.proofs.listing_objects.task_objects.Goals as goal

pub task_object-requires : goal.task_object-requires
task_object-requires g c =
    let paths : List Path = c.args.names.now in
    subst (λ (paths : List Path). IsTrue (has_path paths c.path-item.result)) (c.requires ∙ ap paths_of (sym c.loop-path.invariant.kept))
    (is_there paths c.loop-path.path-index c.path-item.result c.loop-path-test.true c.path-item.is)
