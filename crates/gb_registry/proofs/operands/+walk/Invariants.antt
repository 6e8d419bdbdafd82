use Rattle.std.proofs.Common.{◌≡◌, ◌+◌, ◌*◌, drop, map}
use Rattle.gb_script.specs.Tree.{links_of, links_size, link_size, root_size, tree_size, trees_of, trees_size}
use Rattle.gb_script.specs.View.{link_of, root_of}
use Rattle.gb_registry.specs.Wrong.{found_along, found_in_all}
use Rattle.gb_registry.proofs.operands.+walk.Given as goal

abbrev pub decreases-look_along : goal.decreases-look_along
decreases-look_along g l = 4 * tree_size l.tree.now

abbrev pub decreases-look_at : goal.decreases-look_at
decreases-look_at g l = 4 * root_size (root_of l.source.now) + 3

abbrev pub decreases-look_at_all : goal.decreases-look_at_all
decreases-look_at_all g l = 4 * trees_size (trees_of l.elements.now) + 1

abbrev pub decreases-look_after : goal.decreases-look_after
decreases-look_after g l = 4 * links_size (links_of (map link_of l.steps.now)) + 3

abbrev pub decreases-look_by : goal.decreases-look_by
decreases-look_by g l = 4 * link_size (link_of l.step.now) + 2

abbrev pub invariant-look_at_all-loop-element : goal.invariant-look_at_all-loop-element
invariant-look_at_all-loop-element g l =
    found_in_all (g.L.Look.at_root l.look) (g.L.Look.at_link l.look) (trees_of l.elements)
    ≡ found_in_all (g.L.Look.at_root l.look) (g.L.Look.at_link l.look) (trees_of (drop l.element-index l.elements))

abbrev pub invariant-look_after-loop-step : goal.invariant-look_after-loop-step
invariant-look_after-loop-step g l =
    found_along (g.L.Look.at_root l.look) (g.L.Look.at_link l.look) (links_of (map link_of l.steps))
    ≡ found_along (g.L.Look.at_root l.look) (g.L.Look.at_link l.look) (links_of (map link_of (drop l.step-index l.steps)))
