use Rattle.std.proofs.Common.{◌≡◌, ◌+◌, ◌*◌, ◌<◌, ◌≤◌, length, drop, map, []}
use Rattle.std.specs.Prelude.{All}
use Rattle.gb_provider.specs.Rules.{numbers_of}
use Rattle.gb_script.specs.Tree.{links_of, links_size, link_size, root_size, tree_size, trees_of, trees_size}
use Rattle.gb_script.specs.View.{link_of, root_of}
use Rattle.gb_registry.specs.Wrong.{found_along, found_in_all}
use Rattle.gb_declare.specs.Site.{site_of}
use Rattle.gb_declare.specs.Nodes.{links_made, trees_made}
use Rattle.gb_declare.specs.Wrong.{link_faults, root_faults}
use Rattle.gb_declare.proofs.making.+making.Given as goal

abbrev pub decreases-add_tree : goal.decreases-add_tree
decreases-add_tree g l = 4 * tree_size l.tree.now

abbrev pub decreases-add_root : goal.decreases-add_root
decreases-add_root g l = 4 * root_size (root_of l.source.now) + 3

abbrev pub decreases-add_trees : goal.decreases-add_trees
decreases-add_trees g l = 4 * trees_size (trees_of l.trees.now) + 1

abbrev pub decreases-add_steps : goal.decreases-add_steps
decreases-add_steps g l = 4 * links_size (links_of (map link_of l.steps.now)) + 3

abbrev pub decreases-add_step : goal.decreases-add_step
decreases-add_step g l = 4 * link_size (link_of l.step.now) + 2

abbrev pub invariant-add_trees-loop-tree : goal.invariant-add_trees-loop-tree
invariant-add_trees-loop-tree g l = record {
  table : l.providers.table ≡ l.initial.providers.table;
  made :
      trees_made l.initial.providers.table (site_of l.site) (record { nodes = l.initial.providers.nodes; place = [] }) (trees_of l.trees)
      ≡ trees_made l.initial.providers.table (site_of l.site) (record { nodes = l.providers.nodes; place = numbers_of l.row.items }) (trees_of (drop l.tree-index l.trees));
  within : All (λ node. node.number < length l.providers.nodes) l.row.items;
  grown : length l.initial.providers.nodes ≤ length l.providers.nodes;
  good :
      found_in_all (root_faults (site_of l.site)) (link_faults g.T.Transforms.meanings l.initial.providers.table) (trees_of l.trees)
      ≡ found_in_all (root_faults (site_of l.site)) (link_faults g.T.Transforms.meanings l.initial.providers.table) (trees_of (drop l.tree-index l.trees));
}

abbrev pub invariant-add_steps-loop-step : goal.invariant-add_steps-loop-step
invariant-add_steps-loop-step g l = record {
  table : l.providers.table ≡ l.initial.providers.table;
  made :
      links_made l.initial.providers.table (site_of l.site) (record { nodes = l.initial.providers.nodes; place = l.fn.source.number }) (links_of (map link_of l.steps))
      ≡ links_made l.initial.providers.table (site_of l.site) (record { nodes = l.providers.nodes; place = l.node.number }) (links_of (map link_of (drop l.step-index l.steps)));
  within : l.node.number < length l.providers.nodes;
  grown : length l.initial.providers.nodes ≤ length l.providers.nodes;
  good :
      found_along (root_faults (site_of l.site)) (link_faults g.T.Transforms.meanings l.initial.providers.table) (links_of (map link_of l.steps))
      ≡ found_along (root_faults (site_of l.site)) (link_faults g.T.Transforms.meanings l.initial.providers.table) (links_of (map link_of (drop l.step-index l.steps)));
}
