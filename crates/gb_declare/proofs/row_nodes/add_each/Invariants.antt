use Rattle.std.proofs.Common.{◌≡◌, ◌<◌, ◌≤◌, length, drop, []}
use Rattle.std.specs.Prelude.{All}
use Rattle.gb_provider.specs.Rules.{numbers_of}
use Rattle.gb_script.specs.Tree.{trees_of}
use Rattle.gb_registry.specs.Wrong.{found_in_all}
use Rattle.gb_declare.specs.Borrowed.{now_of}
use Rattle.gb_declare.specs.Site.{site_of}
use Rattle.gb_declare.specs.Nodes.{trees_made}
use Rattle.gb_declare.specs.Wrong.{link_faults, root_faults}
use Rattle.gb_declare.proofs.row_nodes.add_each.Given as goal

abbrev pub invariant-loop-tree : goal.invariant-loop-tree
invariant-loop-tree g l = record {
  table : l.providers.table ≡ l.initial.providers.table;
  made :
      trees_made l.initial.providers.table (site_of l.site) (record { nodes = l.initial.providers.nodes; place = [] }) (trees_of (now_of l.trees))
      ≡ trees_made l.initial.providers.table (site_of l.site) (record { nodes = l.providers.nodes; place = numbers_of l.row.items }) (trees_of (drop l.tree-index (now_of l.trees)));
  within : All (λ node. node.number < length l.providers.nodes) l.row.items;
  grown : length l.initial.providers.nodes ≤ length l.providers.nodes;
  good :
      found_in_all (root_faults (site_of l.site)) (link_faults g.T.Transforms.meanings l.initial.providers.table) (trees_of (now_of l.trees))
      ≡ found_in_all (root_faults (site_of l.site)) (link_faults g.T.Transforms.meanings l.initial.providers.table) (trees_of (drop l.tree-index (now_of l.trees)));
}
