use Rattle.std.proofs.Common.{◌<◌, length, arith, ◌∙◌}
use Rattle.gb_declare.specs.Borrowed.{now_of}
use Rattle.gb_registry.proofs.Firsts.{reported_on}
use Rattle.gb_declare.specs.Site.{site_of}
use Rattle.gb_declare.proofs.MakingLemmas.{all_within, trees_on, trees_good, trees_first, item_now, count_now}
use Rattle.gb_declare.proofs.row_nodes.add_each.Goals as goal

pub returns-in_err-node-clause-faults : goal.returns-in_err-node-clause-faults
returns-in_err-node-clause-faults g c =
    let trees = now_of c.args.trees.now in
    let i = c.loop-tree.tree-index in
    let below : i < length trees = omega (arith, count_now c.args.trees.now, c.loop-tree-test.true) in
    reported_on _ _ c.in_err-node.field-0.0 c.from_residual.ensures.1
    (trees_first g.T.Transforms.meanings (site_of c.args.site.now) c.args.providers.now.table c.loop-tree.providers.table c.loop-tree.invariant.table trees
    i c.tree-item.result.now below (item_now c.args.trees.now i c.tree-item.result c.loop-tree-test.true c.tree-item.is) _ c.loop-tree.invariant.good c.in_err-node.field-0.0 c.in_err-node.ensures.faults)

pub loop-tree-preserved : goal.loop-tree-preserved
loop-tree-preserved g c =
    let made = c.in_ok-node.ensures.made in
    let trees = now_of c.args.trees.now in
    let i = c.loop-tree.tree-index in
    let below : i < length trees = omega (arith, count_now c.args.trees.now, c.loop-tree-test.true) in
    let is = item_now c.args.trees.now i c.tree-item.result c.loop-tree-test.true c.tree-item.is in
    record {
      table = made.table ∙ c.loop-tree.invariant.table;
      made =
          trees_on (site_of c.args.site.now) c.loop-tree.providers c.add_tree.new.providers c.in_ok-node.node c.args.providers.now.table c.loop-tree.invariant.table trees
          i c.tree-item.result.now below is c.loop-tree.row.items c.push.new.self.items _ c.in_ok-push.ensures.items made c.loop-tree.invariant.made;
      within =
          all_within (length c.loop-tree.providers.nodes) (length c.add_tree.new.providers.nodes) c.loop-tree.row.items c.push.new.self.items c.in_ok-node.node c.in_ok-push.ensures.items made.grown made.within c.loop-tree.invariant.within;
      grown = omega (arith, c.loop-tree.invariant.grown, made.grown);
      good =
          trees_good g.T.Transforms.meanings (site_of c.args.site.now) c.args.providers.now.table c.loop-tree.providers.table c.loop-tree.invariant.table trees
          i c.tree-item.result.now below is _ c.loop-tree.invariant.good c.in_ok-node.ensures.faults;
    }
