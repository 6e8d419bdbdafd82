use Rattle.std.proofs.Common.{length, arith, ap, ◌∙◌}
use Rattle.gb_registry.proofs.Firsts.{reported_on}
use Rattle.gb_registry.proofs.Sizes.{element_size, step_size}
use Rattle.gb_script.specs.Tree.{links_size}
use Rattle.gb_declare.specs.Site.{site_of}
use Rattle.gb_declare.proofs.MakingLemmas.{there_on, all_within, trees_on, trees_good, trees_first, links_on, links_good, links_first, links_below, tree_reported}
use Rattle.gb_declare.proofs.making.+making.Goals as goal

pub add_steps-add_step-requires : goal.add_steps-add_step-requires
add_steps-add_step-requires g t c κs within =
    let size = step_size c.args.steps.now c.loop-step.step-index c.step-item.result c.loop-step-test.true c.step-item.is in (
      omega (arith, size, c.decreases),
      (
        within.0,
        (
          within.1.0,
          (
            within.1.1.0,
            (
              within.1.1.1.0,
              (
                within.1.1.1.1,
                (
                  there_on (site_of c.args.site.now) (length c.args.providers.now.nodes) (length c.loop-step.providers.nodes) c.loop-step.invariant.grown c.requires.there,
                  c.loop-step.invariant.within,
                ),
              ),
            ),
          ),
        ),
      ),
    )

pub add_steps-returns-in_err-node-clause-faults : goal.add_steps-returns-in_err-node-clause-faults
add_steps-returns-in_err-node-clause-faults g t c =
    reported_on _ _ c.in_err-node.field-0.0 c.from_residual.ensures.1
    (links_first g.T.Transforms.meanings (site_of c.args.site.now) c.args.providers.now.table c.loop-step.providers.table c.loop-step.invariant.table c.args.steps.now
    c.loop-step.step-index c.step-item.result c.loop-step-test.true c.step-item.is _ c.loop-step.invariant.good c.in_err-node.field-0.0 c.in_err-node.ensures.faults)

pub add_steps-loop-step-preserved : goal.add_steps-loop-step-preserved
add_steps-loop-step-preserved g t c =
    let made = c.in_ok-node.ensures.made in
    record {
      table = made.table ∙ c.loop-step.invariant.table;
      made =
          links_on (site_of c.args.site.now) c.loop-step.providers c.add_step.new.providers c.in_ok-node.node c.args.providers.now.table c.loop-step.invariant.table c.args.steps.now
          c.loop-step.step-index c.step-item.result c.loop-step-test.true c.step-item.is c.loop-step.node _ made c.loop-step.invariant.made;
      within = made.within;
      grown = omega (arith, c.loop-step.invariant.grown, made.grown);
      good =
          links_good g.T.Transforms.meanings (site_of c.args.site.now) c.args.providers.now.table c.loop-step.providers.table c.loop-step.invariant.table c.args.steps.now
          c.loop-step.step-index c.step-item.result c.loop-step-test.true c.step-item.is _ c.loop-step.invariant.good c.in_ok-node.ensures.faults;
    }

pub add_tree-add_steps-requires : goal.add_tree-add_steps-requires
add_tree-add_steps-requires g t c κs within =
    let made = c.in_ok-source.ensures.made in (
      omega (arith, ap links_size c.steps.ensures, links_below c.args.tree.now, c.decreases),
      (
        within.0,
        (
          within.1.0,
          (
            within.1.1.0,
            (
              within.1.1.1.0,
              (
                within.1.1.1.1,
                (
                  there_on (site_of c.args.site.now) (length c.args.providers.now.nodes) (length c.add_root.new.providers.nodes) made.grown c.requires,
                  made.within,
                ),
              ),
            ),
          ),
        ),
      ),
    )

pub add_tree-returns-clause-faults : goal.add_tree-returns-clause-faults
add_tree-returns-clause-faults g t c =
    tree_reported g.T.Transforms.meanings (site_of c.args.site.now) c.args.providers.now.table c.add_root.new.providers.table c.in_ok-source.ensures.made.table
    c.args.tree.now _ _ c.add_steps.result c.source.ensures c.steps.ensures c.in_ok-source.ensures.faults c.add_steps.ensures.faults

pub add_trees-add_tree-requires : goal.add_trees-add_tree-requires
add_trees-add_tree-requires g t c κs within =
    let size = element_size c.args.trees.now c.loop-tree.tree-index c.tree-item.result c.loop-tree-test.true c.tree-item.is in (
      omega (arith, size, c.decreases),
      (
        within.0,
        (
          within.1.0,
          (
            within.1.1.0,
            (
              within.1.1.1.0,
              (
                within.1.1.1.1,
                there_on (site_of c.args.site.now) (length c.args.providers.now.nodes) (length c.loop-tree.providers.nodes) c.loop-tree.invariant.grown c.requires,
              ),
            ),
          ),
        ),
      ),
    )

pub add_trees-returns-in_err-node-clause-faults : goal.add_trees-returns-in_err-node-clause-faults
add_trees-returns-in_err-node-clause-faults g t c =
    reported_on _ _ c.in_err-node.field-0.0 c.from_residual.ensures.1
    (trees_first g.T.Transforms.meanings (site_of c.args.site.now) c.args.providers.now.table c.loop-tree.providers.table c.loop-tree.invariant.table c.args.trees.now
    c.loop-tree.tree-index c.tree-item.result c.loop-tree-test.true c.tree-item.is _ c.loop-tree.invariant.good c.in_err-node.field-0.0 c.in_err-node.ensures.faults)

pub add_trees-loop-tree-preserved : goal.add_trees-loop-tree-preserved
add_trees-loop-tree-preserved g t c =
    let made = c.in_ok-node.ensures.made in
    record {
      table = made.table ∙ c.loop-tree.invariant.table;
      made =
          trees_on (site_of c.args.site.now) c.loop-tree.providers c.add_tree.new.providers c.in_ok-node.node c.args.providers.now.table c.loop-tree.invariant.table c.args.trees.now
          c.loop-tree.tree-index c.tree-item.result c.loop-tree-test.true c.tree-item.is c.loop-tree.row.items c.push.new.self.items _ c.in_ok-push.ensures.items made c.loop-tree.invariant.made;
      within =
          all_within (length c.loop-tree.providers.nodes) (length c.add_tree.new.providers.nodes) c.loop-tree.row.items c.push.new.self.items c.in_ok-node.node c.in_ok-push.ensures.items made.grown made.within c.loop-tree.invariant.within;
      grown = omega (arith, c.loop-tree.invariant.grown, made.grown);
      good =
          trees_good g.T.Transforms.meanings (site_of c.args.site.now) c.args.providers.now.table c.loop-tree.providers.table c.loop-tree.invariant.table c.args.trees.now
          c.loop-tree.tree-index c.tree-item.result c.loop-tree-test.true c.tree-item.is _ c.loop-tree.invariant.good c.in_ok-node.ensures.faults;
    }
