-- The trees within a tree are smaller than it.
use Rattle.std.specs.Prelude.{◌+◌, ◌≤◌, List, [], ◌∷◌, map}
use Rattle.std.proofs.Common.{arith}
use denote.Param.Weighed.{most}
use Rattle.gb_script.specs.declared.script_expression.Expression.TheInside.{Inside}
use Rattle.gb_script.specs.declared.script_expression.Expression.TheDeep.{deep-Expression, deep-Source}
use Rattle.gb_script.specs.declared.script_expression.Expression.TheDeep.{deep-Step}
use Rattle.gb_script.specs.declared.script_expression.Source.{Source}
use Rattle.gb_script.specs.declared.script_expression.Source.TheVariants as sources
use Rattle.gb_script.specs.declared.script_expression.Step.{Step}
use Rattle.gb_script.specs.declared.script_expression.Step.TheVariants as steps
use Rattle.gb_script.specs.Tree.{Tree, trees_of, links_of, tree_size, root_size}
use Rattle.gb_script.specs.Tree.{trees_size, link_size, links_size}
use Rattle.gb_script.specs.View.{tree_of, root_of, link_of}

trees_fall : (trees : List Tree) → most (λ t. tree_size t + 1) trees ≤ trees_size (trees_of trees) + 1
trees_fall [] = omega arith
trees_fall (t ∷ ts) = omega (arith, trees_fall ts)

source_falls : (s : Source) → deep-Source s ≤ root_size (root_of s) + 1
source_falls (sources.Text t) = omega arith
source_falls (sources.Flag b) = omega arith
source_falls (sources.List es) = omega (arith, trees_fall es.items)
source_falls (sources.Property w) = omega arith
source_falls (sources.Dir t) = omega arith
source_falls (sources.File t) = omega arith
source_falls sources.BuildDir = omega arith
source_falls (sources.GradleProperty t) = omega arith
source_falls (sources.Task t) = omega arith

step_falls : (s : Step) → deep-Step s ≤ link_size (link_of s) + 1
step_falls (steps.Map f) = omega arith
step_falls (steps.FlatMap f) = omega arith
step_falls (steps.Zip e f) = omega arith
step_falls (steps.OrElse e) = omega arith

steps_fall : (ss : List Step) → most deep-Step ss ≤ links_size (links_of (map link_of ss)) + 1
steps_fall [] = omega arith
steps_fall (s ∷ ss) = omega (arith, step_falls s, steps_fall ss)

pub falls : (e : Inside) → deep-Expression e ≤ tree_size (tree_of e.source e.steps.items)
falls e = omega (arith, source_falls e.source, steps_fall e.steps.items)
