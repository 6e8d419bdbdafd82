-- What the parts of an expression denote.
use Rattle.std.specs.Prelude.{List, map}
use Rattle.gb_script.specs.declared.script_expression.Source.{Source}
use Rattle.gb_script.specs.declared.script_expression.Source.TheVariants as sources
use Rattle.gb_script.specs.declared.script_expression.Step.{Step}
use Rattle.gb_script.specs.declared.script_expression.Step.TheVariants.{Map, FlatMap, Zip, OrElse}
use Rattle.gb_script.specs.Tree.{Tree, Chain, Root, TextOf, FlagOf, ListOf, PropertyOf, DirOf, FileOf}
use Rattle.gb_script.specs.Tree.{TheBuildDir, GradlePropertyOf, TaskOf, Link, MapBy, FlatMapBy, ZipBy}
use Rattle.gb_script.specs.Tree.{Else, trees_of, links_of}

abbrev pub root_of : Source → Root
root_of (sources.Text t) = TextOf t
root_of (sources.Flag b) = FlagOf b
root_of (sources.List es) = ListOf (trees_of es.items)
root_of (sources.Property w) = PropertyOf w
root_of (sources.Dir t) = DirOf t
root_of (sources.File t) = FileOf t
root_of sources.BuildDir = TheBuildDir
root_of (sources.GradleProperty t) = GradlePropertyOf t
root_of (sources.Task t) = TaskOf t

abbrev pub link_of : Step → Link
link_of (Map f) = MapBy f
link_of (FlatMap f) = FlatMapBy f
link_of (Zip e f) = ZipBy e f
link_of (OrElse e) = Else e

abbrev pub tree_of : Source → List Step → Tree
tree_of source steps = Chain (root_of source) (links_of (map link_of steps))
