use Rattle.std.proofs.Common.{◌≡◌, ◌≤◌, length, drop}
use Rattle.std.specs.List.{AllByRecursion, flat_map}
use Rattle.gb_registry.specs.SoFar.{scripts_in}
use Rattle.gb_registry.specs.Tables.{tables_of}
use Rattle.gb_declare.specs.Site.{AreThere}
use Rattle.gb_project.specs.Stage.{AreAllGood, begun, with_scripts}
use Rattle.gb_project.specs.Steps.{Begins, laid_sites, task_paths}
use Rattle.gb_project.specs.Tasks.{script_tasks}
use Rattle.gb_project.specs.Views.{stage_of}
use Rattle.gb_project.proofs.scripts.declare_scripts.Given as goal

abbrev pub invariant-loop-scripted : goal.invariant-loop-scripted
invariant-loop-scripted g l =
    let tables = tables_of g.T.Transforms.meanings g.A.Actions.meanings l.tables in
    let left = scripts_in (drop l.scripted-index l.scripts) in
    let sites = laid_sites l.given.entries left l.rest in
    record {
      table : l.providers.table ≡ l.initial.providers.table;
      staged :
          with_scripts tables l.names (begun l.initial.providers.nodes) (laid_sites l.given.entries (scripts_in l.scripts) l.laid) (scripts_in l.scripts)
          ≡ with_scripts tables l.names (stage_of l.providers.nodes l.declared) sites left;
      grown : length l.initial.providers.nodes ≤ length l.providers.nodes;
      there : AllByRecursion (λ site. AreThere site (length l.providers.nodes)) sites;
      good : AreAllGood tables l.names sites left;
      next : Begins (task_paths (flat_map script_tasks left)) (drop (length l.declared.faults.items) l.paths);
    }
