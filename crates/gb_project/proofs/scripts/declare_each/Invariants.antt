use Rattle.std.proofs.Common.{◌≡◌, ◌≤◌, length, drop}
use Rattle.std.specs.List.{AllByRecursion}
use Rattle.std.specs.Prelude.{filter_map, fold}
use Rattle.gb_registry.specs.Tables.{tables_of}
use Rattle.gb_declare.specs.Site.{site_of}
use Rattle.gb_project.specs.Stage.{IsGood, declared_in, with_script, with_task}
use Rattle.gb_project.specs.Steps.{Begins, task_paths}
use Rattle.gb_project.specs.Tasks.{registered_in}
use Rattle.gb_project.specs.Views.{stage_of}
use Rattle.gb_project.proofs.scripts.declare_each.Given as goal

abbrev pub invariant-loop-statement : goal.invariant-loop-statement
invariant-loop-statement g l =
    let tables = tables_of g.T.Transforms.meanings g.A.Actions.meanings l.tables in
    let script = l.script.scripted.now.script in
    let project = l.script.scripted.now.project in
    let tasks = filter_map (registered_in project script) (drop l.statement-index l.statement-items) in
    record {
      all : l.statement-items ≡ script;
      table : l.providers.table ≡ l.initial.providers.table;
      staged :
          with_script tables l.names (site_of l.site) (stage_of l.initial.providers.nodes l.initial.declared) (project, script)
          ≡ fold (with_task tables l.names (site_of l.site) script) (stage_of l.providers.nodes l.declared) tasks;
      grown : length l.initial.providers.nodes ≤ length l.providers.nodes;
      good : AllByRecursion (λ task. IsGood tables l.names (site_of l.site) (declared_in tables l.names script task)) tasks;
      next : Begins (task_paths tasks) (drop (length l.declared.faults.items) l.script.paths.now);
    }
