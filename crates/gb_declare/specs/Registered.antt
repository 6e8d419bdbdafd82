-- The tasks that scripts register, each with its result.
use Rattle.std.specs.Prelude.{map, Result, Ok, Err}
use Rattle.gb_plan.specs.Graph.{Registry}
use Rattle.gb_plan.specs.Task.{Path}
use Rattle.gb_plan.specs.declared.task.TaskDeclaration.{TaskDeclaration}
use Rattle.gb_report.specs.declared.fault.Fault.{Fault}
use Rattle.gb_registry.specs.Said.{paths_of}
use Rattle.gb_registry.specs.Select.{default_tasks}
use Rattle.gb_registry.specs.Source.{Source}
use Rattle.gb_registry.specs.Tables.{Tables}
use Rattle.gb_declare.specs.Realised.{Trouble, Plain, Endless, realised}
use Rattle.gb_declare.specs.Reported.{reported_circle}

module _ {M F Z S A : Type 0} (tables : Tables M F Z S A) (source : Source) where
  -- the declaration, or the fault that reports its trouble
  abbrev pub settled : Result TaskDeclaration Trouble → Result TaskDeclaration Fault
  settled (Ok task) = Ok task
  settled (Err (Plain fault)) = Err fault
  settled (Err (Endless entry)) = Err (reported_circle tables source entry)

  -- what the task at a path declares, or its first fault
  abbrev pub declaration_of : Path → Result TaskDeclaration Fault
  declaration_of path = settled (realised tables source path)

  -- All tasks of the scripts, in the order in which they are registered, each with its result.
  abbrev pub registry_said : Registry
  registry_said = record {
    projects = source.names.projects;
    tasks = map (λ path. (path, declaration_of path)) (paths_of source.said);
    default_tasks = default_tasks source.said;
  }
