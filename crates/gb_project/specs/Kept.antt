-- All tasks of the scripts are declared, and everything that they declare is in the whole table.
use Rattle.std.specs.Prelude.{◌≡◌, ℕ, ◌<◌, List, [], ◌∷◌, length, map, Option, Some, None, Ok, Err}
use Rattle.std.specs.List.{AllByRecursion}
use Rattle.gb_declare.specs.Declaring.{declared}
use Rattle.gb_declare.specs.Joined.{Named}
use Rattle.gb_declare.specs.Whole.{build_folder, trees_of}
use Rattle.gb_project.specs.Parts.{HavePatterns}
use Rattle.gb_declare.specs.Complete.{IsComplete, place_in_whole}
use Rattle.gb_declare.specs.NodesInTable.{AreSaid, scripts_made, sites_made}
use Rattle.gb_provider.specs.declared.expression.Expression.{Expression}
use Rattle.gb_registry.specs.Projects.{Path}
use Rattle.gb_registry.specs.Said.{Registered, tasks_of}
use Rattle.gb_registry.specs.Source.{Source}
use Rattle.gb_registry.specs.Tables.{Tables}
use Rattle.gb_report.specs.declared.fault.Fault.{Fault}
use Rattle.gb_script.specs.declared.script.Statement.{Statement}
use Rattle.gb_project.specs.Stage.{AreAllGood, DeclaredTask, Stage, begun, with_scripts}

module _ {M F Z S A : Type 0} (tables : Tables M F Z S A) (source : Source) where
  module _ (number : ℕ → ℕ) (nodes : List (Expression M F Z)) where
    -- The entry of a task is its declaration: the build folder of its project, and its expressions in a row,
    -- each by its number in the whole table; and its patterns are valid.
    pub record IsKept (at : Registered) (entry : DeclaredTask) : Type 0 where
      pub is_declared : declared tables source.names source.said at ≡ Ok entry.task
      pub build : entry.build ≡ build_folder at.project
      pub within : AllByRecursion (λ place. place < length nodes) entry.row
      pub numbers : map number entry.row ≡ map (place_in_whole tables source at.project) (trees_of entry.task)
      pub patterns : HavePatterns entry.task.files

    -- a declared task has its entry, and a task at fault has its fault
    abbrev pub IsKeptAs : Registered → Option Fault → Option DeclaredTask → Type 0
    IsKeptAs at None (Some entry) = IsKept at entry
    IsKeptAs at None None = ⊥
    IsKeptAs at (Some fault) (Some entry) = ⊥
    IsKeptAs at (Some fault) None = declared tables source.names source.said at ≡ Err fault

    -- the same for one task after another
    abbrev pub AreKept : List Registered → List (Option Fault) → List (Option DeclaredTask) → Type 0
    AreKept [] [] [] = Unit {0}
    AreKept (at ∷ tasks) (fault ∷ faults) (entry ∷ entries) =
        IsKeptAs at fault entry × AreKept tasks faults entries
    AreKept tasks faults entries = ⊥

  -- All registered tasks are kept, in expressions that contain everything that the scripts declare.
  pub record AreDeclared (stage : Stage M F Z) : Type 0 where
    pub number : ℕ → ℕ
    pub complete : IsComplete tables source number stage.nodes
    pub kept : AreKept number stage.nodes (tasks_of source.said) stage.faults stage.entries

  -- Scripts in which no statement is at fault register tasks that are declared in this way, after everything
  -- that the statements make of properties.
  abbrev pub TasksInTable : Type 0
  TasksInTable =
      (scripts : List (Path × List Statement)) (given : List (Named (List ℕ)))
      → AreSaid tables source scripts given
      → AreDeclared (with_scripts tables source.names
      (begun (scripts_made tables.functions given [] scripts))
      (sites_made tables.functions given [] scripts) scripts)

  -- The expressions of such tasks that are declared have no fault.
  abbrev pub TasksAreGood : Type 0
  TasksAreGood =
      (scripts : List (Path × List Statement)) (given : List (Named (List ℕ)))
      → AreSaid tables source scripts given
      → AreAllGood tables source.names (sites_made tables.functions given [] scripts) scripts
