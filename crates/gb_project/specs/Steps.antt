-- Tasks declared one after another, as the code declares them.
use Rattle.std.specs.Prelude.{◌≡◌, ℕ, ◌≤◌, List, [], ◌∷◌, ◌++◌, length, map, Option, Some, None, Result}
use Rattle.gb_declare.specs.Declaring.{faults_within, unless}
use Rattle.gb_declare.specs.Joined.{Joined, Named, joined}
use Rattle.gb_declare.specs.Scripts.{laid_site}
use Rattle.gb_declare.specs.Site.{Site}
use Rattle.gb_declare.specs.declared.script_nodes.Laid.{Laid}
use Rattle.gb_provider.specs.Answers.{Held}
use Rattle.gb_registry.specs.Projects.{Path}
use Rattle.gb_registry.specs.References.{Names}
use Rattle.gb_registry.specs.Said.{Registered}
use Rattle.gb_registry.specs.Tables.{Tables}
use Rattle.gb_registry.specs.Wrong.{Scope}
use Rattle.gb_report.specs.declared.fault.Fault.{Fault}
use Rattle.gb_script.specs.declared.script.Statement.{Statement}
use Rattle.gb_project.specs.Stage.{Stage, IsGood, declared_in, with_task}
use Rattle.gb_project.specs.Views.{stage_of}
use Rattle.gb_project.specs.declared.declared_task.Declared.{Declared}

-- the site of the expressions of each of these projects, once its script is laid
abbrev pub laid_sites : List (Named (List ℕ)) → List (Path × List Statement) → List Laid → List Site
laid_sites given [] laid = []
laid_sites given (script ∷ scripts) [] = []
laid_sites given (script ∷ scripts) (one ∷ laid) =
    laid_site script.0 one given ∷ laid_sites given scripts laid

-- the paths of tasks
abbrev pub task_paths : List Registered → List Path
task_paths tasks = map (λ task. task.path) tasks

-- these paths are the first of some
abbrev pub Begins : List Path → List Path → Type 0
Begins prefix paths = (rest : List Path) × (paths ≡ prefix ++ rest)

-- the path of the task, if there is one, is the first of some
abbrev pub IsNext : List Path → Option Registered → Type 0
IsNext paths None = Unit {0}
IsNext paths (Some task) = Begins (task.path ∷ []) paths

-- the effect of a call on providers and on the outcomes of tasks: the table of functions is unchanged, and
-- all expressions and tasks are these
pub record IsStaged {M F Z S : Type 0} (old new : Held M F Z S) (declared : Declared) (stage : Stage M F Z)
    : Type 0 where
  pub table : new.table ≡ old.table
  pub staged : stage_of new.nodes declared ≡ stage
  pub grown : length old.nodes ≤ length new.nodes

-- what a task declares at its position, or its first fault
abbrev pub declared_within : {M F Z S A : Type 0} → Tables M F Z S A → Scope → Registered
    → Result Joined Fault
declared_within tables scope task = unless (faults_within tables scope task) (joined task)

module _ {M F Z S A : Type 0} (tables : Tables M F Z S A) (names : Names) (site : Site)
    (script : List Statement) where
  -- a task more, if there is one
  abbrev pub with_any : Stage M F Z → Option Registered → Stage M F Z
  with_any stage None = stage
  with_any stage (Some task) = with_task tables names site script stage task

  -- the expressions of the task, if there is one and it is declared, have no fault
  abbrev pub IsAnyGood : Option Registered → Type 0
  IsAnyGood None = Unit {0}
  IsAnyGood (Some task) = IsGood tables names site (declared_in tables names script task)
