-- The nodes of a task's expressions, in parts.
use Rattle.std.specs.Prelude.{ℕ, ◌≡◌, All, List, ◌++◌, length, map, true, Option, Result}
use Rattle.std.specs.List.{flat_map}
use Rattle.std.specs.Option.{option_to_list}
use Rattle.gb_provider.specs.Meanings.{Meanings}
use Rattle.gb_provider.specs.declared.expression.Expression.{Expression}
use Rattle.gb_provider.specs.declared.expression.Node.{Node}
use Rattle.gb_registry.specs.Projects.{Path}
use Rattle.gb_registry.specs.References.{Names}
use Rattle.gb_registry.specs.Said.{Registered}
use Rattle.gb_registry.specs.Source.{Source}
use Rattle.gb_registry.specs.Tables.{Tables}
use Rattle.gb_report.specs.declared.fault.Fault.{Fault}
use Rattle.gb_script.specs.declared.script.InputFiles.{InputFiles}
use Rattle.gb_tree.specs.Pattern.{is_pattern}
use Rattle.gb_declare.specs.Joined.{Joined, Named}
use Rattle.gb_declare.specs.Realised.{Trouble}
use Rattle.gb_project.specs.Over.{IsOver, Reports}
use Rattle.gb_project.specs.Rows.{AreFor, AreWithin, HaveValues}
use Rattle.gb_project.specs.declared.parts.Parts.{Parts}

-- all parts in the order in which they are evaluated
abbrev pub row_of : Parts → List Node
row_of parts =
    parts.enabled.now ++ (parts.only_if.now ++ parts.up_to_date_when.now) ++ parts.values.now
    ++ parts.roots.now ++ parts.outputs.now ++ parts.arguments.now

-- As many nodes as a task has expressions, in each part.
pub record AreCounted (task : Joined) (parts : Parts) : Type 0 where
  pub enabled : length parts.enabled.now ≡ length (option_to_list task.enabled)
  pub only_if : length parts.only_if.now ≡ length task.only_if
  pub up_to_date_when : length parts.up_to_date_when.now ≡ length task.up_to_date_when
  pub values : length parts.values.now ≡ length task.values
  pub roots : length parts.roots.now ≡ length (flat_map (λ files. files.1.from) task.files)
  pub outputs : length parts.outputs.now ≡ length task.outputs
  pub arguments : length parts.arguments.now ≡ length (flat_map (λ call. call.arguments) task.actions)

-- Nodes of a table, in each part.
pub record AreAllWithin {M F Z : Type 0} (nodes : List (Expression M F Z)) (parts : Parts) : Type 0 where
  pub enabled : AreWithin nodes parts.enabled.now
  pub only_if : AreWithin nodes parts.only_if.now
  pub up_to_date_when : AreWithin nodes parts.up_to_date_when.now
  pub values : AreWithin nodes parts.values.now
  pub roots : AreWithin nodes parts.roots.now
  pub outputs : AreWithin nodes parts.outputs.now
  pub arguments : AreWithin nodes parts.arguments.now

-- Nodes with values where a declaration requires them to have values.
pub record HaveAllValues {M F Z S : Type 0} (means : Meanings M F Z S) (nodes : List (Expression M F Z))
    (parts : Parts) : Type 0 where
  pub values : HaveValues means nodes parts.values.now
  pub roots : HaveValues means nodes parts.roots.now
  pub arguments : HaveValues means nodes parts.arguments.now

-- Nodes that represent the expressions of a task of a project, in each part.
pub record AreAllFor {M F Z S A : Type 0} (tables : Tables M F Z S A) (source : Source) (number : ℕ → ℕ)
    (project : Path) (task : Joined) (parts : Parts) : Type 0 where
  pub enabled : AreFor tables source number project parts.enabled.now (option_to_list task.enabled)
  pub only_if : AreFor tables source number project parts.only_if.now (map (λ one. one.value) task.only_if)
  pub up_to_date_when : AreFor tables source number project parts.up_to_date_when.now
      (map (λ one. one.value) task.up_to_date_when)
  pub values : AreFor tables source number project parts.values.now (map (λ value. value.1) task.values)
  pub roots : AreFor tables source number project parts.roots.now
      (flat_map (λ files. files.1.from) task.files)
  pub outputs : AreFor tables source number project parts.outputs.now
      (map (λ output. output.1.1) task.outputs)
  pub arguments : AreFor tables source number project parts.arguments.now
      (flat_map (λ call. call.arguments) task.actions)

-- The result matches the expected one for a task as given, as in `ReportsOf`, by the parts of its row.
abbrev pub ReportsOfParts : {M F Z S A X : Type 0} → Tables M F Z S A → Names → List (Option Fault)
    → List (Expression M F Z) → (Registered → Type 0) → Joined → Parts
    → (Source → Registered → Result X Trouble) → Result X Fault → Type 0
ReportsOfParts tables names why nodes IsSaid task parts expected reported =
    (source : Source) (number : ℕ → ℕ) → IsOver tables source names why nodes number
    → (at : Registered) → IsSaid at → AreAllFor tables source number at.project task parts
    → Reports tables source (expected source at) reported

-- All texts that must be patterns are patterns.
pub record HasPatterns (files : InputFiles) : Type 0 where
  pub include : All (λ text. is_pattern text ≡ true) files.include
  pub exclude : All (λ text. is_pattern text ≡ true) files.exclude

abbrev pub HavePatterns : List (Named InputFiles) → Type 0
HavePatterns files = All (λ property. HasPatterns property.1) files
