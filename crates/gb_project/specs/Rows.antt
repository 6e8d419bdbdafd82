-- The results of a task's expressions, whose nodes are in a row.
use Rattle.std.specs.Prelude.{ℕ, ◌≡◌, ◌<◌, All, List, length, map, Option, Result}
use Rattle.gb_provider.specs.declared.expression.Expression.{Expression}
use Rattle.gb_provider.specs.declared.expression.Node.{Node}
use Rattle.gb_provider.specs.Meanings.{Meanings}
use Rattle.gb_report.specs.declared.fault.Fault.{Fault}
use Rattle.gb_script.specs.Tree.{Tree}
use Rattle.gb_registry.specs.Projects.{Path}
use Rattle.gb_registry.specs.References.{Names}
use Rattle.gb_registry.specs.Said.{Registered}
use Rattle.gb_registry.specs.Source.{Source}
use Rattle.gb_registry.specs.Tables.{Tables}
use Rattle.gb_declare.specs.Realised.{Trouble}
use Rattle.gb_declare.specs.Complete.{place_in_whole}
use Rattle.gb_project.specs.Given.{HasValue}
use Rattle.gb_project.specs.Over.{IsOver, Reports}

-- nodes of a table
abbrev pub AreWithin : {M F Z : Type 0} → List (Expression M F Z) → List Node → Type 0
AreWithin nodes row = All (λ node. node.number < length nodes) row

-- nodes that have values
abbrev pub HaveValues : {M F Z S : Type 0} → Meanings M F Z S → List (Expression M F Z) → List Node → Type 0
HaveValues means nodes row = All (λ node. HasValue means nodes node.number) row

-- the numbers of nodes
abbrev pub numbers_in : (ℕ → ℕ) → List Node → List ℕ
numbers_in number row = map (λ node. number node.number) row

-- nodes that represent these expressions of a project
abbrev pub AreFor : {M F Z S A : Type 0} → Tables M F Z S A → Source → (ℕ → ℕ) → Path → List Node → List Tree
    → Type 0
AreFor tables source number project row trees =
    numbers_in number row ≡ map (place_in_whole tables source project) trees

-- The result matches the expected one, in the sense of `Reports`, for a task as given, for any scripts and by
-- any numbers that fit these names, faults and expressions, where the nodes in the row represent these
-- expressions of the task.
abbrev pub ReportsOf : {M F Z S A X : Type 0} → Tables M F Z S A → Names → List (Option Fault)
    → List (Expression M F Z) → (Registered → Type 0) → List Node → List Tree
    → (Source → Registered → Result X Trouble) → Result X Fault → Type 0
ReportsOf tables names why nodes IsSaid row trees expected reported =
    (source : Source) (number : ℕ → ℕ) → IsOver tables source names why nodes number
    → (at : Registered) → IsSaid at → AreFor tables source number at.project row trees
    → Reports tables source (expected source at) reported

-- any task
abbrev pub Anywhere : Registered → Type 0
Anywhere at = Unit {0}

-- the task at a path
abbrev pub IsAt : Path → Registered → Type 0
IsAt path at = at.path ≡ path
