-- Values of `-P` that nothing reads.
use Rattle.std.specs.Prelude.{◌||◌, Bool, false, not, List, [], ◌∷◌, Option, Some, None, bytes_eq}
use Rattle.std.specs.Prelude.{if◌then◌else◌}
use Rattle.std.specs.List.{flat_map, list_any}
use Rattle.gb_check.specs.declared.findings.Problem.TheVariants as problems
use Rattle.gb_check.specs.declared.findings.Finding.{Finding}
use Rattle.gb_check.specs.declared.findings.Spot.TheVariants as spots
use Rattle.gb_folder.specs.Files.{is_empty}
use Rattle.gb_plan.specs.Task.{Path, Text}
use Rattle.gb_registry.specs.Wrong.{found_in}
use Rattle.gb_report.specs.declared.fault.Fault.{Fault}
use Rattle.gb_report.specs.declared.fault.Fault.TheVariants as faults
use Rattle.gb_script.specs.Tree.{GradlePropertyOf, Link, Root, Tree}
use Rattle.gb_script.specs.declared.script.Call.{Call}
use Rattle.gb_script.specs.declared.script.Clause.{Clause}
use Rattle.gb_script.specs.declared.script.Clause.TheVariants as clauses
use Rattle.gb_script.specs.declared.script.Statement.{Statement}
use Rattle.gb_script.specs.declared.script.Statement.TheVariants as statements

-- a fault as a mark for each `gradleProperty(..)` with this name, and none for anything else
abbrev pub marks_at : Text → Root → List Fault
marks_at name (GradlePropertyOf text) = if bytes_eq text name then faults.NoTasks ∷ [] else []
marks_at name other = []

abbrev pub no_marks : Link → List Fault
no_marks link = []

-- the expression has `gradleProperty` with this name, at any depth
abbrev pub is_read_in : Text → Tree → Bool
is_read_in name tree = not (is_empty (found_in (marks_at name) no_marks tree))

-- the expressions of a clause
abbrev pub trees_in : Clause → List Tree
trees_in (clauses.Input a) = a.value ∷ []
trees_in (clauses.InputFiles f) = f.from
trees_in (clauses.OutputFile a) = a.value ∷ []
trees_in (clauses.OutputDir a) = a.value ∷ []
trees_in (clauses.DependsOn tasks) = []
trees_in (clauses.MustRunAfter tasks) = []
trees_in (clauses.FinalizedBy tasks) = []
trees_in (clauses.DoFirst call) = call.arguments
trees_in (clauses.DoLast call) = call.arguments
trees_in (clauses.OnlyIf c) = c.value ∷ []
trees_in (clauses.UpToDateWhen c) = c.value ∷ []
trees_in (clauses.Enabled value) = value ∷ []

abbrev pub is_read_by_clause : Text → Clause → Bool
is_read_by_clause name clause = list_any (is_read_in name) (trees_in clause)

abbrev pub is_read_by_call : Text → Option Call → Bool
is_read_by_call name (Some call) = list_any (is_read_in name) call.arguments
is_read_by_call name None = false

abbrev pub is_read_by : Text → Statement → Bool
is_read_by name (statements.DefaultTasks tasks) = false
is_read_by name (statements.Property property) = false
is_read_by name (statements.Set a) = is_read_in name a.value
is_read_by name (statements.Convention a) = is_read_in name a.value
is_read_by name (statements.Unset property) = false
is_read_by name (statements.DisallowChanges property) = false
is_read_by name (statements.Register r) =
    is_read_by_call name r.action || list_any (is_read_by_clause name) r.block
is_read_by name (statements.Named c) = list_any (is_read_by_clause name) c.block

-- some statement of some script has `gradleProperty` with this name
abbrev pub is_read : List (Path × List Statement) → Text → Bool
is_read scripts name = list_any (λ script. list_any (is_read_by name) script.1) scripts

abbrev pub unread : Text → Finding
unread name = record { spot = spots.Value name; cause = problems.Unread }

abbrev pub unread_value : List (Path × List Statement) → Text × Text → List Finding
unread_value scripts given = if is_read scripts given.0 then [] else unread given.0 ∷ []

-- the values that nothing reads, in the order in which they are given
abbrev pub unread_values : List (Path × List Statement) → List (Text × Text) → List Finding
unread_values scripts given = flat_map (unread_value scripts) given
