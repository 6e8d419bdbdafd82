-- Why scripts are refused before any task is declared.
use Rattle.std.specs.Prelude.{ℕ, Bool, false, List, [], ◌∷◌, ◌++◌, filter_map, length, if◌then◌else◌}
use Rattle.std.specs.Prelude.{bytes_eq, nat_le}
use Rattle.std.specs.List.{flat_map, list_any}
use Rattle.gb_script.specs.Tree.{Tree, Root, TaskOf, Link}
use Rattle.gb_script.specs.declared.script.Statement.{Statement}
use Rattle.gb_script.specs.declared.script.Statement.TheVariants as statements
use Rattle.gb_report.specs.declared.fault.Fault.{Fault}
use Rattle.gb_report.specs.declared.fault.Fault.TheVariants as faults
use Rattle.gb_report.specs.declared.fault.Limited.TheVariants as limited
use Rattle.gb_registry.specs.Projects.{Path, is_among}
use Rattle.gb_core.specs.Path.{task_in}
use Rattle.gb_registry.specs.References.{Names, name_faults, lookup_faults}
use Rattle.gb_registry.specs.Said.{Said, script_of, properties_of, declared_property, paths_of}
use Rattle.gb_registry.specs.Source.{Source}
use Rattle.gb_registry.specs.Tables.{Tables}
use Rattle.gb_registry.specs.Wrong.{Scope, tree_faults, property_faults, found_in}

-- what is found at each of a row, given the ones before it
abbrev pub each_after : {A B : Type 0} → (List A → A → List B) → List A → List A → List B
each_after f before [] = []
each_after f before (x ∷ xs) = f before x ++ each_after f (before ++ x ∷ []) xs

-- the statement makes the property final
abbrev pub finalizes : List ℕ → Statement → Bool
finalizes name (statements.DisallowChanges w) = bytes_eq name w
finalizes name other = false

-- `set`, `convention` and `unset` require a property that is declared earlier and is not final
abbrev pub change_faults : List Statement → List ℕ → List Fault
change_faults before name =
    property_faults (filter_map declared_property before) name
    ++ (if list_any (finalizes name) before then faults.Final name ∷ [] else [])

-- in a statement a property is known where it was declared earlier; whether a task exists is checked later
abbrev pub statement_scope : List Said → Path → Scope
statement_scope before project =
    record { project = project; properties = properties_of before project; task_faults = name_faults project }

-- at most 1,024 properties, and 4,096 tasks
abbrev pub new_property_faults : List Said → Path → List ℕ → List Fault
new_property_faults before project name =
    if is_among (properties_of before project) name then faults.DuplicateProperty name ∷ []
    else (if nat_le 1024 (length (filter_map (λ s. declared_property s.statement) before))
    then faults.TooMany limited.Properties ∷ [] else [])

abbrev pub new_task_faults : List Said → Path → List Fault
new_task_faults before path =
    if is_among (paths_of before) path then faults.DuplicateTask path ∷ []
    else (if nat_le 4096 (length (paths_of before)) then faults.TooMany limited.Tasks ∷ [] else [])

module _ {M F Z S A : Type 0} (tables : Tables M F Z S A) where
  -- the faults of a statement after these statements
  abbrev pub statement_faults : List Said → Said → List Fault
  statement_faults before s = in_statement s.statement
    where
      own : List Statement
      own = script_of before s.project

      value_faults : Tree → List Fault
      value_faults tree = tree_faults tables (statement_scope before s.project) tree

      in_statement : Statement → List Fault
      in_statement (statements.DefaultTasks texts) = []
      in_statement (statements.Property name) = new_property_faults before s.project name
      in_statement (statements.Set a) = change_faults own a.name ++ value_faults a.value
      in_statement (statements.Convention a) = change_faults own a.name ++ value_faults a.value
      in_statement (statements.Unset name) = change_faults own name
      in_statement (statements.DisallowChanges name) = property_faults (filter_map declared_property own) name
      in_statement (statements.Register r) = new_task_faults before (task_in s.project r.name)
      in_statement (statements.Named c) =
          if is_among (paths_of before) (task_in s.project c.name) then []
          else faults.TaskNotFound c.name ∷ []

-- the expressions of statements
abbrev pub values_of : Statement → List Tree
values_of (statements.Set a) = a.value ∷ []
values_of (statements.Convention a) = a.value ∷ []
values_of other = []

-- the missing task, if a source names one
abbrev pub missing_at_root : Names → Path → Root → List Fault
missing_at_root names project (TaskOf text) = lookup_faults names project text
missing_at_root names project other = []

abbrev pub missing_at_link : Link → List Fault
missing_at_link link = []

abbrev pub statement_missing : Names → Path → Statement → List Fault
statement_missing names project statement =
    flat_map (found_in (missing_at_root names project) missing_at_link) (values_of statement)

abbrev pub script_missing : Names → Path × List Statement → List Fault
script_missing names script = flat_map (statement_missing names script.0) script.1

-- the missing tasks that a statement names: they are looked up after all scripts
abbrev pub missing_tasks : Names → Said → List Fault
missing_tasks names s = statement_missing names s.project s.statement

-- all faults of scripts, in the order in which they are reported
abbrev pub configure_faults : {M F Z S A : Type 0} → Tables M F Z S A → Source → List Fault
configure_faults tables source =
    each_after (statement_faults tables) [] source.said ++ flat_map (missing_tasks source.names) source.said
