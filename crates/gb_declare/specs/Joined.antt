-- The combined clauses of a task. Their expressions are not yet evaluated.
use Rattle.std.specs.Prelude.{ℕ, List, [], ◌∷◌, ◌++◌, fold, filter_map, reverse, Option, Some, None}
use Rattle.std.specs.Option.{option_to_list}
use Rattle.std.specs.List.{flat_map, last_or}
use Rattle.std.specs.FinMap.Entries.{put}
use Rattle.gb_action.specs.declared.output_files.Form.{Form}
use Rattle.gb_action.specs.declared.output_files.Form.TheVariants.{File, Dir}
use Rattle.gb_core.specs.Tasks.{with_tasks}
use Rattle.gb_core.specs.Lists.{byte_order}
use Rattle.gb_script.specs.Tree.{Tree}
use Rattle.gb_script.specs.declared.script.Call.{Call}
use Rattle.gb_script.specs.declared.script.Condition.{Condition}
use Rattle.gb_script.specs.declared.script.InputFiles.{InputFiles}
use Rattle.gb_script.specs.declared.script.Clause.{Clause}
use Rattle.gb_script.specs.declared.script.Clause.TheVariants as clauses
use Rattle.gb_registry.specs.Projects.{Path, absolute}
use Rattle.gb_registry.specs.Said.{Registered}

-- something under a name
abbrev pub Named : Type 0 → Type 0
Named X = List ℕ × X

-- an output: its form, and the expression of its place
abbrev pub Made : Type 0
Made = Form × Tree

-- Each name once, with the last of its entries, in the order of the names.
abbrev pub by_name : {X : Type 0} → List (Named X) → List (Named X)
by_name entries = fold (λ there entry. put byte_order entry.0 entry.1 there) [] entries

-- ---- The contents of one clause

abbrev pub value_in : Clause → Option (Named Tree)
value_in (clauses.Input a) = Some (a.name, a.value)
value_in other = None

abbrev pub files_in : Clause → Option (Named InputFiles)
files_in (clauses.InputFiles files) = Some (files.name, files)
files_in other = None

abbrev pub output_in : Clause → Option (Named Made)
output_in (clauses.OutputFile a) = Some (a.name, (File, a.value))
output_in (clauses.OutputDir a) = Some (a.name, (Dir, a.value))
output_in other = None

abbrev pub first_in : Clause → Option Call
first_in (clauses.DoFirst call) = Some call
first_in other = None

abbrev pub last_in : Clause → Option Call
last_in (clauses.DoLast call) = Some call
last_in other = None

abbrev pub only_if_in : Clause → Option Condition
only_if_in (clauses.OnlyIf condition) = Some condition
only_if_in other = None

abbrev pub up_to_date_when_in : Clause → Option Condition
up_to_date_when_in (clauses.UpToDateWhen condition) = Some condition
up_to_date_when_in other = None

abbrev pub enabled_in : Clause → Option Tree
enabled_in (clauses.Enabled tree) = Some tree
enabled_in other = None

abbrev pub depends_on_in : Clause → List (List ℕ)
depends_on_in (clauses.DependsOn texts) = texts
depends_on_in other = []

abbrev pub must_run_after_in : Clause → List (List ℕ)
must_run_after_in (clauses.MustRunAfter texts) = texts
must_run_after_in other = []

abbrev pub finalized_by_in : Clause → List (List ℕ)
finalized_by_in (clauses.FinalizedBy texts) = texts
finalized_by_in other = []

-- ---- The contents of all clauses

-- A later entry of a name replaces an earlier one, and the last `enabled` applies. All else accumulates:
-- actions of `doFirst` come before earlier ones and before the action of the kind, actions of `doLast` after
-- them; tasks are sorted by their paths.
pub record Joined : Type 0 where
  pub enabled : Option Tree
  pub only_if : List Condition
  pub up_to_date_when : List Condition
  pub values : List (Named Tree)
  pub files : List (Named InputFiles)
  pub outputs : List (Named Made)
  pub actions : List Call
  pub depends_on : List Path
  pub must_run_after : List Path
  pub finalizers : List Path

-- the tasks that texts in a project name
abbrev pub tasks_in : Path → List (List ℕ) → List Path
tasks_in project texts = with_tasks [] (flat_map (λ text. absolute project text ∷ []) texts)

abbrev pub joined : Registered → Joined
joined task = record {
  enabled = last_or None (filter_map enabled_in task.clauses);
  only_if = filter_map only_if_in task.clauses;
  up_to_date_when = filter_map up_to_date_when_in task.clauses;
  values = by_name (filter_map value_in task.clauses);
  files = by_name (filter_map files_in task.clauses);
  outputs = by_name (filter_map output_in task.clauses);
  actions =
      reverse (filter_map first_in task.clauses) ++ option_to_list task.action
      ++ filter_map last_in task.clauses;
  depends_on = tasks_in task.project (flat_map depends_on_in task.clauses);
  must_run_after = tasks_in task.project (flat_map must_run_after_in task.clauses);
  finalizers = tasks_in task.project (flat_map finalized_by_in task.clauses);
}

-- ---- How it is read, clause by clause

-- these actions with the action that a clause adds first or last
abbrev pub with_action : Clause → List Call → List Call
with_action (clauses.DoFirst call) actions = call ∷ actions
with_action (clauses.DoLast call) actions = actions ++ call ∷ []
with_action other actions = actions

-- these tasks with those that texts in a project name
abbrev pub with_named : Path → List Path → List (List ℕ) → List Path
with_named project there texts = with_tasks there (flat_map (λ text. absolute project text ∷ []) texts)
