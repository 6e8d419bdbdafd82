-- What arguments select.
use Rattle.std.specs.Prelude.{ℕ, ◌==◌, Option, None, Some, Bool, List, [], ◌∷◌, filter, fold, if◌then◌else◌}
use Rattle.std.specs.Prelude.{bytes_eq}
use Rattle.std.specs.List.{list_any}
use Rattle.gb_core.specs.Name.{is_name}
use Rattle.gb_core.specs.Path.{task_name}
use Rattle.gb_core.specs.Tasks.{with_tasks}
use Rattle.gb_script.specs.declared.script.Statement.{Statement}
use Rattle.gb_script.specs.declared.script.Statement.TheVariants as statements
use Rattle.gb_report.specs.declared.fault.Fault.{Fault}
use Rattle.gb_report.specs.declared.fault.Fault.TheVariants as faults
use Rattle.gb_registry.specs.Projects.{Path, absolute, root_path}
use Rattle.gb_registry.specs.References.{Names, reference_faults}
use Rattle.gb_registry.specs.Said.{Said, script_of}

-- the texts of the last `defaultTasks` of the root's script
abbrev pub defaults_after : List (List ℕ) → Statement → List (List ℕ)
defaults_after before (statements.DefaultTasks texts) = texts
defaults_after before other = before

abbrev pub texts_or_none : Option (List (List ℕ)) → List (List ℕ)
texts_or_none None = []
texts_or_none (Some texts) = texts

abbrev pub default_tasks : List Said → List (List ℕ)
default_tasks said = fold defaults_after [] (script_of said root_path)

-- an argument with a colon names one task, relative to the root; one without names all tasks of that name, in
-- any project
abbrev pub is_path : List ℕ → Bool
is_path word = list_any (λ b. b == 58) word

abbrev pub tasks_named : Names → List ℕ → List Path
tasks_named names word = with_tasks [] (filter (λ path. bytes_eq (task_name path) word) names.tasks)

-- the tasks that an argument selects, by their paths
abbrev pub selected : Names → List ℕ → List Path
selected names word = if is_path word then absolute root_path word ∷ [] else tasks_named names word

-- no task has the name
abbrev pub none_faults : List ℕ → List Path → List Fault
none_faults word [] = faults.TaskNotFound word ∷ []
none_faults word (task ∷ tasks) = []

-- why an argument without a colon selects nothing
abbrev pub name_word_faults : Names → List ℕ → List Fault
name_word_faults names word =
    if is_name word then none_faults word (tasks_named names word) else faults.BadName word ∷ []

-- why an argument selects nothing
abbrev pub word_faults : Names → List ℕ → List Fault
word_faults names word =
    if is_path word then reference_faults names root_path word else name_word_faults names word
