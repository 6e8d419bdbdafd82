-- The plan of a request: which tasks are scheduled, and in which order they run.
pub use Rattle.gb_core.specs.Lists.{no_repeats}
use Rattle.std.specs.Prelude.{ℕ, ◌≡◌, ◌<◌, Bool, true, false, not, ◌&&◌, ◌||◌, ◌==◌, ◌↔◌, List, [], ◌∷◌, ◌++◌}
use Rattle.std.specs.Prelude.{map, if◌then◌else◌, bytes_eq, nat_lt, nat_eq, codes, Option, Some, None, Result}
use Rattle.std.specs.Prelude.{Ok, Err, IsTrue, IfOk, slice_get}
use Rattle.std.specs.List.{list_any, list_all, flat_map, filter, starts_with}
use Rattle.std.specs.List.{AllByRecursion, join_by, slice_split}
use Rattle.std.specs.FinMap.Entries.{find}
use Rattle.std.specs.Ordering.{is_lt}
use Rattle.gb_core.specs.Lists.{byte_order}
use Rattle.gb_core.specs.Path.{project_of, task_name}
use Rattle.gb_core.specs.Place.{is_beneath, overlaps}
use Rattle.gb_core.specs.Tasks.{with_tasks}
use Rattle.gb_folder.specs.Files.{Place, is_empty}
use Rattle.gb_report.specs.declared.fault.Fault.{Fault}
use Rattle.gb_plan.specs.declared.plan.Planned.{Planned}
use Rattle.gb_plan.specs.declared.task.TaskDeclaration.{TaskDeclaration}
use Rattle.gb_plan.specs.Task.{Text, Path, has_path, roots_of, output_places, IsShaped}

-- ---- What the scripts register

-- The projects, and each registered task's declaration or its first fault, in the order of registration.
-- The default tasks are those of the root script.
pub record Registry : Type 0 where
  pub projects : List Path
  pub tasks : List (Path × Result TaskDeclaration Fault)
  pub default_tasks : List Text

abbrev pub paths_of : Registry → List Path
paths_of registry = map (λ entry. entry.0) registry.tasks

-- what is registered under a path, if a task is
abbrev pub declaration_at : Registry → Path → Option (Result TaskDeclaration Fault)
declaration_at registry path = find byte_order path registry.tasks

-- the names after the colons
abbrev pub names_of : Path → List Text
names_of path = filter (λ name. not (is_empty name)) (slice_split (λ byte. byte == 58) path)

-- the build folder of a project: `build` in the project's folder
abbrev pub build_folder : Path → Place
build_folder path = join_by (λ name. name) (codes "/") (names_of path ++ codes "build" ∷ [])

-- A task declared under a path: the path is its own, its project is registered and so are the tasks that it
-- needs and its finalizers. It has outputs only with actions, and they lie under the build folder of its
-- project.
pub record IsDeclared (registry : Registry) (path : Path) (task : TaskDeclaration) : Type 0 where
  pub own_path : task.path ≡ path
  pub in_project : IsTrue (has_path registry.projects (project_of path))
  pub registered : IsTrue (list_all (has_path (paths_of registry)) (task.needs ++ task.finalizers))
  pub shaped : IsShaped task
  pub in_build_folder :
      IsTrue (list_all (λ place. is_beneath place (build_folder (project_of path))) (output_places task))

-- what scripts register: each path once, and each declaration as `IsDeclared` requires
pub record IsRegistry (registry : Registry) : Type 0 where
  pub once : no_repeats (paths_of registry) ≡ true
  pub declared : AllByRecursion (λ entry. IfOk entry.1 (IsDeclared registry entry.0)) registry.tasks

-- ---- Requested names

-- the name with a colon in front
abbrev pub absolute : Text → Path
absolute word = if starts_with nat_eq word (codes ":") then word else codes ":" ++ word

-- A name without a colon selects all tasks of that name, one with a colon the task at that path.
abbrev pub selected_by : Registry → Text → List Path
selected_by registry word =
    with_tasks []
    (if list_any (λ byte. byte == 58) word then filter (bytes_eq (absolute word)) (paths_of registry)
    else filter (λ path. bytes_eq (task_name path) word) (paths_of registry))

-- the requested names: those given, or else the default tasks
abbrev pub words_of : Registry → List Text → List Text
words_of registry [] = registry.default_tasks
words_of registry (word ∷ words) = word ∷ words

-- ---- Which tasks are scheduled

-- What is reached from the starts by steps, without what is shut: the least set that holds the open starts
-- and is closed under open steps. Open means: not shut.
pub data Reached (starts : List Path) (steps : Path → List Path) (shut : Path → Bool) : Path → Type 0 where
  start : {path : Path} → IsTrue (has_path starts path) → shut path ≡ false → Reached starts steps shut path
  step : {from : Path} {path : Path} → Reached starts steps shut from → IsTrue (has_path (steps from) path)
      → shut path ≡ false → Reached starts steps shut path

-- what a declared task needs, and what finalizes it
abbrev pub brought_by : Option (Result TaskDeclaration Fault) → List Path
brought_by (Some (Ok task)) = task.needs ++ task.finalizers
brought_by (Some (Err fault)) = []
brought_by None = []

-- the tasks that the task at a path brings with it
abbrev pub brings : Registry → Path → List Path
brings registry path = with_tasks [] (brought_by (declaration_at registry path))

-- A request: the registry, the requested names, and the tasks that `-x` leaves out.
pub record Request : Type 0 where
  pub registry : Registry
  pub words : List Text
  pub excluded : List Path

abbrev pub leaves_out : Request → Path → Bool
leaves_out request path = has_path request.excluded path

-- what the requested names select, name by name
abbrev pub selected : Request → List Path
selected request = flat_map (selected_by request.registry) request.words

-- the selected tasks, what they need and what finalizes them, transitively; no task that is left out
abbrev pub IsScheduled : Request → Path → Type 0
IsScheduled request path = Reached (selected request) (brings request.registry) (leaves_out request) path

-- the requested name of this index reaches the task through scheduled tasks
abbrev pub WordReaches : Request → ℕ → Path → Type 0
WordReaches request index path =
    (word : Text) × (slice_get request.words index ≡ Some word)
    × Reached (selected_by request.registry word) (brings request.registry) (leaves_out request) path

-- the first requested name that reaches it has this index
pub record IsFirstWord (request : Request) (path : Path) (index : ℕ) : Type 0 where
  pub reaches : WordReaches request index path
  pub none_before : (i : ℕ) → i < index → ¬ WordReaches request i path

-- ---- The order

-- scheduled tasks, in the order in which they run
abbrev pub Plan : Type 0
Plan = List Planned

abbrev pub order : Plan → List Path
order plan = map (λ planned. planned.task.path) plan

abbrev pub is_scheduled_in : Plan → Path → Bool
is_scheduled_in plan path = has_path (order plan) path

-- the tasks that a task needs, restricted to the scheduled ones
abbrev pub needs_in : Plan → TaskDeclaration → List Path
needs_in plan task = filter (is_scheduled_in plan) task.needs

-- the tasks that a task finalizes
abbrev pub finalized_by : Plan → Path → List Path
finalized_by plan path = order (filter (λ planned. has_path planned.task.finalizers path) plan)

-- the tasks that a task must run after, restricted to the scheduled ones
abbrev pub orders_in : Plan → TaskDeclaration → List Path
orders_in plan task = filter (is_scheduled_in plan) task.must_run_after

-- the tasks that a task comes after: those it needs, those it finalizes, and those it must run after
abbrev pub after : Plan → TaskDeclaration → List Path
after plan task = needs_in plan task ++ finalized_by plan task.path ++ orders_in plan task

-- all tasks that this one comes after are placed already
abbrev pub is_ready : Plan → List Path → TaskDeclaration → Bool
is_ready plan existing task = list_all (has_path existing) (after plan task)

-- by the index of the first requested name that reaches it, then by path
abbrev pub precedes : Planned → Planned → Bool
precedes a b = nat_lt a.word b.word || ((a.word == b.word) && is_lt (byte_order a.task.path b.task.path))

-- In order while some task is ready: each task is the least of the ready ones that are not placed yet.
abbrev pub is_in_order : Plan → List Path → List Planned → Bool
is_in_order plan existing [] = true
is_in_order plan existing (next ∷ rest) =
    if is_ready plan existing next.task
    then list_all (λ other. precedes next other || not (is_ready plan existing other.task)) rest
    && is_in_order plan (existing ++ next.task.path ∷ []) rest
    else list_all (λ other. not (is_ready plan existing other.task)) rest

-- the tasks that never become ready
abbrev pub stuck : Plan → List Path → List Planned → List Planned
stuck plan existing [] = []
stuck plan existing (next ∷ rest) =
    if is_ready plan existing next.task then stuck plan (existing ++ next.task.path ∷ []) rest
    else next ∷ rest

-- the task is what is registered under its path
abbrev pub IsRegistered : Registry → TaskDeclaration → Type 0
IsRegistered registry task = declaration_at registry task.path ≡ Some (Ok task)

-- The scheduled tasks of a request, in their order while some task is ready.
pub record IsSchedule (request : Request) (plan : Plan) : Type 0 where
  pub scheduled : (path : Path) → IsTrue (is_scheduled_in plan path) ↔ IsScheduled request path
  pub declared : AllByRecursion (λ planned. IsRegistered request.registry planned.task) plan
  pub words : AllByRecursion (λ planned. IsFirstWord request planned.task.path planned.word) plan
  pub selection :
      AllByRecursion (λ planned. planned.is_selected ≡ has_path (selected request) planned.task.path) plan
  pub once : no_repeats (order plan) ≡ true
  pub in_order : is_in_order plan [] plan ≡ true

-- ---- Sound plans

-- what the tasks at a path come after
abbrev pub after_at : Plan → Path → List Path
after_at plan path =
    flat_map (λ planned. after plan planned.task) (filter (λ planned. bytes_eq planned.task.path path) plan)

-- the task comes after that at the path by a chain of tasks, each after the next
abbrev pub IsAfter : Plan → TaskDeclaration → Path → Type 0
IsAfter plan task path = Reached (after plan task) (after_at plan) (λ _. false) path

-- some root of the first task overlaps an output place of the second
abbrev pub reads_output_of : TaskDeclaration → TaskDeclaration → Bool
reads_output_of reader writer =
    list_any (λ root. list_any (overlaps root) (output_places writer)) (roots_of reader)

-- two of the places overlap
abbrev pub some_overlap : List Place → Bool
some_overlap [] = false
some_overlap (place ∷ places) = list_any (overlaps place) places || some_overlap places

-- the reader reads no output of the writer, or comes after it, or is the writer itself
abbrev pub IsReadInOrder : Plan → TaskDeclaration → TaskDeclaration → Type 0
IsReadInOrder plan reader writer =
    IsTrue (reads_output_of reader writer) → bytes_eq reader.path writer.path ≡ false
    → IsAfter plan reader writer.path

pub record IsSound (plan : Plan) : Type 0 where
  -- no output place overlaps another, of the same task or of another
  pub outputs_separate : some_overlap (flat_map (λ planned. output_places planned.task) plan) ≡ false
  -- no task reads its own output
  pub inputs_separate : AllByRecursion (λ planned. reads_output_of planned.task planned.task ≡ false) plan
  -- a task that reads an output comes after the output's task
  pub declared :
      AllByRecursion
      (λ reader. AllByRecursion (λ writer. IsReadInOrder plan reader.task writer.task) plan) plan

-- the plan of a request: it has all scheduled tasks, in order, and it is sound
pub record IsPlan (request : Request) (plan : Plan) : Type 0 where
  pub schedule : IsSchedule request plan
  pub all_ready : stuck plan [] plan ≡ []
  pub sound : IsSound plan
