-- What arguments request, and the tasks of a queue by number.
use Rattle.std.specs.Prelude.{ℕ, ◌≡◌, ◌<◌, Bool, true, List, [], ◌∷◌, ◌++◌, if◌then◌else◌, map}
use Rattle.std.specs.Prelude.{length, slice_index, slice_index_or}
use Rattle.std.specs.List.{flat_map, AllByRecursion}
use Rattle.gb_plan.specs.declared.plan.Planned.{Planned}
use Rattle.gb_plan.specs.declared.task.TaskDeclaration.{TaskDeclaration}
use Rattle.gb_plan.specs.Task.{Text, Path, has_path}
use Rattle.gb_plan.specs.Graph.{Registry, Request, order, selected, selected_by, words_of, no_repeats}
use Rattle.gb_plan.specs.Graph.{is_scheduled_in, IsFirstWord, IsRegistered, IsScheduled}
use Rattle.gb_graph.specs.Queue.{added, paths_in}
use Rattle.gb_graph.specs.Ranked.{Numbers, numbers_in}

-- the request of these arguments, without the tasks that others select
abbrev pub asked : Registry → List Text → List Text → Request
asked registry requested excluded = record {
  registry = registry;
  words = words_of registry requested;
  excluded = flat_map (selected_by registry) excluded;
}

-- what an argument selects, or nothing where it is known
abbrev pub selected_once : Registry → Bool → Text → List Path
selected_once registry known word = if known then [] else selected_by registry word

-- what each argument selects, if it is neither among the arguments before nor earlier in this list
abbrev pub newly_selected : Registry → List Text → List Text → List (List Path)
newly_selected registry before [] = []
newly_selected registry before (word ∷ words) =
    selected_once registry (has_path before word) word ∷ newly_selected registry (before ++ word ∷ []) words

-- the concatenation of the lists
abbrev pub joined_paths : List (List Path) → List Path
joined_paths lists = flat_map (λ paths. paths) lists

-- for each task the numbers of the tasks that it needs and of its finalizers
abbrev pub brought_rows : Numbers → List TaskDeclaration → List (List ℕ)
brought_rows numbers tasks =
    map (λ task. numbers_in numbers task.needs ++ numbers_in numbers task.finalizers) tasks

-- the tasks with their arguments, and whether they are among the selected ones
pub record AreWorded (tasks : List TaskDeclaration) (words : List ℕ) (these : Path → Bool)
    (planned : List Planned) : Type 0 where
  pub same : map (λ (p : Planned). p.task) planned ≡ tasks
  pub worded : (k : ℕ) (d : Planned) → k < length planned
      → (slice_index_or planned k d).word ≡ slice_index words k
  pub selection :
      AllByRecursion (λ (p : Planned). p.is_selected ≡ these p.task.path) planned

-- The request asks this registry for the tasks of these lists, without those of the other lists. A repeated
-- task is not queued again.
pub record AsksFor (request : Request) (registry : Registry)
    (requested excluded : List (List Path)) : Type 0 where
  pub of : request.registry ≡ registry
  pub selects : (shut : Path → Bool)
      → added shut [] (joined_paths requested) ≡ added shut [] (selected request)
  pub leaves : (path : Path) → has_path (joined_paths excluded) path ≡ has_path request.excluded path

-- These are the declarations of the scheduled tasks, and the lists are what the arguments of the request
-- newly select.
pub record AreDone (request : Request) (tasks : List TaskDeclaration)
    (lists : List (List Path)) : Type 0 where
  pub declared : AllByRecursion (IsRegistered request.registry) tasks
  pub scheduled : (path : Path) → has_path (paths_in tasks) path ≡ true → IsScheduled request path
  pub back : (path : Path) → IsScheduled request path → has_path (paths_in tasks) path ≡ true
  pub selects : lists ≡ newly_selected request.registry [] request.words

-- The scheduled tasks of the request, in any order.
pub record AreScheduled (request : Request) (planned : List Planned) : Type 0 where
  pub scheduled : (path : Path) → is_scheduled_in planned path ≡ true → IsScheduled request path
  pub back : (path : Path) → IsScheduled request path → is_scheduled_in planned path ≡ true
  pub declared : AllByRecursion (λ (p : Planned). IsRegistered request.registry p.task) planned
  pub words : AllByRecursion (λ (p : Planned). IsFirstWord request p.task.path p.word) planned
  pub selection :
      AllByRecursion (λ (p : Planned). p.is_selected ≡ has_path (selected request) p.task.path) planned
  pub once : no_repeats (order planned) ≡ true
