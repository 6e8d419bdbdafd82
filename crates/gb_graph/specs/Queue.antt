-- The queue of tasks: how it grows, and what it requests.
use Rattle.std.specs.Prelude.{◌≡◌, Bool, ◌||◌, List, [], ◌∷◌, ◌++◌, map, if◌then◌else◌}
use Rattle.std.specs.List.{AllByRecursion}
use Rattle.gb_tree.specs.Property.{distinct}
use Rattle.gb_plan.specs.declared.task.TaskDeclaration.{TaskDeclaration}
use Rattle.gb_plan.specs.Task.{Path, has_path}
use Rattle.gb_plan.specs.Graph.{Registry, Request, IsRegistered, leaves_out, selected}
use Rattle.gb_plan.specs.Refusal.{Queued, open_of}

-- appends to the queue the paths that are not shut and not in the queue
abbrev pub added : (Path → Bool) → List Path → List Path → List Path
added shut queue [] = queue
added shut queue (path ∷ paths) =
    added shut (if shut path || has_path queue path then queue else queue ++ path ∷ []) paths

-- the request for this registry whose queue begins with these, where these paths are shut
pub record IsAsked (request : Request) (registry : Registry) (begin : List Path)
    (shut : Path → Bool) : Type 0 where
  pub of : request.registry ≡ registry
  pub begins : begin ≡ distinct (open_of request (selected request))
  pub shuts : (path : Path) → shut path ≡ leaves_out request path

abbrev pub paths_in : List TaskDeclaration → List Path
paths_in tasks = map (λ task. task.path) tasks

-- The queue so far: these tasks are declared, and the others wait.
pub record HasCome (registry : Registry) (begin : List Path) (shut : Path → Bool) (queue : List Path)
    (found : List TaskDeclaration) : Type 0 where
  pub waiting : List Path
  pub whole : queue ≡ paths_in found ++ waiting
  pub declared : AllByRecursion (IsRegistered registry) found
  pub queued : (request : Request) → IsAsked request registry begin shut
      → Queued request (paths_in found) waiting
