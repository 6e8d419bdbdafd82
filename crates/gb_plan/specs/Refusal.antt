-- Why a request is refused before its first task.
use Rattle.std.specs.Prelude.{◌≡◌, Bool, true, false, not, ◌&&◌, ◌==◌, ◌⊎◌, List, [], ◌∷◌, ◌++◌, map}
use Rattle.std.specs.Prelude.{if◌then◌else◌, bytes_eq, Some, None, Result, Ok, Err, Contains}
use Rattle.std.specs.List.{list_any, list_all, flat_map, filter}
use Rattle.std.specs.Ordering.{is_lt, ordering_then}
use Rattle.gb_core.specs.Lists.{byte_order, first_of}
use Rattle.gb_core.specs.Path.{is_task_path, project_of}
use Rattle.gb_core.specs.Place.{overlaps}
use Rattle.gb_folder.specs.Files.{Place, is_empty}
use Rattle.gb_report.specs.declared.fault.Fault.{Fault}
use Rattle.gb_report.specs.declared.fault.Fault.TheVariants as faults
use Rattle.gb_tree.specs.Property.{distinct}
use Rattle.gb_plan.specs.declared.task.TaskDeclaration.{TaskDeclaration}
use Rattle.gb_plan.specs.Task.{Text, Path, has_path, roots_of, output_places}
use Rattle.gb_plan.specs.Graph.{Registry, declaration_at, Request, Plan, order, absolute, selected_by}
use Rattle.gb_plan.specs.Graph.{words_of, brings, leaves_out, selected, IsSchedule, after_at}
use Rattle.gb_plan.specs.Graph.{stuck, IsAfter, no_repeats}

-- ---- Requested names

-- the name has a colon, and names a project that does not exist
abbrev pub lacks_project : Registry → Text → Bool
lacks_project registry word =
    list_any (λ byte. byte == 58) word && not (has_path registry.projects (project_of (absolute word)))

-- the faults of a requested name: it is no path, its project does not exist, or it selects no task
abbrev pub word_faults : Registry → Text → List Fault
word_faults registry word =
    if not (is_task_path (absolute word)) then faults.BadName word ∷ []
    else if lacks_project registry word then faults.UnknownProject word ∷ []
    else if is_empty (selected_by registry word) then faults.TaskNotFound word ∷ [] else []

-- The request, or the first fault of the names: no name at all, then requested names, then excluded ones.
abbrev pub request_of : Registry → List Text → List Text → Result Request Fault
request_of registry requested excluded = checked (words_of registry requested)
  where
    checked : List Text → Result Request Fault
    checked words =
        if is_empty words then Err faults.NoTasks
        else elim (first_of (flat_map (word_faults registry) (words ++ excluded))) [
          | None ↦ Ok (record {
            registry = registry;
            words = words;
            excluded = flat_map (selected_by registry) excluded;
          })
          | Some fault ↦ Err fault
        ]

-- ---- Declarations

-- those of the tasks that are not left out
abbrev pub open_of : Request → List Path → List Path
open_of request paths = filter (λ path. not (leaves_out request path)) paths

-- what the task at a path brings, and is neither done nor waiting
abbrev pub newly_brought : Request → Path → List Path → List Path
newly_brought request path known =
    filter (λ next. not (has_path known next)) (open_of request (brings request.registry path))

-- The states of the queue of tasks: those that are done, and those that wait. It begins with the selected
-- ones; the first that waits is done next, and what it newly brings is appended to those that wait.
pub data Queued (request : Request) : List Path → List Path → Type 0 where
  begins : Queued request [] (distinct (open_of request (selected request)))
  goes_on : {done : List Path} {path : Path} {waiting : List Path} {task : TaskDeclaration}
      → Queued request done (path ∷ waiting)
      → declaration_at request.registry path ≡ Some (Ok task)
      → Queued request (done ++ path ∷ []) (waiting ++ newly_brought request path (done ++ path ∷ waiting))

-- the fault is that of the first task of the queue that is at fault
pub record IsTaskFault (request : Request) (fault : Fault) : Type 0 where
  pub done : List Path
  pub path : Path
  pub waiting : List Path
  pub queued : Queued request done (path ∷ waiting)
  pub at_fault : declaration_at request.registry path ≡ Some (Err fault)

-- ---- Cycles

-- the path is one of these, and none of them comes before it by bytes
pub record IsLeastOf (paths : List Path) (path : Path) : Type 0 where
  pub is_in : has_path paths path ≡ true
  pub least : list_all (λ other. not (is_lt (byte_order other path))) paths ≡ true

-- the second task is the least of the unplaced ones that the first comes after
abbrev pub IsLeastBefore : Plan → List Path → Path → Path → Type 0
IsLeastBefore plan unplaced path before = IsLeastOf (filter (has_path unplaced) (after_at plan path)) before

-- by steps from one task to another, through these: the first, and all between the two
pub data IsWalk (steps : Path → Path → Type 0) : Path → List Path → Path → Type 0 where
  is_there : {path : Path} → IsWalk steps path [] path
  goes : {from : Path} {next : Path} {passed : List Path} {to : Path} → steps from next
      → IsWalk steps next passed to → IsWalk steps from (from ∷ passed) to

-- The cycle that the walk from the least unplaced task reaches. Each step of the walk leads to the least
-- unplaced task that the last one comes after. The cycle begins at its own least task and has each task once.
-- So each comes after the next, and the last after the first.
pub record IsCycle (plan : Plan) (unplaced : List Path) (cycle : List Path) : Type 0 where
  pub start : Path
  pub first : Path
  pub way : List Path
  pub from_least : IsLeastOf unplaced start
  pub comes_to : IsWalk (IsLeastBefore plan unplaced) start way first
  pub goes_round : IsWalk (IsLeastBefore plan unplaced) first cycle first
  pub once : no_repeats cycle ≡ true
  pub least_first : IsLeastOf cycle first

-- ---- Unsound plans

-- A conflict: two tasks, and a place at which the first overlaps the second.
pub record Conflict : Type 0 where
  pub task : Path
  pub other : Path
  pub place : Place

-- by the first task, then by the second, then by the place
abbrev pub is_before : Conflict → Conflict → Bool
is_before a b =
    is_lt
    (ordering_then (byte_order a.task b.task)
    (ordering_then (byte_order a.other b.other) (byte_order a.place b.place)))

-- it is one of these conflicts, and none of them comes before it
pub record IsLeastConflict (IsConflict : Conflict → Type 0) (conflict : Conflict) : Type 0 where
  pub meets : IsConflict conflict
  pub least : (other : Conflict) → IsConflict other → is_before other conflict ≡ false

-- output places, each with the path of its task
abbrev pub outputs_of : Plan → List (Path × Place)
outputs_of plan =
    flat_map (λ planned. map (λ place. (planned.task.path, place)) (output_places planned.task)) plan

-- an output place of the first task overlaps another, of the second task or of its own
pub record IsOverlap (plan : Plan) (conflict : Conflict) : Type 0 where
  pub prefix : List (Path × Place)
  pub back : List (Path × Place)
  pub exists : outputs_of plan ≡ prefix ++ (conflict.task, conflict.place) ∷ back
  pub overlapped :
      list_any (λ output. bytes_eq output.0 conflict.other && overlaps conflict.place output.1)
      (prefix ++ back)
      ≡ true

-- the second task writes a place that overlaps this root of the first
pub record IsRead (plan : Plan) (reader writer : TaskDeclaration) (root : Place) : Type 0 where
  pub reader_in : Contains (map (λ planned. planned.task) plan) reader
  pub writer_in : Contains (map (λ planned. planned.task) plan) writer
  pub is_root : has_path (roots_of reader) root ≡ true
  pub overlapped : list_any (overlaps root) (output_places writer) ≡ true

-- a task reads what it writes itself
pub record IsOwnInput (plan : Plan) (conflict : Conflict) : Type 0 where
  pub task : TaskDeclaration
  pub is_task : conflict.task ≡ task.path
  pub is_same : conflict.other ≡ task.path
  pub reads : IsRead plan task task conflict.place

-- a task reads what another writes, and does not come after it
pub record IsUndeclared (plan : Plan) (conflict : Conflict) : Type 0 where
  pub reader : TaskDeclaration
  pub writer : TaskDeclaration
  pub is_reader : conflict.task ≡ reader.path
  pub is_writer : conflict.other ≡ writer.path
  pub two : bytes_eq reader.path writer.path ≡ false
  pub reads : IsRead plan reader writer conflict.place
  pub not_after : ¬ IsAfter plan reader writer.path

-- ---- The refusal

-- some tasks never become ready, and the fault names their cycle
pub record IsCycleFault (plan : Plan) (fault : Fault) : Type 0 where
  pub some_stuck : is_empty (stuck plan [] plan) ≡ false
  pub cycle : List Path
  pub is_cycle : IsCycle plan (order (stuck plan [] plan)) cycle
  pub reported : fault ≡ faults.Cycle cycle

-- all become ready, and outputs overlap
pub record IsOverlapFault (plan : Plan) (fault : Fault) : Type 0 where
  pub all_ready : stuck plan [] plan ≡ []
  pub conflict : Conflict
  pub is_least : IsLeastConflict (IsOverlap plan) conflict
  pub reported : fault ≡ faults.OverlappingOutputs conflict.task conflict.other conflict.place

-- all become ready, no outputs overlap, and a task reads its own
pub record IsOwnInputFault (plan : Plan) (fault : Fault) : Type 0 where
  pub all_ready : stuck plan [] plan ≡ []
  pub outputs_separate : (other : Conflict) → ¬ IsOverlap plan other
  pub conflict : Conflict
  pub is_least : IsLeastConflict (IsOwnInput plan) conflict
  pub reported : fault ≡ faults.OwnOutputAsInput conflict.task conflict.place

-- all become ready, no outputs overlap, none is read by its own task, and a task reads another's that it
-- does not come after
pub record IsUndeclaredFault (plan : Plan) (fault : Fault) : Type 0 where
  pub all_ready : stuck plan [] plan ≡ []
  pub outputs_separate : (other : Conflict) → ¬ IsOverlap plan other
  pub inputs_separate : (other : Conflict) → ¬ IsOwnInput plan other
  pub conflict : Conflict
  pub is_least : IsLeastConflict (IsUndeclared plan) conflict
  pub reported : fault ≡ faults.UndeclaredDependency conflict.task conflict.other conflict.place

-- the fault of a schedule of tasks that are declared
pub data IsScheduleFault (plan : Plan) (fault : Fault) : Type 0 where
  has_cycle : IsCycleFault plan fault → IsScheduleFault plan fault
  has_overlap : IsOverlapFault plan fault → IsScheduleFault plan fault
  has_own_input : IsOwnInputFault plan fault → IsScheduleFault plan fault
  is_undeclared : IsUndeclaredFault plan fault → IsScheduleFault plan fault

-- The request is refused with this fault: that of the first task at fault, or without one, of the schedule.
abbrev pub IsRefused : Request → Fault → Type 0
IsRefused request fault =
    IsTaskFault request fault ⊎ ((plan : Plan) × IsSchedule request plan × IsScheduleFault plan fault)
