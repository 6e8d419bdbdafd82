-- What a workspace keeps for a task.
use Rattle.std.proofs.Common.{◌≡◌, ℕ, zero, suc, ◌<◌, Bool, cond, List, [], ◌∷◌, length, map, refl, sym, ap, subst, ◌∙◌, Option, Some, None, Result, Err}
use Rattle.std.proofs.lemmas.List.{length-map}
use Rattle.std.proofs.lemmas.List.Elements.{All-from_recursion}
use Rattle.std.specs.Cmp.Lexicographic.{bytes_decides}
use Rattle.std.proofs.lemmas.List.Folds.{find_at}
use Rattle.std.proofs.lemmas.Option.{slice_get-map, slice_get_read, slice_get_within}
use Rattle.std.proofs.lemmas.Bool.{lt-ltb}
use Rattle.std.specs.Prelude.{All, bytes_eq, find, get_or, option_map, position, slice_get}
use Rattle.std.specs.List.{AllByRecursion, position_or_len}
use Rattle.gb_project.proofs.KnownLemmas.{find_passes, paths_are, placed_at}
use Rattle.gb_project.specs.Over.{IsOver, Reports, fault_in, known_names}
use Rattle.gb_plan.proofs.Tests.{turned}
use Rattle.gb_plan.specs.declared.task.TaskDeclaration.{TaskDeclaration}
use Rattle.gb_provider.specs.Rules.{numbers_of}
use Rattle.gb_provider.specs.declared.expression.Expression.{Expression}
use Rattle.gb_provider.specs.declared.expression.Node.{Node}
use Rattle.gb_report.specs.declared.fault.Fault.{Fault}
use Rattle.gb_registry.proofs.Among.{position-map}
use Rattle.gb_registry.specs.Projects.{Path}
use Rattle.gb_registry.specs.Said.{Registered, paths_of, task_at, tasks_of}
use Rattle.gb_registry.specs.Source.{Source}
use Rattle.gb_registry.specs.Tables.{Tables}
use Rattle.gb_declare.specs.Declaring.{declared}
use Rattle.gb_declare.specs.Joined.{Joined}
use Rattle.gb_report.specs.declared.fault.Fault.TheVariants.{TaskNotFound}
use Rattle.gb_registry.specs.Projects.{root_path}
use Rattle.gb_registry.specs.References.{lookup_faults}
use Rattle.gb_declare.specs.Views.{joined_of}
use Rattle.gb_declare.specs.Realised.{Plain, evaluated, first_or, realised, realised_at, realised_if}
use Rattle.gb_declare.specs.Whole.{spots, trees_of, whole}
use Rattle.gb_project.specs.Evaluated.{IsBuiltIn}
use Rattle.gb_project.specs.Rows.{AreWithin, ReportsOf, numbers_in}
use Rattle.gb_declare.specs.Complete.{place_in_whole}
use Rattle.gb_project.specs.Kept.{AreKept, IsKept, IsKeptAs}
use Rattle.gb_project.specs.Stage.{DeclaredTask}
use Rattle.gb_project.specs.Views.{entries_of, entry_of, stage_of}
use Rattle.gb_project.specs.Workspace.{IsKeptIn}
use Rattle.gb_project.specs.declared.declared_task.Declared.{Declared}
use Rattle.gb_project.specs.declared.declared_task.DeclaredTask as coded
use Rattle.gb_project.proofs.PlaceLemmas.{never, some_same}

module _ {M F Z S A : Type 0} (tables : Tables M F Z S A) (source : Source) (number : ℕ → ℕ) (nodes : List (Expression M F Z)) where
  abbrev fault_of : Registered → Option Fault
  fault_of at = fault_in (declared tables source.names source.said at)

  fault_as : (at : Registered) (fault : Option Fault) (entry : Option DeclaredTask) → IsKeptAs tables source number nodes at fault entry → fault ≡ fault_of at
  fault_as at None (Some entry) kept = sym (ap fault_in kept.is_declared)
  fault_as at None None kept = absurd kept
  fault_as at (Some fault) (Some entry) kept = absurd kept
  fault_as at (Some fault) None kept = sym (ap fault_in kept)

  pub faults_are : (ats : List Registered) (faults : List (Option Fault)) (entries : List (Option DeclaredTask)) → AreKept tables source number nodes ats faults entries → faults ≡ map fault_of ats
  faults_are [] [] [] kept = refl
  faults_are [] [] (e ∷ es) kept = absurd kept
  faults_are [] (f ∷ fs) es kept = absurd kept
  faults_are (at ∷ ats) [] es kept = absurd kept
  faults_are (at ∷ ats) (f ∷ fs) [] kept = absurd kept
  faults_are (at ∷ ats) (f ∷ fs) (e ∷ es) kept = ap (λ x. x ∷ fs) (fault_as at f e kept.0) ∙ ap (λ xs. fault_of at ∷ xs) (faults_are ats fs es kept.1)

  -- what is kept for one of them
  pub record IsThere (at : Registered) (faults : List (Option Fault)) (entries : List (Option DeclaredTask)) (i : ℕ) : Type 0 where
    pub fault : Option Fault
    pub entry : Option DeclaredTask
    pub fault_there : slice_get faults i ≡ Some fault
    pub entry_there : slice_get entries i ≡ Some entry
    pub kept : IsKeptAs tables source number nodes at fault entry

  pub kept_at : (ats : List Registered) (faults : List (Option Fault)) (entries : List (Option DeclaredTask)) (i : ℕ) (at : Registered) → AreKept tables source number nodes ats faults entries → slice_get ats i ≡ Some at → IsThere at faults entries i
  kept_at [] faults entries i at kept is = absurd (cc)
  kept_at (a ∷ ats) [] es i at kept is = absurd kept
  kept_at (a ∷ ats) (f ∷ fs) [] i at kept is = absurd kept
  kept_at (a ∷ ats) (f ∷ fs) (e ∷ es) zero at kept is = let same : a ≡ at = cc in record { fault = f; entry = e; fault_there = refl; entry_there = refl; kept = subst (λ t. IsKeptAs tables source number nodes t f e) same kept.0 }
  kept_at (a ∷ ats) (f ∷ fs) (e ∷ es) (suc i) at kept is =
      let rest = kept_at ats fs es i at kept.1 is in
      record { fault = rest.fault; entry = rest.entry; fault_there = rest.fault_there; entry_there = rest.entry_there; kept = rest.kept }

-- ---- The task of a path

abbrev path_of : Registered → Path
path_of task = task.path

module _ (source : Source) (path : Path) (tasks : source.names.tasks ≡ paths_of source.said) where
  abbrev is_it : Registered → Bool
  is_it task = bytes_eq path task.path

  placed : position (bytes_eq path) source.names.tasks ≡ position is_it (tasks_of source.said)
  placed = ap (position (bytes_eq path)) (tasks ∙ paths_are source.said) ∙ position-map path_of (bytes_eq path) (tasks_of source.said)

  found_it : find is_it (tasks_of source.said) ≡ task_at source.said path
  found_it = λ i. find (λ (t : Registered). turned path t.path i) (tasks_of source.said)

  pub record IsTask (index : ℕ) : Type 0 where
    pub at : Registered
    pub there : slice_get (tasks_of source.said) index ≡ Some at
    pub found : task_at source.said path ≡ Some at
    pub its_path : at.path ≡ path

  pub task_there : (index : ℕ) → position (bytes_eq path) source.names.tasks ≡ Some index → IsTask index
  task_there index is =
      let found = placed_at is_it (tasks_of source.said) index (sym placed ∙ is) in
      record {
        at = found.0;
        there = found.2;
        found = sym found_it ∙ found.1;
        its_path = sym ((bytes_decides path found.0.path).0 (find_passes is_it (tasks_of source.said) found.0 found.1));
      }

-- ---- Rows of nodes

pub nodes_within : (n : ℕ) (row : List Node) → AllByRecursion (λ place. place < n) (numbers_of row) → All (λ node. node.number < n) row
nodes_within n row within = All-from_recursion (λ node. node.number < n) row (by row within)
  where
    by : (row : List Node) → AllByRecursion (λ place. place < n) (numbers_of row) → AllByRecursion (λ node. node.number < n) row
    by [] all = tt
    by (node ∷ row) all = (all.0, by row all.1)

pub numbers_twice : (number : ℕ → ℕ) (row : List Node) → map number (numbers_of row) ≡ numbers_in number row
numbers_twice number [] = refl
numbers_twice number (node ∷ row) = ap (λ l. number node.number ∷ l) (numbers_twice number row)

pub same_length : {X Y Z : Type 0} (f : X → Z) (g : Y → Z) (xs : List X) (ys : List Y) → map f xs ≡ map g ys → length xs ≡ length ys
same_length f g xs ys same = sym (length-map xs f) ∙ ap length same ∙ length-map ys g

-- ---- The result of a workspace for a task

module _ {M F Z S A : Type 0} (tables : Tables M F Z S A) (source : Source) (nodes : List (Expression M F Z)) (all : Declared) (kept : IsKeptIn tables source (stage_of nodes all))
    (path : Path) (index : ℕ) (is : position (bytes_eq path) source.names.tasks ≡ Some index) where
  abbrev result_of : Registered → Result Joined Fault
  result_of at = declared tables source.names source.said at

  abbrev number : ℕ → ℕ
  number = kept.declared.number

  abbrev it : IsTask source path kept.tasks index
  it = task_there source path kept.tasks index is

  there : IsThere tables source number nodes it.at all.faults.items (entries_of all.entries.items) index
  there = kept_at tables source number nodes (tasks_of source.said) all.faults.items (entries_of all.entries.items) index it.at kept.declared.kept it.there

  pub fault_within : index < length all.faults.items
  fault_within = slice_get_within all.faults.items index there.fault there.fault_there

  pub entry_within : index < length all.entries.items
  entry_within = subst (λ n. index < n) (length-map all.entries.items (option_map entry_of)) (slice_get_within (entries_of all.entries.items) index there.entry there.entry_there)

  its_fault : (reported : Option Fault) → reported ≡ get_or all.faults.items index reported → there.fault ≡ reported
  its_fault reported at = some_same there.fault reported (sym there.fault_there ∙ slice_get_read all.faults.items (length all.faults.items) index reported refl fault_within at)

  its_entry : (e : Option coded.DeclaredTask) → e ≡ get_or all.entries.items index e → there.entry ≡ option_map entry_of e
  its_entry e at =
      some_same there.entry (option_map entry_of e)
      (sym there.entry_there ∙ slice_get-map (option_map entry_of) all.entries.items index
      ∙ ap (option_map (option_map entry_of)) (slice_get_read all.entries.items (length all.entries.items) index e refl entry_within at))

  realised_is : realised tables source path ≡ realised_at tables source it.at (result_of it.at)
  realised_is = ap (realised_if tables source path) it.found

  pub at_fault : (reported : Option Fault) (fault : Fault) → reported ≡ get_or all.faults.items index reported → reported ≡ Some fault → realised tables source path ≡ Err (Plain fault)
  at_fault reported fault at some =
      realised_is ∙ ap (realised_at tables source it.at) (by there.entry (subst (λ f. IsKeptAs tables source number nodes it.at f there.entry) (its_fault reported at ∙ some) there.kept))
    where
      by : (e : Option DeclaredTask) → IsKeptAs tables source number nodes it.at (Some fault) e → result_of it.at ≡ Err fault
      by None declared_is = declared_is
      by (Some entry) none = absurd none

  kept_of : (reported : Option Fault) (e : Option coded.DeclaredTask) → reported ≡ get_or all.faults.items index reported → reported ≡ None → e ≡ get_or all.entries.items index e → IsKeptAs tables source number nodes it.at None (option_map entry_of e)
  kept_of reported e at none at_e =
      subst (IsKeptAs tables source number nodes it.at None) (its_entry e at_e) (subst (λ f. IsKeptAs tables source number nodes it.at f there.entry) (its_fault reported at ∙ none) there.kept)

  pub entry_is : (reported : Option Fault) (e : Option coded.DeclaredTask) → reported ≡ get_or all.faults.items index reported → reported ≡ None → e ≡ get_or all.entries.items index e → e ≡ None → ⊥
  entry_is reported e at none at_e gone = subst (λ o. IsKeptAs tables source number nodes it.at None (option_map entry_of o)) gone (kept_of reported e at none at_e)

  pub entry_kept : (reported : Option Fault) (e : Option coded.DeclaredTask) (entry : coded.DeclaredTask) → reported ≡ get_or all.faults.items index reported → reported ≡ None → e ≡ get_or all.entries.items index e → e ≡ Some entry
      → IsKept tables source number nodes it.at (entry_of entry)
  entry_kept reported e entry at none at_e some = subst (λ o. IsKeptAs tables source number nodes it.at None (option_map entry_of o)) some (kept_of reported e at none at_e)

  module _ (entry : coded.DeclaredTask) (is_kept : IsKept tables source number nodes it.at (entry_of entry)) where
    pub row_within : AreWithin nodes entry.row.items
    row_within = nodes_within (length nodes) entry.row.items is_kept.within

    pub row_count : length entry.row.items ≡ length (trees_of (joined_of entry.task))
    row_count =
        same_length (λ (node : Node). number node.number) (place_in_whole tables source it.at.project) entry.row.items (trees_of (joined_of entry.task))
        (sym (numbers_twice number entry.row.items) ∙ is_kept.numbers)

    -- the result of the entry is what the task declares
    pub entry_shows : (projects paths : List Path) (faults : List (Option Fault)) (r : Result TaskDeclaration Fault) → projects ≡ source.names.projects → paths ≡ source.names.tasks → faults ≡ all.faults.items
        → ReportsOf tables (known_names projects paths) faults nodes (IsBuiltIn path entry.build) entry.row.items (trees_of (joined_of entry.task))
        (λ other at. evaluated tables other at (spots tables other) (whole tables other) (joined_of entry.task)) r
        → Reports tables source (realised tables source path) r
    entry_shows projects paths faults r projects_are paths_same faults_is shows =
        let over : IsOver tables source (known_names projects paths) faults nodes number = record {
          known = record {
            names = ap (λ p. known_names p paths) projects_are ∙ ap (known_names source.names.projects) paths_same;
            tasks = kept.tasks;
            faults = faults_is ∙ faults_are tables source number nodes (tasks_of source.said) all.faults.items (entries_of all.entries.items) kept.declared.kept;
          };
          complete = kept.declared.complete;
        } in
        subst (λ e. Reports tables source e r) (sym (realised_is ∙ ap (realised_at tables source it.at) is_kept.is_declared))
        (shows source number over it.at (it.its_path, sym is_kept.build) (sym (numbers_twice number entry.row.items) ∙ is_kept.numbers))

-- what is found has a position
find_place : {X : Type 0} (p : X → Bool) (xs : List X) (x : X) → find p xs ≡ Some x → (k : ℕ) × (position p xs ≡ Some k)
find_place p xs x is =
    (position_or_len p xs, ap (λ b. cond b (Some (position_or_len p xs)) None) (lt-ltb (position_or_len p xs) (length xs) (slice_get_within xs (position_or_len p xs) x (sym (find_at p xs) ∙ is))))

-- a path under which no task is registered
module _ {M F Z S A : Type 0} (tables : Tables M F Z S A) (source : Source) (path : Path) (tasks : source.names.tasks ≡ paths_of source.said) where
  none_found : position (bytes_eq path) source.names.tasks ≡ None → task_at source.said path ≡ None
  none_found none =
      elim (task_at source.said path) as (λ o. task_at source.said path ≡ o → o ≡ None) [
        | None ↦ λ _. refl
        | Some at ↦ λ found.
            let there = find_place (is_it source path tasks) (tasks_of source.said) at (found_it source path tasks ∙ found) in
            absurd (never there.0 (sym none ∙ placed source path tasks ∙ there.1))
      ] refl

  pub unknown_task : position (bytes_eq path) source.names.tasks ≡ None → realised tables source path ≡ Err (Plain (first_or (TaskNotFound path) (lookup_faults source.names root_path path)))
  unknown_task none = ap (realised_if tables source path) (none_found none)
