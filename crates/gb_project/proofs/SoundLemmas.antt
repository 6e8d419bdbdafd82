-- What scripts register is in order.
use Rattle.std.proofs.Common.{◌≡◌, Bool, true, false, cond, ◌&&◌, List, ℕ, [], ◌∷◌, ◌++◌, map, refl, sym, ap, subst, ◌∙◌, bytes_eq}
use Rattle.std.specs.Cmp.Lexicographic.{bytes_decides}
use Rattle.std.specs.Prelude.{filter_map, find, Option, Some, None, Result, Ok, Err, IfOk}
use Rattle.std.specs.List.{AllByRecursion, cons_option, list_all}
use Rattle.gb_core.proofs.Parts.{parts_make}
use Rattle.gb_core.specs.Path.{is_project_path, project_of}
use Rattle.gb_core.specs.Place.{is_beneath}
use Rattle.gb_plan.proofs.Tests.{all_both, left_of, right_of}
use Rattle.gb_plan.specs.Graph as plans
use Rattle.gb_plan.specs.Graph.{IsDeclared, IsRegistry, Registry, no_repeats}
use Rattle.gb_plan.specs.Task.{Path, has_path}
use Rattle.gb_plan.specs.declared.task.Output.{Output}
use Rattle.gb_plan.specs.declared.task.TaskDeclaration.{TaskDeclaration}
use Rattle.gb_report.specs.declared.fault.Fault.{Fault}
use Rattle.gb_script.specs.declared.script.Statement.{Statement}
use Rattle.gb_script.specs.declared.script.Statement.TheVariants as statements
use Rattle.gb_registry.specs.Configure.{configure_faults}
use Rattle.gb_registry.specs.Projects.{is_among}
use Rattle.gb_registry.specs.Said.{Registered, Said, paths_of, registered_by}
use Rattle.gb_registry.specs.Source.{Source}
use Rattle.gb_registry.specs.Tables.{Tables}
use Rattle.gb_declare.proofs.KnownLemmas.{realised_names_tasks}
use Rattle.gb_declare.proofs.ReadyLemmas.{realised_is_sound}
use Rattle.gb_registry.proofs.OnceLemmas.{paths_are_new}
use Rattle.gb_declare.proofs.NeededLemmas.{realised_needs_are_registered}
use Rattle.gb_project.proofs.NamedOnceLemmas.{once_said}
use Rattle.gb_declare.specs.Realised.{Trouble, Plain, Endless, realised}
use Rattle.gb_declare.specs.Whole.{build_folder}
use Rattle.gb_project.proofs.FindLemmas.{all_made, paths_made}
use Rattle.gb_project.proofs.FolderLemmas.{same_folder}
use Rattle.gb_project.proofs.SaidLemmas.{AreNamed, is_said_in}
use Rattle.gb_project.specs.Named.{is_named, registers_named}
use Rattle.gb_declare.specs.Registered.{declaration_of, registry_said, settled}

-- ---- A registered task

-- its project is one of these, has a path, and is that of the task's path
pub record ExistsIn (projects : List Path) (at : Registered) : Type 0 where
  pub among : is_among projects at.project ≡ true
  pub is_path : is_project_path at.project ≡ true
  pub own : project_of at.path ≡ at.project

exists : (projects : List Path) (said : List Said) (project : Path) (statement : Statement) (at : Registered)
    → registered_by said (record { project = project; statement = statement }) ≡ Some at → is_among projects project ≡ true
    → is_named (record { project = project; statement = statement }) ≡ true → ExistsIn projects at
exists projects said project (statements.Register r) at is among named =
    let name = right_of (is_project_path project) (registers_named (statements.Register r)) named in
    let path = left_of (is_project_path project) (registers_named (statements.Register r)) named in
    let parts = parts_make project r.name path name in
    let same = some_same _ at is in
    subst (ExistsIn projects) same (record { among = among; is_path = path; own = parts.1 })
  where
    some_same : (a b : Registered) → Some a ≡ Some b → a ≡ b
    some_same a b e = cc
exists projects said project (statements.DefaultTasks texts) at is among named = absurd (cc)
exists projects said project (statements.Property name) at is among named = absurd (cc)
exists projects said project (statements.Set a) at is among named = absurd (cc)
exists projects said project (statements.Convention a) at is among named = absurd (cc)
exists projects said project (statements.Unset name) at is among named = absurd (cc)
exists projects said project (statements.DisallowChanges name) at is among named = absurd (cc)
exists projects said project (statements.Named c) at is among named = absurd (cc)

-- the task that is found is such a task, and has the path by which it was looked up
abbrev pub IsFound : List Path → Path → Registered → Type 0
IsFound projects path at = (at.path ≡ path) × ExistsIn projects at

found_at : (projects : List Path) (path : Path) (at : Registered) (found : Option Registered) (others : List Registered)
    → ((task : Registered) → found ≡ Some task → ExistsIn projects task)
    → (find (λ task. bytes_eq task.path path) others ≡ Some at → IsFound projects path at)
    → find (λ task. bytes_eq task.path path) (cons_option found others) ≡ Some at → IsFound projects path at
found_at projects path at None others here later is = later is
found_at projects path at (Some task) others here later is =
    elim (bytes_eq task.path path) as (λ b. bytes_eq task.path path ≡ b → cond b (Some task) (find (λ task. bytes_eq task.path path) others) ≡ Some at → IsFound projects path at) [
      | true ↦ λ same is. let one : task ≡ at = cc in subst (IsFound projects path) one ((bytes_decides task.path path).0 same, here task refl)
      | false ↦ λ _ is. later is
    ] refl is

pub found_in : (projects : List Path) (said rest : List Said) (path : Path) (at : Registered) → list_all (is_said_in projects) rest ≡ true → list_all is_named rest ≡ true
    → find (λ task. bytes_eq task.path path) (filter_map (registered_by said) rest) ≡ Some at → IsFound projects path at
found_in projects said [] path at among named is = absurd (cc)
found_in projects said (s ∷ rest) path at among named is =
    found_at projects path at (registered_by said s) (filter_map (registered_by said) rest)
    (λ task by. exists projects said s.project s.statement task by (left_of (is_said_in projects s) (list_all (is_said_in projects) rest) among) (left_of (is_named s) (list_all is_named rest) named))
    (found_in projects said rest path at (right_of (is_said_in projects s) (list_all (is_said_in projects) rest) among) (right_of (is_named s) (list_all is_named rest) named))
    is

-- ---- A declared task

all_of : {X : Type 0} (p : X → Bool) (xs : List X) → AllByRecursion (λ x. p x ≡ true) xs → list_all p xs ≡ true
all_of p [] h = refl
all_of p (x ∷ xs) h = ap (λ b. b && list_all p xs) h.0 ∙ all_of p xs h.1

-- places of outputs that lie under a folder
places_in : (folder other : List ℕ) → folder ≡ other → (outputs : List Output) → AllByRecursion (λ output. is_beneath output.place folder ≡ true) outputs
    → list_all (λ place. is_beneath place other) (map (λ (output : Output). output.place) outputs) ≡ true
places_in folder other same [] h = refl
places_in folder other same (output ∷ outputs) h =
    ap (λ b. b && list_all (λ place. is_beneath place other) (map (λ (output : Output). output.place) outputs)) (ap (is_beneath output.place) (sym same) ∙ h.0)
    ∙ places_in folder other same outputs h.1

-- the paths that are registered are those of the tasks
pub paths_said : {M F Z S A : Type 0} (tables : Tables M F Z S A) (source : Source) → plans.paths_of (registry_said tables source) ≡ paths_of source.said
paths_said tables source = paths_made (declaration_of tables source) (paths_of source.said)

module _ {M F Z S A : Type 0} (tables : Tables M F Z S A) (source : Source) (all_named : AreNamed source) (good : configure_faults tables source ≡ []) where
  abbrev registry : Registry
  registry = registry_said tables source

  paths_are : plans.paths_of registry ≡ source.names.tasks
  paths_are = paths_said tables source ∙ sym all_named.tasks

  realised_declared : (path : Path) (task : TaskDeclaration) → realised tables source path ≡ Ok task → IsDeclared registry path task
  realised_declared path task is =
      let found = realised_is_sound tables source path task is in
      let at = found.0 in
      let exists = found_in source.names.projects source.said source.said path at all_named.in_projects all_named.named found.1 in
      let project : project_of path ≡ at.project = ap project_of (sym exists.0) ∙ exists.1.own in
      let folder : build_folder at.project ≡ plans.build_folder (project_of path) =
      sym (same_folder at.project exists.1.is_path) ∙ ap plans.build_folder (sym project) in
      record {
        own_path = found.2.own ∙ exists.0;
        in_project = ap (is_among source.names.projects) project ∙ exists.1.among;
        registered =
            ap (λ paths. list_all (has_path paths) (task.needs ++ task.finalizers)) paths_are
            ∙ all_both (has_path source.names.tasks) task.needs task.finalizers
            (all_of (has_path source.names.tasks) task.needs (realised_needs_are_registered tables source all_named.tasks good path task is))
            (all_of (has_path source.names.tasks) task.finalizers ((realised_names_tasks tables source path task is).finalizers));
        shaped = found.2.shaped;
        in_build_folder = places_in (build_folder at.project) (plans.build_folder (project_of path)) folder task.outputs found.2.built;
      }

  declared_if : (path : Path) (r : Result TaskDeclaration Trouble) → realised tables source path ≡ r → IfOk (settled tables source r) (IsDeclared registry path)
  declared_if path (Ok task) is = realised_declared path task is
  declared_if path (Err (Plain fault)) is = tt
  declared_if path (Err (Endless entry)) is = tt

  each_declared : (paths : List Path) → AllByRecursion (λ (entry : Path × Result TaskDeclaration Fault). IfOk entry.1 (IsDeclared registry entry.0)) (all_made (declaration_of tables source) paths)
  each_declared [] = tt
  each_declared (path ∷ paths) = (declared_if path (realised tables source path) refl, each_declared paths)

  -- what scripts register is in order
  pub registry_is_sound : IsRegistry registry
  registry_is_sound = record {
    once = ap no_repeats (paths_said tables source) ∙ once_said tables source (paths_are_new tables source) good;
    declared = each_declared (paths_of source.said);
  }
