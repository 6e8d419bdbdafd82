-- The tasks that a realised task names are registered, and sorted by their paths, each once. Its values, its
-- file properties and its outputs are sorted by their names, each once.
use Rattle.std.specs.Prelude.{◌≡◌, true, [], map, Some, Ok}
use Rattle.std.specs.List.{AllByRecursion}
use Rattle.std.specs.List.Sorted.{IsStrictlySortedBy}
use Rattle.gb_core.specs.Lists.{byte_order}
use Rattle.gb_plan.specs.Graph.{declaration_at}
use Rattle.gb_plan.specs.declared.task.TaskDeclaration.{TaskDeclaration}
use Rattle.gb_registry.specs.Configure.{configure_faults}
use Rattle.gb_registry.specs.Projects.{Path, is_among}
use Rattle.gb_registry.specs.Said.{paths_of}
use Rattle.gb_registry.specs.Source.{Source}
use Rattle.gb_registry.specs.Tables.{Tables}
use Rattle.gb_declare.specs.Realised.{realised}
use Rattle.gb_declare.specs.Registered.{registry_said}

abbrev pub IsRegistered : Source → Path → Type 0
IsRegistered source path = is_among source.names.tasks path ≡ true

-- the tasks that it runs after, and its finalizers
pub record NamesTasks (source : Source) (task : TaskDeclaration) : Type 0 where
  pub after : AllByRecursion (IsRegistered source) task.must_run_after
  pub finalizers : AllByRecursion (IsRegistered source) task.finalizers

abbrev pub RealisedNamesTasks : {M F Z S A : Type 0} → Tables M F Z S A → Source → Type 0
RealisedNamesTasks tables source =
    (path : Path) (task : TaskDeclaration) → realised tables source path ≡ Ok task → NamesTasks source task

-- Its needs are registered too, where the names of tasks are those that the scripts register, and no script
-- is at fault: the tasks that it depends on, and the tasks that make the values that its inputs and actions
-- are given.
abbrev pub RealisedNeedsAreRegistered : {M F Z S A : Type 0} → Tables M F Z S A → Source → Type 0
RealisedNeedsAreRegistered tables source =
    source.names.tasks ≡ paths_of source.said → configure_faults tables source ≡ [] →
    (path : Path) (task : TaskDeclaration) → realised tables source path ≡ Ok task →
    AllByRecursion (IsRegistered source) task.needs

-- its needs, the tasks that it runs after, and its finalizers: each once, by the bytes of their paths
pub record IsInOrder (task : TaskDeclaration) : Type 0 where
  pub needs : IsStrictlySortedBy byte_order task.needs
  pub after : IsStrictlySortedBy byte_order task.must_run_after
  pub finalizers : IsStrictlySortedBy byte_order task.finalizers

abbrev pub RealisedInOrder : {M F Z S A : Type 0} → Tables M F Z S A → Source → Type 0
RealisedInOrder tables source =
    (path : Path) (task : TaskDeclaration) → realised tables source path ≡ Ok task → IsInOrder task

-- its values, its file properties and its outputs: each name once, by the bytes of the names
pub record HasRisingNames (task : TaskDeclaration) : Type 0 where
  pub values : IsStrictlySortedBy byte_order (map (λ value. value.0) task.values)
  pub files : IsStrictlySortedBy byte_order (map (λ files. files.name) task.files)
  pub outputs : IsStrictlySortedBy byte_order (map (λ output. output.name) task.outputs)

abbrev pub RealisedNamesRise : {M F Z S A : Type 0} → Tables M F Z S A → Source → Type 0
RealisedNamesRise tables source =
    (path : Path) (task : TaskDeclaration) → realised tables source path ≡ Ok task → HasRisingNames task

-- the same of each declaration of the registry
abbrev pub DeclaredNamesRise : {M F Z S A : Type 0} → Tables M F Z S A → Source → Type 0
DeclaredNamesRise tables source =
    (path : Path) (task : TaskDeclaration)
    → declaration_at (registry_said tables source) path ≡ Some (Ok task) → HasRisingNames task
