-- The initial paths and nodes that scripts give to their tasks once they are read.
use Rattle.std.proofs.Common.{◌≡◌, ℕ, List, [], ◌∷◌, ◌++◌, length, map, refl, sym, ap, ◌∙◌}
use Rattle.std.proofs.lemmas.List.{append-nil, map-append}
use Rattle.std.proofs.lemmas.List.Elements.{filter_map-append}
use Rattle.std.specs.List.{AllByRecursion, flat_map}
use Rattle.std.specs.Prelude.{filter_map}
use Rattle.gb_core.specs.Path.{task_in}
use Rattle.gb_provider.specs.declared.expression.Expression.{Expression}
use Rattle.gb_registry.specs.Projects.{Path}
use Rattle.gb_registry.specs.Said.{Registered, Said, paths_of, registered_path, said_by}
use Rattle.gb_registry.specs.Source.{Source}
use Rattle.gb_registry.specs.Tables.{Tables}
use Rattle.gb_script.specs.declared.script.Statement.{Statement}
use Rattle.gb_script.specs.declared.script.Statement.TheVariants.{DefaultTasks, Property, Set, Convention, Unset, DisallowChanges, Register, Named}
use Rattle.gb_declare.specs.Spots.{Spot}
use Rattle.gb_declare.specs.Grown.{IsRight}
use Rattle.gb_declare.specs.Site.{AreThere, Site}
use Rattle.gb_project.specs.Steps.{Begins, task_paths}
use Rattle.gb_project.specs.Tasks.{registered_in, script_tasks}

-- ---- The paths of all tasks

paths_in : (project : Path) (script ss : List Statement)
    → paths_of (map (λ (s : Statement). let one : Said = record { project = project; statement = s } in one) ss) ≡ task_paths (filter_map (registered_in project script) ss)
paths_in project script [] = refl
paths_in project script (Register r ∷ ss) = ap (λ ps. task_in project r.name ∷ ps) (paths_in project script ss)
paths_in project script (DefaultTasks x ∷ ss) = paths_in project script ss
paths_in project script (Property x ∷ ss) = paths_in project script ss
paths_in project script (Set x ∷ ss) = paths_in project script ss
paths_in project script (Convention x ∷ ss) = paths_in project script ss
paths_in project script (Unset x ∷ ss) = paths_in project script ss
paths_in project script (DisallowChanges x ∷ ss) = paths_in project script ss
paths_in project script (Named x ∷ ss) = paths_in project script ss

-- the paths that scripts register are those of their tasks
pub paths_are : (scripts : List (Path × List Statement)) → paths_of (flat_map said_by scripts) ≡ task_paths (flat_map script_tasks scripts)
paths_are [] = refl
paths_are (script ∷ scripts) =
    filter_map-append registered_path (said_by script) (flat_map said_by scripts)
    ∙ ap (λ ps. ps ++ paths_of (flat_map said_by scripts)) (paths_in script.0 script.1 script.1)
    ∙ ap (λ ps. task_paths (script_tasks script) ++ ps) (paths_are scripts)
    ∙ sym (map-append (λ (task : Registered). task.path) (script_tasks script) (flat_map script_tasks scripts))

-- paths begin with all of them
pub all_begin : (prefix paths : List Path) → paths ≡ prefix → Begins prefix paths
all_begin prefix paths same = ([], same ∙ sym (append-nil prefix))

-- ---- The nodes of properties

-- where all sites are right the nodes of their properties exist
pub right_there : {M F Z S A : Type 0} (tables : Tables M F Z S A) (source : Source) (all : List Spot) (whole : List (Expression M F Z)) (number : ℕ → ℕ) (nodes : List (Expression M F Z)) (sites : List Site)
    → AllByRecursion (IsRight tables source all whole number nodes) sites → AllByRecursion (λ site. AreThere site (length nodes)) sites
right_there tables source all whole number nodes [] right = tt
right_there tables source all whole number nodes (site ∷ sites) right = (right.0.there, right_there tables source all whole number nodes sites right.1)
