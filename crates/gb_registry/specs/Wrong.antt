-- The faults of an expression before its value is computed.
use Rattle.std.specs.Prelude.{ℕ, ◌==◌, List, [], ◌∷◌, ◌++◌, length, if◌then◌else◌, Option, Some, None}
use Rattle.std.specs.Prelude.{option_map}
use Rattle.gb_core.specs.Place.{is_place, joined}
use Rattle.gb_provider.specs.Table.{map_named, flat_map_named, zip_named, test_named}
use Rattle.gb_script.specs.declared.function.Function.{Function}
use Rattle.gb_script.specs.Tree.{Tree, Chain, Root, TextOf, FlagOf, ListOf, PropertyOf, DirOf, FileOf}
use Rattle.gb_script.specs.Tree.{TheBuildDir, GradlePropertyOf, TaskOf, Link, MapBy, FlatMapBy, ZipBy, Else}
use Rattle.gb_script.specs.Tree.{Trees, NoTree, AndTree, Links, NoLink, AndLink}
use Rattle.gb_report.specs.declared.fault.Fault.{Fault}
use Rattle.gb_report.specs.declared.fault.Fault.TheVariants as faults
use Rattle.gb_registry.specs.Projects.{Path, folder_of, is_among}
use Rattle.gb_registry.specs.References.{Names, name_faults, reference_faults}
use Rattle.gb_registry.specs.Tables.{Tables}

-- ---- What is found in an expression: at its sources and its steps, from the left to the right

module _ {X : Type 0} (at_root : Root → List X) (at_link : Link → List X) where
  abbrev mutual
    pub found_in : Tree → List X
    found_in (Chain root links) = found_at root ++ found_along links

    pub found_at : Root → List X
    found_at (ListOf trees) = found_in_all trees
    found_at (TextOf t) = at_root (TextOf t)
    found_at (FlagOf b) = at_root (FlagOf b)
    found_at (PropertyOf w) = at_root (PropertyOf w)
    found_at (DirOf t) = at_root (DirOf t)
    found_at (FileOf t) = at_root (FileOf t)
    found_at TheBuildDir = at_root TheBuildDir
    found_at (GradlePropertyOf t) = at_root (GradlePropertyOf t)
    found_at (TaskOf t) = at_root (TaskOf t)

    pub found_in_all : Trees → List X
    found_in_all NoTree = []
    found_in_all (AndTree tree trees) = found_in tree ++ found_in_all trees

    pub found_along : Links → List X
    found_along NoLink = []
    found_along (AndLink link links) = found_by link ++ found_along links

    -- the operand of a step comes before its function
    pub found_by : Link → List X
    found_by (MapBy f) = at_link (MapBy f)
    found_by (FlatMapBy f) = at_link (FlatMapBy f)
    found_by (ZipBy tree f) = found_in tree ++ at_link (ZipBy tree f)
    found_by (Else tree) = found_in tree ++ at_link (Else tree)

-- ---- Faults

-- what an expression may name at its position: the properties of the project's script, and tasks
pub record Scope : Type 0 where
  pub project : Path
  pub properties : List (List ℕ)
  pub task_faults : List ℕ → List Fault

-- of a task that a text names: the text is no path or, where all tasks are known, there is no such task
abbrev pub task_faults_in : Option Names → Path → List ℕ → List Fault
task_faults_in None project = name_faults project
task_faults_in (Some names) project = reference_faults names project

abbrev pub place_faults : Path → List ℕ → List Fault
place_faults project text =
    if is_place (joined (folder_of project) text) then [] else faults.BadPlace text ∷ []

abbrev pub property_faults : List (List ℕ) → List ℕ → List Fault
property_faults properties name = if is_among properties name then [] else faults.UnknownProperty name ∷ []

abbrev pub root_faults : Scope → Root → List Fault
root_faults scope (PropertyOf name) = property_faults scope.properties name
root_faults scope (DirOf text) = place_faults scope.project text
root_faults scope (FileOf text) = place_faults scope.project text
root_faults scope (TaskOf text) = scope.task_faults text
root_faults scope other = []

-- no function of that use has the name, or it takes another count of arguments
abbrev pub count_faults : Function → Option ℕ → List Fault
count_faults f None = faults.UnknownTransform f.name ∷ []
count_faults f (Some count) = if count == length f.arguments then [] else faults.BadArguments f.name ∷ []

abbrev pub function_faults : {X : Type 0} → (X → ℕ) → Function → Option X → List Fault
function_faults arity f stored = count_faults f (option_map arity stored)

module _ {M F Z S A : Type 0} (tables : Tables M F Z S A) where
  abbrev pub link_faults : Link → List Fault
  link_faults (MapBy f) = function_faults tables.means.map.arity f (map_named tables.functions f.name)
  link_faults (FlatMapBy f) =
      function_faults tables.means.flat_map.arity f (flat_map_named tables.functions f.name)
  link_faults (ZipBy tree f) = function_faults tables.means.zip.arity f (zip_named tables.functions f.name)
  link_faults (Else tree) = []

  abbrev pub test_faults : Function → List Fault
  test_faults f = function_faults tables.means.test.arity f (test_named tables.functions f.name)

  -- the faults of an expression, in the order of its text
  abbrev pub tree_faults : Scope → Tree → List Fault
  tree_faults scope tree = found_in (root_faults scope) link_faults tree
