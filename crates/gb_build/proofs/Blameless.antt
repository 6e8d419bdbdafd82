-- What is wrong with expressions and with statements is never the device's fault.
use Rattle.std.specs.Prelude.{ℕ, ◌≡◌, ◌==◌, ◌++◌, Bool, true, false, cond, List, [], ◌∷◌, Option, Some, None, Result, Ok, Err, option_map, length, filter_map, nat_le}
use Rattle.std.specs.List.{AllByRecursion, flat_map, list_any}
use Rattle.std.proofs.Common.{refl, sym, ap, subst, ◌∙◌, true≢false, inl, inr}
use Rattle.gb_core.specs.Path.{is_task_path, project_of, task_in}
use Rattle.gb_core.specs.Place.{is_place, joined}
use Rattle.gb_folder.specs.Files.{Place}
use Rattle.gb_semantics.specs.Headline.{is_of_device}
use Rattle.gb_provider.specs.Table.{map_named, flat_map_named, zip_named, test_named}
use Rattle.gb_registry.specs.Configure.{change_faults, configure_faults, each_after, finalizes, missing_at_link, missing_at_root, missing_tasks, statement_faults, statement_scope, values_of}
use Rattle.gb_registry.specs.Faults.{ReportsFirst, first_of}
use Rattle.gb_registry.specs.Projects.{Path, absolute, folder_of, is_among}
use Rattle.gb_registry.specs.References.{Names, lookup_faults, name_faults, reference_faults}
use Rattle.gb_registry.specs.Said.{Said, declared_property, paths_of, properties_of, script_of}
use Rattle.gb_registry.specs.Source.{Source}
use Rattle.gb_registry.specs.Tables.{Tables}
use Rattle.gb_registry.specs.Wrong.{Scope, count_faults, found_along, found_at, found_by, found_in, found_in_all, link_faults, place_faults, property_faults, root_faults, test_faults, tree_faults}
use Rattle.gb_report.specs.declared.fault.Fault.{Fault}
use Rattle.gb_report.specs.declared.fault.Fault.TheVariants as faults
use Rattle.gb_report.specs.declared.fault.Limited.TheVariants as limited
use Rattle.gb_script.specs.Tree.{Tree, Chain, Root, TextOf, FlagOf, ListOf, PropertyOf, DirOf, FileOf, TheBuildDir, GradlePropertyOf, TaskOf, Link, MapBy, FlatMapBy, ZipBy, Else, Trees, NoTree, AndTree, Links, NoLink, AndLink}
use Rattle.gb_script.specs.declared.function.Function.{Function}
use Rattle.gb_script.specs.declared.script.Statement.{Statement}
use Rattle.gb_script.specs.declared.script.Statement.TheVariants as statements

-- ---- Lists of faults

abbrev pub AreBlameless : List Fault → Type 0
AreBlameless faults = AllByRecursion (λ fault. is_of_device fault ≡ false) faults

pub all_append : (xs ys : List Fault) → AreBlameless xs → AreBlameless ys → AreBlameless (xs ++ ys)
all_append [] ys a b = b
all_append (x ∷ xs) ys a b = (a.0, all_append xs ys a.1 b)

pub all_flat : {X : Type 0} (f : X → List Fault) (xs : List X) → ((x : X) → AreBlameless (f x)) → AreBlameless (flat_map f xs)
all_flat f [] each = tt
all_flat f (x ∷ xs) each = all_append (f x) (flat_map f xs) (each x) (all_flat f xs each)

pub all_after : {X : Type 0} (f : List X → X → List Fault) (before xs : List X) → ((earlier : List X) (x : X) → AreBlameless (f earlier x)) → AreBlameless (each_after f before xs)
all_after f before [] each = tt
all_after f before (x ∷ xs) each = all_append (f before x) (each_after f (before ++ x ∷ []) xs) (each before x) (all_after f (before ++ x ∷ []) xs each)

-- those of the one or of the other
pub either : (b : Bool) (xs ys : List Fault) → AreBlameless xs → AreBlameless ys → AreBlameless (cond b xs ys)
either true xs ys a c = a
either false xs ys a c = c

-- a test that gives one fault at most
pub one_or_none : (b : Bool) (fault : Fault) → is_of_device fault ≡ false → AreBlameless (cond b (fault ∷ []) [])
one_or_none b fault h = either b (fault ∷ []) [] (h, tt) tt

pub none_or_one : (b : Bool) (fault : Fault) → is_of_device fault ≡ false → AreBlameless (cond b [] (fault ∷ []))
none_or_one b fault h = either b [] (fault ∷ []) tt (h, tt)

pub first_blameless : (xs : List Fault) (fault : Fault) → AreBlameless xs → first_of xs ≡ Some fault → is_of_device fault ≡ false
first_blameless [] fault all is = cc
first_blameless (x ∷ xs) fault all is = subst (λ f. is_of_device f ≡ false) (cc) all.0

-- a result with the first of such faults attributes none to the device
pub none_blamed : {T : Type 0} (xs : List Fault) (result : Result T Fault) (place : Place) → AreBlameless xs → ReportsFirst xs result → result ≡ Err (faults.Device place) → ⊥
none_blamed xs (Ok x) place all reported is = cc
none_blamed xs (Err fault) place all (inl memory) is = let e : faults.OutOfMemory ≡ faults.Device place = cc in cc
none_blamed xs (Err fault) place all (inr first) is =
    let e : fault ≡ faults.Device place = cc in true≢false (sym (ap is_of_device e) ∙ first_blameless xs fault all first)

-- ---- Tasks that texts name

pub name_blameless : (project : Path) (text : List ℕ) → AreBlameless (name_faults project text)
name_blameless project text = none_or_one (is_task_path (absolute project text)) (faults.BadName text) refl

pub lookup_blameless : (names : Names) (project : Path) (text : List ℕ) → AreBlameless (lookup_faults names project text)
lookup_blameless names project text =
    either (is_among names.projects (project_of (absolute project text))) _ (faults.UnknownProject text ∷ [])
    (none_or_one (is_among names.tasks (absolute project text)) (faults.TaskNotFound text) refl) (refl, tt)

pub reference_blameless : (names : Names) (project : Path) (text : List ℕ) → AreBlameless (reference_faults names project text)
reference_blameless names project text =
    either (is_task_path (absolute project text)) (lookup_faults names project text) (faults.BadName text ∷ []) (lookup_blameless names project text) (refl, tt)

-- ---- Expressions

module _ (at_root : Root → List Fault) (at_link : Link → List Fault) (roots : (root : Root) → AreBlameless (at_root root)) (steps : (link : Link) → AreBlameless (at_link link)) where
  mutual
    pub found_blameless : (tree : Tree) → AreBlameless (found_in at_root at_link tree)
    found_blameless (Chain root links) = all_append (found_at at_root at_link root) (found_along at_root at_link links) (root_found root) (links_found links)

    root_found : (root : Root) → AreBlameless (found_at at_root at_link root)
    root_found (ListOf trees) = trees_found trees
    root_found (TextOf t) = roots (TextOf t)
    root_found (FlagOf b) = roots (FlagOf b)
    root_found (PropertyOf w) = roots (PropertyOf w)
    root_found (DirOf t) = roots (DirOf t)
    root_found (FileOf t) = roots (FileOf t)
    root_found TheBuildDir = roots TheBuildDir
    root_found (GradlePropertyOf t) = roots (GradlePropertyOf t)
    root_found (TaskOf t) = roots (TaskOf t)

    trees_found : (trees : Trees) → AreBlameless (found_in_all at_root at_link trees)
    trees_found NoTree = tt
    trees_found (AndTree tree trees) = all_append (found_in at_root at_link tree) (found_in_all at_root at_link trees) (found_blameless tree) (trees_found trees)

    links_found : (links : Links) → AreBlameless (found_along at_root at_link links)
    links_found NoLink = tt
    links_found (AndLink link links) = all_append (found_by at_root at_link link) (found_along at_root at_link links) (link_found link) (links_found links)

    link_found : (link : Link) → AreBlameless (found_by at_root at_link link)
    link_found (MapBy f) = steps (MapBy f)
    link_found (FlatMapBy f) = steps (FlatMapBy f)
    link_found (ZipBy tree f) = all_append (found_in at_root at_link tree) (at_link (ZipBy tree f)) (found_blameless tree) (steps (ZipBy tree f))
    link_found (Else tree) = all_append (found_in at_root at_link tree) (at_link (Else tree)) (found_blameless tree) (steps (Else tree))

-- the texts that name tasks in a scope are refused for no fault of the device
abbrev pub IsFair : Scope → Type 0
IsFair scope = (text : List ℕ) → AreBlameless (scope.task_faults text)

property_blameless : (properties : List (List ℕ)) (name : List ℕ) → AreBlameless (property_faults properties name)
property_blameless properties name = none_or_one (is_among properties name) (faults.UnknownProperty name) refl

place_blameless : (project : Path) (text : List ℕ) → AreBlameless (place_faults project text)
place_blameless project text = none_or_one (is_place (joined (folder_of project) text)) (faults.BadPlace text) refl

root_blameless : (scope : Scope) → IsFair scope → (root : Root) → AreBlameless (root_faults scope root)
root_blameless scope fair (PropertyOf name) = property_blameless scope.properties name
root_blameless scope fair (DirOf text) = place_blameless scope.project text
root_blameless scope fair (FileOf text) = place_blameless scope.project text
root_blameless scope fair (TaskOf text) = fair text
root_blameless scope fair (TextOf t) = tt
root_blameless scope fair (FlagOf b) = tt
root_blameless scope fair (ListOf trees) = tt
root_blameless scope fair TheBuildDir = tt
root_blameless scope fair (GradlePropertyOf t) = tt

count_blameless : (f : Function) (count : Option ℕ) → AreBlameless (count_faults f count)
count_blameless f None = (refl, tt)
count_blameless f (Some count) = none_or_one (count == length f.arguments) (faults.BadArguments f.name) refl

module _ {M F Z S A : Type 0} (tables : Tables M F Z S A) where
  link_blameless : (link : Link) → AreBlameless (link_faults tables link)
  link_blameless (MapBy f) = count_blameless f (option_map tables.means.map.arity (map_named tables.functions f.name))
  link_blameless (FlatMapBy f) = count_blameless f (option_map tables.means.flat_map.arity (flat_map_named tables.functions f.name))
  link_blameless (ZipBy tree f) = count_blameless f (option_map tables.means.zip.arity (zip_named tables.functions f.name))
  link_blameless (Else tree) = tt

  pub test_blameless : (f : Function) → AreBlameless (test_faults tables f)
  test_blameless f = count_blameless f (option_map tables.means.test.arity (test_named tables.functions f.name))

  pub tree_blameless : (scope : Scope) → IsFair scope → (tree : Tree) → AreBlameless (tree_faults tables scope tree)
  tree_blameless scope fair tree = found_blameless (root_faults scope) (link_faults tables) (root_blameless scope fair) link_blameless tree

-- ---- Statements

change_blameless : (before : List Statement) (name : List ℕ) → AreBlameless (change_faults before name)
change_blameless before name =
    all_append (property_faults (filter_map declared_property before) name) _ (property_blameless (filter_map declared_property before) name)
    (one_or_none (list_any (finalizes name) before) (faults.Final name) refl)

-- one that exists already, or one too many
new_blameless : (there full : Bool) (twice many : Fault) → is_of_device twice ≡ false → is_of_device many ≡ false
    → AreBlameless (cond there (twice ∷ []) (cond full (many ∷ []) []))
new_blameless there full twice many a b = either there (twice ∷ []) _ (a, tt) (one_or_none full many b)

module _ {M F Z S A : Type 0} (tables : Tables M F Z S A) (before : List Said) (project : Path) where
  abbrev own : List Statement
  own = script_of before project

  value_blameless : (tree : Tree) → AreBlameless (tree_faults tables (statement_scope before project) tree)
  value_blameless tree = tree_blameless tables (statement_scope before project) (name_blameless project) tree

  -- what is wrong with a statement
  pub statement_blameless : (statement : Statement) → AreBlameless (statement_faults tables before (record { project = project; statement = statement }))
  statement_blameless (statements.DefaultTasks texts) = tt
  statement_blameless (statements.Property name) =
      new_blameless (is_among (properties_of before project) name) (nat_le 1024 (length (filter_map (λ s. declared_property s.statement) before)))
      (faults.DuplicateProperty name) (faults.TooMany limited.Properties) refl refl
  statement_blameless (statements.Set a) =
      all_append (change_faults own a.name) (tree_faults tables (statement_scope before project) a.value) (change_blameless own a.name) (value_blameless a.value)
  statement_blameless (statements.Convention a) =
      all_append (change_faults own a.name) (tree_faults tables (statement_scope before project) a.value) (change_blameless own a.name) (value_blameless a.value)
  statement_blameless (statements.Unset name) = change_blameless own name
  statement_blameless (statements.DisallowChanges name) = property_blameless (filter_map declared_property own) name
  statement_blameless (statements.Register r) =
      new_blameless (is_among (paths_of before) (task_in project r.name)) (nat_le 4096 (length (paths_of before)))
      (faults.DuplicateTask (task_in project r.name)) (faults.TooMany limited.Tasks) refl refl
  statement_blameless (statements.Named c) = none_or_one (is_among (paths_of before) (task_in project c.name)) (faults.TaskNotFound c.name) refl

module _ (names : Names) (project : Path) where
  missing_root_blameless : (root : Root) → AreBlameless (missing_at_root names project root)
  missing_root_blameless (TaskOf text) = lookup_blameless names project text
  missing_root_blameless (PropertyOf name) = tt
  missing_root_blameless (DirOf text) = tt
  missing_root_blameless (FileOf text) = tt
  missing_root_blameless (TextOf t) = tt
  missing_root_blameless (FlagOf b) = tt
  missing_root_blameless (ListOf trees) = tt
  missing_root_blameless TheBuildDir = tt
  missing_root_blameless (GradlePropertyOf t) = tt

missing_blameless : (names : Names) (said : Said) → AreBlameless (missing_tasks names said)
missing_blameless names said =
    all_flat (found_in (missing_at_root names said.project) missing_at_link) (values_of said.statement)
    (found_blameless (missing_at_root names said.project) missing_at_link (missing_root_blameless names said.project) (λ link. tt))

-- what is wrong with scripts before any task is declared
pub configure_blameless : {M F Z S A : Type 0} (tables : Tables M F Z S A) (source : Source) → AreBlameless (configure_faults tables source)
configure_blameless tables source =
    all_append (each_after (statement_faults tables) [] source.said) (flat_map (missing_tasks source.names) source.said)
    (all_after (statement_faults tables) [] source.said (λ before said. statement_blameless tables before said.project said.statement))
    (all_flat (missing_tasks source.names) source.said (missing_blameless source.names))
