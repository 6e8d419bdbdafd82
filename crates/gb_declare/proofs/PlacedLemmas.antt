-- The expressions of scripts are in a table of all of them.
use Rattle.std.proofs.Common.{◌≡◌, ℕ, List, [], ◌∷◌, ◌++◌, length, refl, sym, ap, subst, ◌∙◌, append_assoc}
use Rattle.std.proofs.lemmas.Grind.{flat_map-append}
use Rattle.std.proofs.lemmas.Option.{slice_get-map}
use Rattle.std.specs.Prelude.{Some, slice_get, option_map}
use Rattle.std.specs.List.{AllByRecursion, flat_map}
use Rattle.gb_registry.specs.Projects.{Path}
use Rattle.gb_registry.specs.Said.{Said, tasks_of}
use Rattle.gb_registry.specs.Source.{Source}
use Rattle.gb_registry.specs.Tables.{Tables}
use Rattle.gb_script.specs.Tree.{Tree, Chain, Root, TextOf, FlagOf, ListOf, PropertyOf, DirOf, FileOf, TheBuildDir, GradlePropertyOf, TaskOf, Link, MapBy, FlatMapBy, ZipBy, Else, Trees, NoTree, AndTree, Links, NoLink, AndLink}
use Rattle.gb_declare.specs.Spots.{Spot, Written, Made, parts, root_parts, trees_parts, links_parts, link_parts}
use Rattle.gb_declare.specs.Whole.{expression_at, number_of, spots, statement_spots, table_of, task_spots}
use Rattle.gb_declare.specs.Declaring.{declared}
use Rattle.gb_declare.proofs.SpotLemmas.{spot_in_table}
use Rattle.gb_declare.specs.Grown.{IsInTable}
use Rattle.gb_declare.proofs.LaidLemmas.{at_place}

-- the spot is one of these
abbrev pub IsAmong : List Spot → Spot → Type 0
IsAmong all spot = (place : ℕ) × (slice_get all place ≡ Some spot)

-- ---- Which spots are expressions of scripts

abbrev pub IsWritten : Spot → Type 0
IsWritten (Written project root steps) = Unit {0}
IsWritten (Made project task name tree) = ⊥

both_all : {X : Type 0} (P : X → Type 0) (xs ys : List X) → AllByRecursion P xs → AllByRecursion P ys → AllByRecursion P (xs ++ ys)
both_all P [] ys prefix back = back
both_all P (x ∷ xs) ys prefix back = (prefix.0, both_all P xs ys prefix.1 back)

module _ (project : Path) where
  abbrev AreWritten : List Spot → Type 0
  AreWritten = AllByRecursion IsWritten

  mutual
    pub parts_written : (tree : Tree) → AreWritten (parts project tree)
    parts_written (Chain root links) = (tt, both_all IsWritten (root_parts project root) (links_parts project root [] links) (root_written root) (links_written root [] links))

    root_written : (root : Root) → AreWritten (root_parts project root)
    root_written (ListOf trees) = trees_written trees
    root_written (TextOf t) = tt
    root_written (FlagOf b) = tt
    root_written (PropertyOf w) = tt
    root_written (DirOf t) = tt
    root_written (FileOf t) = tt
    root_written TheBuildDir = tt
    root_written (GradlePropertyOf t) = tt
    root_written (TaskOf t) = tt

    trees_written : (trees : Trees) → AreWritten (trees_parts project trees)
    trees_written NoTree = tt
    trees_written (AndTree tree trees) = both_all IsWritten (parts project tree) (trees_parts project trees) (parts_written tree) (trees_written trees)

    links_written : (root : Root) (before : List Link) (links : Links) → AreWritten (links_parts project root before links)
    links_written root before NoLink = tt
    links_written root before (AndLink link links) =
        (tt, both_all IsWritten (link_parts project link) (links_parts project root (link ∷ before) links) (link_written link) (links_written root (link ∷ before) links))

    link_written : (link : Link) → AreWritten (link_parts project link)
    link_written (MapBy f) = tt
    link_written (FlatMapBy f) = tt
    link_written (ZipBy tree f) = parts_written tree
    link_written (Else tree) = parts_written tree

-- ---- Each is at its number

module _ {M F Z S A : Type 0} (tables : Tables M F Z S A) (source : Source) (all : List Spot) where
  pub written_exists : (project : Path) (root : Root) (steps : List Link) → IsAmong all (Written project root steps)
      → slice_get (table_of tables source all) (number_of tables source all (Written project root steps)) ≡ Some (expression_at tables source all (Written project root steps))
  written_exists project root steps among =
      slice_get-map (expression_at tables source all) all (number_of tables source all (Written project root steps))
      ∙ ap (option_map (expression_at tables source all)) (spot_in_table all project root steps among.0 among.1)

  spots_in_table : (row : List Spot) → AllByRecursion IsWritten row → AllByRecursion (IsAmong all) row → AllByRecursion (IsInTable tables source all (table_of tables source all)) row
  spots_in_table [] written among = tt
  spots_in_table (Written project root steps ∷ row) written among = (λ _. written_exists project root steps among.0, spots_in_table row written.1 among.1)
  spots_in_table (Made project task name tree ∷ row) written among = absurd written.0

  -- the parts of an expression
  pub parts_in_table : (project : Path) (tree : Tree) → AllByRecursion (IsAmong all) (parts project tree) → AllByRecursion (IsInTable tables source all (table_of tables source all)) (parts project tree)
  parts_in_table project tree among = spots_in_table (parts project tree) (parts_written project tree) among

-- ---- Spots in the middle of others

-- each of some spots is among them and those around them
pub middle : (prefix xs back : List Spot) → AllByRecursion (IsAmong (prefix ++ (xs ++ back))) xs
middle prefix [] back = tt
middle prefix (x ∷ xs) back = (
  (length prefix, at_place prefix x (xs ++ back) (length prefix) refl),
  subst (λ l. AllByRecursion (IsAmong l) xs) (append_assoc prefix (x ∷ []) (xs ++ back)) (middle (prefix ++ x ∷ []) xs back),
)

module _ {M F Z S A : Type 0} (tables : Tables M F Z S A) (source : Source) where
  -- the expressions of tasks
  abbrev of_tasks : List Spot
  of_tasks = flat_map (λ task. task_spots task (declared tables source.names source.said task)) (tasks_of source.said)

  -- what a statement declares and assigns is among all
  pub statement_among : (prefix back : List Said) (s : Said) → source.said ≡ prefix ++ s ∷ back → AllByRecursion (IsAmong (spots tables source)) (statement_spots s)
  statement_among prefix back s split =
      let before = flat_map statement_spots prefix in
      let after = flat_map statement_spots back in
      let said : flat_map statement_spots source.said ≡ before ++ (statement_spots s ++ after) =
      ap (flat_map statement_spots) split ∙ flat_map-append statement_spots prefix (s ∷ back) in
      let is : before ++ (statement_spots s ++ (after ++ of_tasks)) ≡ spots tables source =
      ap (λ l. before ++ l) (sym (append_assoc (statement_spots s) after of_tasks)) ∙ sym (append_assoc before (statement_spots s ++ after) of_tasks)
      ∙ ap (λ l. l ++ of_tasks) (sym said) in
      subst (λ l. AllByRecursion (IsAmong l) (statement_spots s)) is (middle before (statement_spots s) (after ++ of_tasks))
