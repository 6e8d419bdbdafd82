-- What a task reads in a whole folder it reads in the folder without the tool's own files.
use Rattle.std.specs.Prelude.{ℕ, ◌≡◌, ◌++◌, ◌&&◌, Bool, true, false, not, List, [], ◌∷◌, map, cond, if◌then◌else◌, Some, None}
use Rattle.std.specs.List.{AllByRecursion, filter, flat_map, list_all, list_any}
use Rattle.std.proofs.Common.{refl, sym, ap, ap₂, ◌∙◌}
use Rattle.gb_core.specs.Place.{is_under}
use Rattle.gb_action.specs.Changes.{Changes, changes_between}
use Rattle.gb_action.specs.Files.{Tree, Trees}
use Rattle.gb_folder.specs.Files.{Place, Bytes, Contents, Files, files_where, is_empty, is_own, places_under}
use Rattle.gb_semantics.specs.Label.{CannotRead, HasNoActions, HasNoSource, Skips, changes_from, early_case}
use Rattle.gb_semantics.specs.Tree.{has_no_source, input_faults, listing_faults, reported_of_tree, tree_faults, tree_of, trees_of}
use Rattle.gb_semantics.specs.TrueRecord.{outside}
use Rattle.gb_semantics.proofs.Lemmas.Reading.{all_flat_map, all_in_order, all_map}
use Rattle.gb_plan.proofs.Tests.{left_of}
use Rattle.gb_plan.specs.declared.task.FileProperty.{FileProperty}
use Rattle.gb_plan.specs.declared.task.TaskDeclaration.{TaskDeclaration as Task}
use Rattle.gb_report.specs.declared.fault.Fault.{Fault}
use Rattle.gb_tree.specs.Property.{distinct, doubled, entries_in, entries_of, found, in_order, is_in, lets_in, path_of, paths_of, relative_to, places_of, starts_in}
use Rattle.gb_tree.specs.Tree.{Entries, contents_at, special_roots, too_large, too_many}
use Rattle.gb_tree.specs.declared.fault.TreeFault.{TreeFault}
use Rattle.gb_tree.specs.declared.fault.TreeFault.TheVariants as trees
use Rattle.gb_task.proofs.Own.{is_kept}
use Rattle.gb_task.proofs.Part.{entries_same, large_same}

abbrev IsKept : List ℕ × Place → Type 0
IsKept entry = is_kept entry.1 ≡ true

abbrev pub kept : Files → Files
kept files = files_where is_kept files

-- ---- entries of a root

module _ (include exclude : List (List ℕ)) (root : Place) where
  abbrev belongs : Place → Bool
  belongs = is_in include exclude root

  abbrev file_places : Files → List Place
  file_places files = map (λ (file : Place × Bytes). file.0) files

  in_same : (files : Files) → filter belongs (places_under (files_where is_kept files) root) ≡ filter belongs (places_under files root)
  in_same [] = refl
  in_same (f ∷ files) =
      let rest = in_same files in
      let within : Place → Bool = λ place. is_under place root in
      let there : List Place = filter belongs (file_places (files_where within files)) in
      elim (is_own f.0) as (λ own. is_own f.0 ≡ own → filter belongs (file_places (files_where within (cond (not own) (f ∷ files_where is_kept files) (files_where is_kept files))))
      ≡ filter belongs (file_places (cond (within f.0) (f ∷ files_where within files) (files_where within files)))) [
        | true ↦ λ own. rest ∙ elim (within f.0) as (λ b. there ≡ filter belongs (file_places (cond b (f ∷ files_where within files) (files_where within files)))) [
          | true ↦ sym (ap (λ o. cond (not o && lets_in include exclude (relative_to root f.0)) (f.0 ∷ there) there) own)
          | false ↦ refl
        ]
        | false ↦ λ _. elim (within f.0) as (λ b. filter belongs (file_places (cond b (f ∷ files_where within (files_where is_kept files)) (files_where within (files_where is_kept files))))
            ≡ filter belongs (file_places (cond b (f ∷ files_where within files) (files_where within files)))) [
              | true ↦ ap (λ (xs : List Place). cond (belongs f.0) (f.0 ∷ xs) xs) rest
              | false ↦ rest
            ]
      ] refl

  all_in : (places : List Place) → AllByRecursion (λ place. is_kept place ≡ true) (filter belongs places)
  all_in [] = tt
  all_in (place ∷ places) =
      elim (belongs place) as (λ b. belongs place ≡ b → AllByRecursion (λ q. is_kept q ≡ true) (cond b (place ∷ filter belongs places) (filter belongs places))) [
        | true ↦ λ e. (left_of (is_kept place) (lets_in include exclude (relative_to root place)) e, all_in places)
        | false ↦ λ _. all_in places
      ] refl

-- ---- file properties

module _ (property : FileProperty) (files : Files) where
  abbrev found_in : Files → List Place → Entries
  found_in fs roots = found property.naming property.include property.exclude fs roots

  abbrev entries : Files → Entries
  entries fs = entries_of property.naming property.roots property.include property.exclude fs

  found_same : (roots : List Place) → found_in (files_where is_kept files) roots ≡ found_in files roots
  found_same [] = refl
  found_same (root ∷ roots) =
      ap₂ (λ (x y : Entries). x ++ y) (ap (map (λ place. (path_of property.naming root place, place))) (in_same property.include property.exclude root files))
      (found_same roots)

  each_root : (roots : List Place) → AllByRecursion (λ root. AllByRecursion IsKept (entries_in property.naming property.include property.exclude root (places_under files root))) roots
  each_root [] = tt
  each_root (root ∷ roots) = (
    all_map IsKept (λ place. (path_of property.naming root place, place)) (filter (is_in property.include property.exclude root) (places_under files root))
        (all_in property.include property.exclude root (places_under files root)),
    each_root roots,
  )

  entries_are : entries (files_where is_kept files) ≡ entries files
  entries_are = ap in_order (found_same (distinct property.roots))

  all_kept : AllByRecursion IsKept (entries files)
  all_kept =
      all_in_order IsKept (found_in files (distinct property.roots))
      (all_flat_map IsKept (λ root. entries_in property.naming property.include property.exclude root (places_under files root)) (distinct property.roots) (each_root (distinct property.roots)))

  tree_outside : tree_of property (files_where is_kept files) ≡ tree_of property files
  tree_outside = ap (contents_at (files_where is_kept files)) entries_are ∙ entries_same is_kept files (entries files) all_kept

  faults_outside : (special : List (List ℕ)) → tree_faults property (record { files = files_where is_kept files; special = special }) ≡ tree_faults property (record { files = files; special = special })
  faults_outside special =
      ap₂ (λ (es : Entries) (large : List TreeFault). map reported_of_tree ((special_roots (record { files = files; special = special }) (places_of (starts_in property.include (distinct property.roots))) ++ too_many property.name es
      ++ map (trees.DuplicateInput property.name) (doubled (paths_of es))) ++ large)) entries_are
      (ap (too_large (files_where is_kept files)) entries_are ∙ large_same is_kept files (entries files) all_kept)

-- ---- tasks

named_outside : (files : Files) (properties : List FileProperty)
    → map (λ (property : FileProperty). let tree : List ℕ × Tree = (property.name, tree_of property (files_where is_kept files)) in tree) properties
    ≡ map (λ (property : FileProperty). let tree : List ℕ × Tree = (property.name, tree_of property files) in tree) properties
named_outside files [] = refl
named_outside files (property ∷ properties) =
    ap₂ (λ (tree : Tree) (l : Trees). let head : List ℕ × Tree = (property.name, tree) in head ∷ l) (tree_outside property files) (named_outside files properties)

pub trees_outside : (task : Task) (files : Files) → trees_of task (kept files) ≡ trees_of task files
trees_outside task files = named_outside files task.files

reported_outside : (files : Files) (properties : List FileProperty)
    → map (λ (property : FileProperty). let reported : Changes = (property.name, changes_between [] (tree_of property (files_where is_kept files))) in reported) properties
    ≡ map (λ (property : FileProperty). let reported : Changes = (property.name, changes_between [] (tree_of property files)) in reported) properties
reported_outside files [] = refl
reported_outside files (property ∷ properties) =
    ap₂ (λ (tree : Tree) (l : List Changes). let reported : Changes = (property.name, changes_between [] tree) in reported ∷ l) (tree_outside property files) (reported_outside files properties)

pub changes_outside : (task : Task) (files : Files) → changes_from task [] (kept files) ≡ changes_from task [] files
changes_outside task files = reported_outside files (filter (λ property. property.incremental) task.files)

empty_outside : (files : Files) (properties : List FileProperty)
    → list_all (λ property. is_empty (tree_of property (files_where is_kept files))) properties ≡ list_all (λ property. is_empty (tree_of property files)) properties
empty_outside files [] = refl
empty_outside files (property ∷ properties) = ap₂ (λ (a b : Bool). a && b) (ap is_empty (tree_outside property files)) (empty_outside files properties)

pub source_outside : (task : Task) (files : Files) → has_no_source task (kept files) ≡ has_no_source task files
source_outside task files =
    ap (λ b. list_any (λ property. property.skip_when_empty) task.files && b) (empty_outside files (filter (λ property. property.skip_when_empty) task.files))

faults_of : (folder : Contents) (properties : List FileProperty)
    → flat_map (λ property. tree_faults property (outside folder)) properties ≡ flat_map (λ property. tree_faults property folder) properties
faults_of folder [] = refl
faults_of folder (property ∷ properties) = ap₂ (λ (x y : List Fault). x ++ y) (faults_outside property folder.files folder.special) (faults_of folder properties)

inputs_outside : (task : Task) (folder : Contents) → input_faults task (outside folder) ≡ input_faults task folder
inputs_outside task folder = faults_of folder task.files

-- so the case before any record is read is the same
pub early_outside : (task : Task) (folder : Contents) → early_case task (outside folder) ≡ early_case task folder
early_outside task folder =
    ap₂ (λ (hindrances : List Fault) (dry : Bool). if not task.runs then Some Skips
    else if is_empty task.actions then Some HasNoActions
    else if not (is_empty hindrances) then Some (CannotRead hindrances)
    else if dry then Some HasNoSource
    else None)
    (ap (λ (fs : List Fault). fs ++ listing_faults task folder) (inputs_outside task folder))
    (source_outside task folder.files)
