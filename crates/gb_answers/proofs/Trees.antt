-- What a task reads on the way to a state is what the contents that the state shows have.
use Rattle.std.specs.Prelude.{ℕ, ◌≡◌, ◌≤◌, ◌&&◌, ◌||◌, ◌++◌, not, cond, Bool, true, false, List, [], ◌∷◌, Some, length, map, nat_lt, unwrap_or}
use Rattle.std.specs.List.{AllByRecursion, AllZip, filter, flat_map, list_all, list_any, zip}
use Rattle.std.proofs.Common.{refl, sym, ap, ap₂, ◌∙◌}
use Rattle.std.proofs.lemmas.Bool.{le-ltb}
use Rattle.gb_action.specs.Files.{Trees}
use Rattle.gb_folder.specs.Answers.{WereRead}
use Rattle.gb_folder.specs.Files.{Bytes, Contents, Files, Place, Tearing, file_at, is_empty, is_special_under, places_under}
use Rattle.gb_folder.specs.Limits.{max_file, max_files}
use Rattle.gb_label.specs.Answered.{WasSourced, WasSourceless}
use Rattle.gb_label.specs.Looking.{gives_no_source, lacks_source}
use Rattle.gb_label.specs.Reading.{Read}
use Rattle.gb_label.specs.ReadingAnswered.{AreEntriesOf, AreInputsAnswered, AreInputsRead, IsInputAnswered, IsInputRead}
use Rattle.gb_semantics.specs.Tree.{has_no_source, input_faults, reported_of_tree, tree_faults, tree_of, trees_of}
use Rattle.gb_plan.specs.Task.{given_files}
use Rattle.gb_plan.specs.declared.task.FileProperty.{FileProperty}
use Rattle.gb_plan.specs.declared.task.TaskDeclaration.{TaskDeclaration as Task}
use Rattle.gb_report.specs.declared.fault.Fault.{Fault}
use Rattle.gb_tree.proofs.Answering.{all_zip_more}
use Rattle.gb_tree.proofs.Starting.{found_in_order}
use Rattle.gb_tree.specs.Answered.{IsFileRead, IsStartListed, IsTreeRead, WereObserved, listed_in as in_listings}
use Rattle.gb_tree.specs.Property.{distinct, doubled, entries_in, entries_of, found_from, in_order, paths_of, places_of, starts_in}
use Rattle.gb_tree.specs.Reading.{entries_observed}
use Rattle.gb_tree.specs.Tree.{Entries, bytes_at, contents_at, is_large, special_roots, too_large, too_many}
use Rattle.gb_tree.specs.declared.fault.TreeFault.{TreeFault}
use Rattle.gb_tree.specs.declared.fault.TreeFault.TheVariants as trees
use Rattle.gb_tree.specs.declared.kept.ScannedFile.{ScannedFile}
use Rattle.gb_tree.specs.declared.property.Naming.{Naming}
use Rattle.gb_answers.proofs.Back.{AreAnswersOf, listed_in, read_in}
use Rattle.gb_folder.specs.Calls.{Device}

-- ---- What contents have

-- the contents have these bytes at the place, which are no more than can be read
abbrev pub HasFile : Contents → Place → Bytes → Type 0
HasFile contents place bytes = (file_at contents.files place ≡ Some bytes) × (length bytes ≤ max_file)

pub bytes_are : (contents : Contents) (place : Place) (bytes : Bytes) → HasFile contents place bytes → bytes_at contents.files place ≡ bytes
bytes_are contents place bytes has = ap (λ o. unwrap_or o []) has.0

pub not_large : (contents : Contents) (place : Place) (bytes : Bytes) → HasFile contents place bytes → is_large contents.files place ≡ false
not_large contents place bytes has =
    ap (λ (b : Bytes). nat_lt max_file (length b)) (bytes_are contents place bytes has) ∙ le-ltb max_file (length bytes) has.1

-- each file of a tree is that of its entry
abbrev pub HasFileOf : Contents → List ℕ × Place → List ℕ × Bytes → Type 0
HasFileOf contents entry file = (file.0 ≡ entry.0) × HasFile contents entry.1 file.1

abbrev pub AreSmall : Contents → Entries → Type 0
AreSmall contents entries = AllByRecursion (λ (entry : List ℕ × Place). is_large contents.files entry.1 ≡ false) entries

pub tree_has : (contents : Contents) (entries : Entries) (files : Files) → AllZip (HasFileOf contents) entries files → files ≡ contents_at contents.files entries
tree_has contents [] [] all = refl
tree_has contents [] (file ∷ files) all = absurd all
tree_has contents (entry ∷ entries) [] all = absurd all
tree_has contents (entry ∷ entries) (file ∷ files) all =
    ap₂ (λ (one : List ℕ × Bytes) (more : Files). one ∷ more)
    (ap₂ (λ (path : List ℕ) (bytes : Bytes). let one : List ℕ × Bytes = (path, bytes) in one) all.0.0 (sym (bytes_are contents entry.1 file.1 all.0.1)))
    (tree_has contents entries files all.1)

tree_small : (contents : Contents) (entries : Entries) (files : Files) → AllZip (HasFileOf contents) entries files → AreSmall contents entries
tree_small contents [] [] all = tt
tree_small contents [] (file ∷ files) all = absurd all
tree_small contents (entry ∷ entries) [] all = absurd all
tree_small contents (entry ∷ entries) (file ∷ files) all = (not_large contents entry.1 file.1 all.0.1, tree_small contents entries files all.1)

none_large : (contents : Contents) (entries : Entries) → AreSmall contents entries → too_large contents.files entries ≡ []
none_large contents [] small = refl
none_large contents (entry ∷ entries) small =
    let rest = filter (λ (other : List ℕ × Place). is_large contents.files other.1) entries in
    ap (λ b. map (λ (other : List ℕ × Place). trees.TooLarge other.1) (cond b (entry ∷ rest) rest)) small.0 ∙ none_large contents entries small.1

-- ---- The entries of a property

-- these places were listed at the start, and there is nothing special
abbrev HasPlaces : Contents → Place × Place → List Place → Type 0
HasPlaces contents start places = (places ≡ places_under contents.files start.1) × (is_special_under contents start.1 ≡ false)

found_there : (naming : Naming) (include exclude : List (List ℕ)) (contents : Contents) (starts : List (Place × Place)) (listings : List (List Place))
    → AllZip (HasPlaces contents) starts listings → in_listings naming include exclude (zip starts listings) ≡ found_from naming include exclude contents.files starts
found_there naming include exclude contents [] [] all = refl
found_there naming include exclude contents [] (places ∷ listings) all = absurd all
found_there naming include exclude contents (start ∷ starts) [] all = absurd all
found_there naming include exclude contents (start ∷ starts) (places ∷ listings) all =
    ap₂ (λ (here : List Place) (more : Entries). entries_in naming include exclude start.0 here ++ more)
    all.0.0 (found_there naming include exclude contents starts listings all.1)

none_special : (contents : Contents) (starts : List (Place × Place)) (listings : List (List Place)) → AllZip (HasPlaces contents) starts listings
    → special_roots contents (places_of starts) ≡ []
none_special contents [] [] all = refl
none_special contents [] (places ∷ listings) all = absurd all
none_special contents (start ∷ starts) [] all = absurd all
none_special contents (start ∷ starts) (places ∷ listings) all =
    let rest = filter (is_special_under contents) (places_of starts) in
    ap (λ b. map trees.BadFileName (cond b (start.1 ∷ rest) rest)) all.0.1 ∙ none_special contents starts listings all.1

-- the entries are those of the property, and nothing prevents listing them
pub record HasEntries (contents : Contents) (property : FileProperty) (entries : Entries) : Type 0 where
  pub are : entries ≡ entries_of property.naming property.roots property.include property.exclude contents.files
  pub ordinary : special_roots contents (places_of (starts_in property.include (distinct property.roots))) ≡ []
  pub few : nat_lt max_files (length entries) ≡ false
  pub single : doubled (paths_of entries) ≡ []

no_faults : (contents : Contents) (property : FileProperty) (entries : Entries) → HasEntries contents property entries → AreSmall contents entries → tree_faults property contents ≡ []
no_faults contents property entries has small =
    let special = special_roots contents (places_of (starts_in property.include (distinct property.roots))) in
    ap (map reported_of_tree)
    (ap (λ (es : Entries). (special ++ too_many property.name es ++ map (trees.DuplicateInput property.name) (doubled (paths_of es))) ++ too_large contents.files es) (sym has.are)
    ∙ ap (λ (faults : List TreeFault). (faults ++ too_many property.name entries ++ map (trees.DuplicateInput property.name) (doubled (paths_of entries))) ++ too_large contents.files entries) has.ordinary
    ∙ ap (λ b. (cond b (trees.TooManyFiles property.name ∷ []) [] ++ map (trees.DuplicateInput property.name) (doubled (paths_of entries))) ++ too_large contents.files entries) has.few
    ∙ ap (λ (paths : List (List ℕ)). map (trees.DuplicateInput property.name) paths ++ too_large contents.files entries) has.single
    ∙ none_large contents entries small)

-- ---- Several properties

-- what property and x are together shows that the property can be read
none_of : {X : Type 0} (R : FileProperty → X → Type 0) (contents : Contents) → ((property : FileProperty) (x : X) → R property x → tree_faults property contents ≡ [])
    → (properties : List FileProperty) (xs : List X) → AllZip R properties xs → flat_map (λ property. tree_faults property contents) properties ≡ []
none_of R contents step [] [] all = refl
none_of R contents step [] (x ∷ xs) all = absurd all
none_of R contents step (property ∷ properties) [] all = absurd all
none_of R contents step (property ∷ properties) (x ∷ xs) all =
    ap₂ (λ (here : List Fault) (more : List Fault). here ++ more) (step property x all.0) (none_of R contents step properties xs all.1)

heads : {X : Type 0} (x y : X) (xs ys : List X) → x ∷ xs ≡ y ∷ ys → (x ≡ y) × (xs ≡ ys)
heads x y xs ys e = (cc, cc)

abbrev IsTreeOf : Contents → FileProperty → List ℕ × Files → Type 0
IsTreeOf contents property tree = tree.1 ≡ tree_of property contents.files

trees_named : (contents : Contents) (properties : List FileProperty) (trees : Trees) → AllZip (IsTreeOf contents) properties trees
    → map (λ tree. tree.0) trees ≡ given_files properties → trees ≡ map (λ property. (property.name, tree_of property contents.files)) properties
trees_named contents [] [] all named = refl
trees_named contents [] (tree ∷ trees) all named = absurd all
trees_named contents (property ∷ properties) [] all named = absurd all
trees_named contents (property ∷ properties) (tree ∷ trees) all named =
    let names = heads tree.0 property.name (map (λ (t : List ℕ × Files). t.0) trees) (given_files properties) named in
    ap₂ (λ (one : List ℕ × Files) (more : Trees). one ∷ more)
    (ap₂ (λ (name : List ℕ) (files : Files). let one : List ℕ × Files = (name, files) in one) names.0 all.0)
    (trees_named contents properties trees all.1 names.1)

-- ---- Whether there is a source

empty_alike : (files : Files) (observed : List ScannedFile) → is_empty observed ≡ is_empty (contents_at files (entries_observed observed))
empty_alike files [] = refl
empty_alike files (file ∷ observed) = refl

abbrev IsEmptyAlike : Contents → FileProperty → Read → Type 0
IsEmptyAlike contents property reading = is_empty reading.1 ≡ is_empty (tree_of property contents.files)

same_reasons : (contents : Contents) (properties : List FileProperty) (readings : List Read) → AllZip (IsEmptyAlike contents) properties readings
    → list_all gives_no_source (zip properties readings)
    ≡ list_all (λ property. is_empty (tree_of property contents.files)) (filter (λ property. property.skip_when_empty) properties)
same_reasons contents [] [] all = refl
same_reasons contents [] (reading ∷ readings) all = absurd all
same_reasons contents (property ∷ properties) [] all = absurd all
same_reasons contents (property ∷ properties) (reading ∷ readings) all =
    ap₂ (λ here more. (not property.skip_when_empty || here) && more) all.0 (same_reasons contents properties readings all.1)
    ∙ by_test property.skip_when_empty
  where
    passes : FileProperty → Bool
    passes p = is_empty (tree_of p contents.files)

    by_test : (b : Bool) → ((not b || passes property) && list_all passes (filter (λ p. p.skip_when_empty) properties))
        ≡ list_all passes (cond b (property ∷ filter (λ p. p.skip_when_empty) properties) (filter (λ p. p.skip_when_empty) properties))
    by_test true = refl
    by_test false = refl

-- ---- What was read on the way to a state

module _ {F : Type 0} (device : Device F) (leaves : Tearing) (Shows : F → Contents → Type 0)
    (are : AreAnswersOf device.allowed leaves Shows) (old new : F) (contents : Contents) (shows : Shows new contents) where
  file_read : (place : Place) (bytes : Bytes) → WereRead device old new place bytes → HasFile contents place bytes
  file_read place bytes were = read_in device leaves Shows are old new contents shows place bytes were

  -- the files of a tree that was read are those of its entries
  pub has_tree : (entries : Entries) (files : Files) → IsTreeRead device old new entries files → AllZip (HasFileOf contents) entries files
  has_tree entries files was =
      all_zip_more (IsFileRead device old new) (HasFileOf contents) (λ entry file is. (is.0, file_read entry.1 file.1 is.1)) entries files was

  observed_small : (observed : List ScannedFile) → WereObserved device old new observed → AreSmall contents (entries_observed observed)
  observed_small [] all = tt
  observed_small (file ∷ observed) all = (not_large contents file.place all.0.0 (file_read file.place all.0.0 all.0.1), observed_small observed all.1)

  -- the entries of a property that were listed are those of the property
  pub has_entries : (property : FileProperty) (entries : Entries) → AreEntriesOf device old new property entries → HasEntries contents property entries
  has_entries property entries were =
      let starts = starts_in property.include (distinct property.roots) in
      let there : AllZip (HasPlaces contents) starts were.listings =
      all_zip_more (IsStartListed device old new) (HasPlaces contents)
      (λ start places is. listed_in device leaves Shows are old new contents shows start.1 places is) starts were.listings were.listed in
      record {
        are = were.are ∙ ap in_order (found_there property.naming property.include property.exclude contents starts were.listings there)
            ∙ found_in_order property.naming property.roots property.include property.exclude contents.files;
        ordinary = none_special contents starts were.listings there;
        few = were.few;
        single = were.single;
      }

  tree_is : (property : FileProperty) (tree : List ℕ × Files) → IsInputRead device old new property tree → IsTreeOf contents property tree
  tree_is property tree was =
      tree_has contents was.0 tree.1 (has_tree was.0 tree.1 was.2) ∙ ap (contents_at contents.files) (has_entries property was.0 was.1).are

  readable : (property : FileProperty) (tree : List ℕ × Files) → IsInputRead device old new property tree → tree_faults property contents ≡ []
  readable property tree was = no_faults contents property was.0 (has_entries property was.0 was.1) (tree_small contents was.0 tree.1 (has_tree was.0 tree.1 was.2))

  answered : (property : FileProperty) (reading : Read) → IsInputAnswered device old new property reading → tree_faults property contents ≡ []
  answered property reading was =
      no_faults contents property (entries_observed reading.1) (has_entries property (entries_observed reading.1) was.0) (observed_small reading.1 was.1)

  alike : (property : FileProperty) (reading : Read) → IsInputAnswered device old new property reading → IsEmptyAlike contents property reading
  alike property reading was =
      empty_alike contents.files reading.1
      ∙ ap (λ (entries : Entries). is_empty (contents_at contents.files entries)) (has_entries property (entries_observed reading.1) was.0).are

  -- the trees that were read are those of the contents
  pub trees_are : (task : Task) (trees : Trees) → AreInputsRead device old new task trees → map (λ tree. tree.0) trees ≡ given_files task.files
      → trees ≡ trees_of task contents.files
  trees_are task trees were named =
      trees_named contents task.files trees (all_zip_more (IsInputRead device old new) (IsTreeOf contents) tree_is task.files trees were) named

  -- and nothing prevents reading them
  pub inputs_readable : (task : Task) (trees : Trees) → AreInputsRead device old new task trees → input_faults task contents ≡ []
  inputs_readable task trees were = none_of (IsInputRead device old new) contents readable task.files trees were

  -- nor the inputs that were answered
  pub answered_readable : (task : Task) (inputs : List Read) → AreInputsAnswered device old new task inputs → input_faults task contents ≡ []
  answered_readable task inputs were = none_of (IsInputAnswered device old new) contents answered task.files inputs were

  -- they give the task a source if the contents do
  pub source_alike : (task : Task) (inputs : List Read) → AreInputsAnswered device old new task inputs
      → lacks_source task.files inputs ≡ has_no_source task contents.files
  source_alike task inputs were =
      ap (λ b. list_any (λ property. property.skip_when_empty) task.files && b)
      (same_reasons contents task.files inputs (all_zip_more (IsInputAnswered device old new) (IsEmptyAlike contents) alike task.files inputs were))

  pub sourced : (task : Task) → WasSourced device old new task → has_no_source task contents.files ≡ false
  sourced task was = sym (source_alike task was.0 was.1) ∙ was.2

  pub sourceless : (task : Task) → WasSourceless device old new task → has_no_source task contents.files ≡ true
  sourceless task was = sym (source_alike task was.0 was.1) ∙ was.2
