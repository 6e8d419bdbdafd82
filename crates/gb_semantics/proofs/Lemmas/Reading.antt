-- What a task reads does not change with files that are under none of its roots.
use Rattle.std.specs.Prelude.{ℕ, ◌≡◌, Bool, true, false, not, cond, ◌&&◌, List, [], ◌∷◌, ◌++◌, map, length, nat_lt, Ok, None, bytes_eq, unwrap_or, if◌then◌else◌}
use Rattle.std.specs.List.{list_any, list_all, filter, flat_map, AllByRecursion}
use Rattle.std.specs.Ordering.{is_lt}
use Rattle.std.proofs.Common.{refl, sym, ap, ◌∙◌}
use Rattle.gb_core.specs.Place.{is_under}
use Rattle.gb_folder.specs.Files.{Place, Bytes, Files, Contents, is_empty, file_at, files_where, places_under}
use Rattle.gb_folder.specs.Limits.{max_file}
use Rattle.gb_tree.specs.Tree.{Entries, bytes_at, contents_at, special_roots, too_many, too_large}
use Rattle.gb_tree.specs.Property.{distinct, doubled, entries_in, entries_of, entry_faults, entry_order, found, in_order, inserted, is_in, path_of, paths_of, places_of, starts_in}
use Rattle.gb_tree.specs.declared.fault.TreeFault.TheVariants as trees
use Rattle.gb_tree.specs.declared.property.Naming.{Naming}
use Rattle.gb_plan.specs.declared.task.FileProperty.{FileProperty}
use Rattle.gb_plan.specs.declared.task.TaskDeclaration.{TaskDeclaration as Task}
use Rattle.gb_semantics.specs.Kinds.{Kinds}
use Rattle.gb_semantics.specs.Tree.{tree_of, trees_of, tree_faults, input_faults, has_no_source, reported_of_tree}
use Rattle.gb_semantics.specs.Made.{made, made_of}
use Rattle.gb_plan.proofs.Tests.{not_false}
use Rattle.gb_semantics.proofs.Lemmas.Files.{at-where}

flat_map_same : {X Y : Type 0} (f g : X → List Y) (xs : List X) → AllByRecursion (λ x. f x ≡ g x) xs → flat_map f xs ≡ flat_map g xs
flat_map_same f g [] h = refl
flat_map_same f g (x ∷ xs) h = λ i. h.0 i ++ flat_map_same f g xs h.1 i

map_same : {X Y : Type 0} (f g : X → Y) (xs : List X) → AllByRecursion (λ x. f x ≡ g x) xs → map f xs ≡ map g xs
map_same f g [] h = refl
map_same f g (x ∷ xs) h = λ i. h.0 i ∷ map_same f g xs h.1 i

filter_same : {X : Type 0} (p q : X → Bool) (xs : List X) → AllByRecursion (λ x. p x ≡ q x) xs → filter p xs ≡ filter q xs
filter_same p q [] h = refl
filter_same p q (x ∷ xs) h = λ i. cond (h.0 i) (x ∷ filter_same p q xs h.1 i) (filter_same p q xs h.1 i)

list_all_same : {X : Type 0} (f g : X → Bool) (xs : List X) → AllByRecursion (λ x. f x ≡ g x) xs → list_all f xs ≡ list_all g xs
list_all_same f g [] h = refl
list_all_same f g (x ∷ xs) h = λ i. h.0 i && list_all_same f g xs h.1 i

pub each : {X : Type 0} (P Q : X → Type 0) → ((x : X) → P x → Q x) → (xs : List X) → AllByRecursion P xs → AllByRecursion Q xs
each P Q f [] h = tt
each P Q f (x ∷ xs) h = (f x h.0, each P Q f xs h.1)

pub all_map : {X Y : Type 0} (P : Y → Type 0) (f : X → Y) (xs : List X) → AllByRecursion (λ x. P (f x)) xs → AllByRecursion P (map f xs)
all_map P f [] h = tt
all_map P f (x ∷ xs) h = (h.0, all_map P f xs h.1)

pub all_filter : {X : Type 0} (P : X → Type 0) (t : X → Bool) (xs : List X) → AllByRecursion P xs → AllByRecursion P (filter t xs)
all_filter P t [] h = tt
all_filter P t (x ∷ xs) h = elim (t x) as (λ b. AllByRecursion P (cond b (x ∷ filter t xs) (filter t xs))) [ true ↦ (h.0, all_filter P t xs h.1) | false ↦ all_filter P t xs h.1 ]

all_distinct : (P : List ℕ → Type 0) (xs : List (List ℕ)) → AllByRecursion P xs → AllByRecursion P (distinct xs)
all_distinct P [] h = tt
all_distinct P (x ∷ xs) h = (h.0, all_filter P (λ y. not (bytes_eq x y)) (distinct xs) (all_distinct P xs h.1))

all_append : {X : Type 0} (P : X → Type 0) (xs ys : List X) → AllByRecursion P xs → AllByRecursion P ys → AllByRecursion P (xs ++ ys)
all_append P [] ys h g = g
all_append P (x ∷ xs) ys h g = (h.0, all_append P xs ys h.1 g)

pub all_flat_map : {X Y : Type 0} (P : Y → Type 0) (f : X → List Y) (xs : List X) → AllByRecursion (λ x. AllByRecursion P (f x)) xs → AllByRecursion P (flat_map f xs)
all_flat_map P f [] h = tt
all_flat_map P f (x ∷ xs) h = all_append P (f x) (flat_map f xs) h.0 (all_flat_map P f xs h.1)

-- what holds of each entry holds of each once they are in order
all_inserted : (P : List ℕ × Place → Type 0) (entry : List ℕ × Place) (entries : Entries) → P entry → AllByRecursion P entries → AllByRecursion P (inserted entry entries)
all_inserted P entry [] here h = (here, tt)
all_inserted P entry (other ∷ others) here h =
    elim (is_lt (entry_order other entry)) as (λ b. AllByRecursion P (cond b (other ∷ inserted entry others) (entry ∷ other ∷ others))) [
      | true ↦ (h.0, all_inserted P entry others here h.1)
      | false ↦ (here, h)
    ]

pub all_in_order : (P : List ℕ × Place → Type 0) (entries : Entries) → AllByRecursion P entries → AllByRecursion P (in_order entries)
all_in_order P [] h = tt
all_in_order P (entry ∷ entries) h = all_inserted P entry (in_order entries) h.0 (all_in_order P entries h.1)

where_where : (inner test : Place → Bool) → ((q : Place) → inner q ≡ true → test q ≡ true) → (files : Files) → files_where inner (files_where test files) ≡ files_where inner files
where_where inner test h [] = refl
where_where inner test h (f ∷ files) =
    let rest = where_where inner test h files in
    elim (test f.0) as (λ b. test f.0 ≡ b → files_where inner (cond b (f ∷ files_where test files) (files_where test files)) ≡ cond (inner f.0) (f ∷ files_where inner files) (files_where inner files)) [
      | true ↦ λ _. ap (λ xs. cond (inner f.0) (f ∷ xs) xs) rest
      | false ↦ λ out. elim (inner f.0) as (λ b. inner f.0 ≡ b → files_where inner (files_where test files) ≡ cond b (f ∷ files_where inner files) (files_where inner files)) [
        | true ↦ λ e. not_false (sym (h f.0 e) ∙ out)
        | false ↦ λ _. rest
      ] refl
    ] refl

-- each place of the files that pass a test passes it
pub all_where : (P : Place → Type 0) (inner : Place → Bool) → ((q : Place) → inner q ≡ true → P q) → (files : Files) → AllByRecursion P (map (λ (file : Place × Bytes). file.0) (files_where inner files))
all_where P inner h [] = tt
all_where P inner h (f ∷ files) =
    elim (inner f.0) as (λ b. inner f.0 ≡ b → AllByRecursion P (map (λ (file : Place × Bytes). file.0) (cond b (f ∷ files_where inner files) (files_where inner files)))) [
      | true ↦ λ e. (h f.0 e, all_where P inner h files)
      | false ↦ λ _. all_where P inner h files
    ] refl

-- what holds of each place under the roots holds of each entry of a property
pub all_entries : (P : Place → Type 0) (naming : Naming) (include exclude : List (List ℕ)) (files : Files) (roots : List Place)
    → AllByRecursion (λ root. AllByRecursion P (places_under files root)) roots → AllByRecursion (λ (entry : List ℕ × Place). P entry.1) (found naming include exclude files roots)
all_entries P naming include exclude files roots h =
    all_flat_map (λ (entry : List ℕ × Place). P entry.1) (λ root. entries_in naming include exclude root (places_under files root)) roots
    (each _ _ (λ root all. all_map (λ (entry : List ℕ × Place). P entry.1) (λ place. (path_of naming root place, place)) (filter (is_in include exclude root) (places_under files root))
    (all_filter P (is_in include exclude root) (places_under files root) all)) roots h)

module _ (test : Place → Bool) where
  -- every place under the root passes
  abbrev pub Unobserved : Place → Type 0
  Unobserved root = (q : Place) → is_under q root ≡ true → test q ≡ true

  abbrev Passes : List ℕ × Place → Type 0
  Passes entry = test entry.1 ≡ true

  bytes_same : (files : Files) (place : Place) → test place ≡ true → bytes_at (files_where test files) place ≡ bytes_at files place
  bytes_same files place e = ap (λ o. unwrap_or o []) (at-where test files place ∙ ap (λ b. cond b (file_at files place) None) e)

  module _ (property : FileProperty) (files : Files) (h : AllByRecursion Unobserved property.roots) where
    roots : List Place
    roots = distinct property.roots

    abbrev entries : Files → Entries
    entries fs = entries_of property.naming property.roots property.include property.exclude fs

    entries_same : entries (files_where test files) ≡ entries files
    entries_same =
        ap in_order
        (flat_map_same _ _ (distinct property.roots)
        (each Unobserved _ (λ root u.
        ap (λ (fs : Files). entries_in property.naming property.include property.exclude root (map (λ (file : Place × Bytes). file.0) fs))
        (where_where (λ place. is_under place root) test u files))
        (distinct property.roots) (all_distinct Unobserved property.roots h)))

    all_pass : AllByRecursion Passes (entries files)
    all_pass =
        all_in_order Passes (found property.naming property.include property.exclude files (distinct property.roots))
        (all_entries (λ place. test place ≡ true) property.naming property.include property.exclude files (distinct property.roots)
        (each Unobserved _ (λ root u. all_where (λ place. test place ≡ true) (λ place. is_under place root) u files)
        (distinct property.roots) (all_distinct Unobserved property.roots h)))

    pub tree_same : tree_of property (files_where test files) ≡ tree_of property files
    tree_same =
        ap (contents_at (files_where test files)) entries_same
        ∙ map_same _ _ (entries files) (each Passes _ (λ entry e. ap (λ (b : Bytes). (entry.0, b)) (bytes_same files entry.1 e)) (entries files) all_pass)

    large_same : too_large (files_where test files) (entries files) ≡ too_large files (entries files)
    large_same =
        ap (map (λ (entry : List ℕ × Place). trees.TooLarge entry.1))
        (filter_same _ _ (entries files) (each Passes _ (λ entry e. ap (λ (b : Bytes). nat_lt max_file (length b)) (bytes_same files entry.1 e)) (entries files) all_pass))

    tree_faults_same : (special : List (List ℕ)) → tree_faults property (record { files = files_where test files; special = special }) ≡ tree_faults property (record { files = files; special = special })
    tree_faults_same special =
        ap (map reported_of_tree)
        ((λ i. (special_roots (record { files = files; special = special }) (places_of (starts_in property.include (distinct property.roots))) ++ too_many property.name (entries_same i)
        ++ map (trees.DuplicateInput property.name) (doubled (paths_of (entries_same i)))) ++ too_large (files_where test files) (entries_same i))
        ∙ ap (λ large. entry_faults property.name property.naming property.roots property.include property.exclude (record { files = files; special = special }) ++ large) large_same)

  abbrev pub AllUnobserved : Task → Type 0
  AllUnobserved task = AllByRecursion (λ property. AllByRecursion Unobserved property.roots) task.files

  pub input_faults_same : (task : Task) (folder : Contents) (files : Files) → AllUnobserved task
      → input_faults task (record folder { files = files_where test files }) ≡ input_faults task (record folder { files = files })
  input_faults_same task folder files h = flat_map_same _ _ task.files (each _ _ (λ property u. tree_faults_same property files u folder.special) task.files h)

  pub trees_same : (task : Task) (files : Files) → AllUnobserved task → trees_of task (files_where test files) ≡ trees_of task files
  trees_same task files h = map_same _ _ task.files (each _ _ (λ property u. ap (λ tree. (property.name, tree)) (tree_same property files u)) task.files h)

  source_same : (task : Task) (files : Files) → AllUnobserved task → has_no_source task (files_where test files) ≡ has_no_source task files
  source_same task files h =
      ap (λ b. list_any (λ property. property.skip_when_empty) task.files && b)
      (list_all_same _ _ (filter (λ property. property.skip_when_empty) task.files)
      (each _ _ (λ property u. ap is_empty (tree_same property files u)) (filter (λ property. property.skip_when_empty) task.files)
      (all_filter (λ property. AllByRecursion Unobserved property.roots) (λ property. property.skip_when_empty) task.files h)))

  pub made_same : (kinds : Kinds) (task : Task) (files : Files) → AllUnobserved task → made kinds task (files_where test files) ≡ made kinds task files
  made_same kinds task files h =
      let s = source_same task files h in
      let t = trees_same task files h in
      λ i. if s i then Ok [] else made_of kinds task.actions task.values (t i) task.outputs
