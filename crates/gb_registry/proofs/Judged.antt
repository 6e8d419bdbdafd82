-- A statement is checked by the state after the statements before it as by these statements themselves.
use Rattle.std.proofs.Common.{◌≡◌, ℕ, ◌+◌, Bool, true, false, cond, ◌||◌, List, [], ◌∷◌, ◌++◌, length, map, filter, refl, sym, ap, subst, ◌∙◌, arith, length-append}
use Rattle.std.specs.Prelude.{filter_map, if◌then◌else◌, nat_le, bytes_eq}
use Rattle.std.specs.List.{list_any}
use Rattle.std.specs.Cmp.Lexicographic.{bytes_decides}
use Rattle.std.proofs.lemmas.List.Folds.{list_any-append}
use Rattle.std.proofs.lemmas.List.{append-nil, map-append}
use Rattle.std.proofs.lemmas.List.Elements.{filter-append, filter_map-append}
use Rattle.gb_core.specs.Path.{task_in}
use Rattle.gb_report.specs.declared.fault.Fault.{Fault}
use Rattle.gb_report.specs.declared.fault.Fault.TheVariants as faults
use Rattle.gb_report.specs.declared.fault.Limited.TheVariants as limited
use Rattle.gb_script.specs.Tree.{Tree}
use Rattle.gb_script.specs.declared.script.Assignment.{Assignment}
use Rattle.gb_script.specs.declared.script.Statement.{Statement}
use Rattle.gb_script.specs.declared.script.Statement.TheVariants as statements
use Rattle.gb_registry.specs.declared.so_far.SoFar.{SoFar}
use Rattle.gb_registry.specs.Configure.{change_faults, finalizes, statement_faults, statement_scope}
use Rattle.gb_registry.specs.References.{name_faults}
use Rattle.gb_registry.specs.Projects.{Path, is_among, with_path}
use Rattle.gb_registry.specs.Said.{Said, declared_property, paths_of, properties_of, registered_path, script_of}
use Rattle.gb_registry.specs.SoFar.{assignment_faults_so_far, change_faults_so_far, value_faults_so_far, so_far_after, faults_so_far}
use Rattle.gb_registry.specs.Tables.{Tables}
use Rattle.gb_registry.specs.Wrong.{property_faults, tree_faults}

-- the count of all properties that statements declare
abbrev pub count_of : List Said → ℕ
count_of before = length (filter_map (λ s. declared_property s.statement) before)

-- the state after these statements, in a script of the project
pub record IsObserved (before : List Said) (project : Path) (so_far : SoFar) : Type 0 where
  pub tasks : so_far.tasks ≡ paths_of before
  pub properties : so_far.properties ≡ properties_of before project
  pub finals : (name : List ℕ) → is_among so_far.finals name ≡ list_any (finalizes name) (script_of before project)
  pub count : so_far.count ≡ count_of before

abbrev said : Path → Statement → Said
said project statement = record { project = project; statement = statement }

module _ {M F Z S A : Type 0} (tables : Tables M F Z S A) (before : List Said) (project : Path) (so_far : SoFar) (is : IsObserved before project so_far) where
  final_is : (name : List ℕ) → (if is_among so_far.finals name then faults.Final name ∷ [] else [])
      ≡ (if list_any (finalizes name) (script_of before project) then faults.Final name ∷ [] else [])
  final_is name = ap (λ b. if b then faults.Final name ∷ [] else []) (is.finals name)

  change_is : (name : List ℕ) → change_faults_so_far so_far name ≡ change_faults (script_of before project) name
  change_is name =
      ap (λ ps. property_faults ps name ++ (if is_among so_far.finals name then faults.Final name ∷ [] else [])) is.properties
      ∙ ap (λ fs. property_faults (properties_of before project) name ++ fs) (final_is name)

  value_is : (tree : Tree) → value_faults_so_far tables project so_far tree ≡ tree_faults tables (statement_scope before project) tree
  value_is tree =
      ap (λ ps. tree_faults tables (record { project = project; properties = ps; task_faults = name_faults project }) tree) is.properties

  both_are : (a : Assignment) → assignment_faults_so_far tables project so_far a
      ≡ change_faults (script_of before project) a.name ++ tree_faults tables (statement_scope before project) a.value
  both_are a =
      ap (λ fs. fs ++ value_faults_so_far tables project so_far a.value) (change_is a.name)
      ∙ ap (λ fs. change_faults (script_of before project) a.name ++ fs) (value_is a.value)

  pub judged : (statement : Statement) → faults_so_far tables project so_far statement ≡ statement_faults tables before (said project statement)
  judged (statements.DefaultTasks texts) = refl
  judged (statements.Property name) =
      ap (λ ps. if is_among ps name then faults.DuplicateProperty name ∷ [] else (if nat_le 1024 so_far.count then faults.TooMany limited.Properties ∷ [] else [])) is.properties
      ∙ ap (λ n. if is_among (properties_of before project) name then faults.DuplicateProperty name ∷ [] else (if nat_le 1024 n then faults.TooMany limited.Properties ∷ [] else [])) is.count
  judged (statements.Set a) = both_are a
  judged (statements.Convention a) = both_are a
  judged (statements.Unset name) = change_is name
  judged (statements.DisallowChanges name) = ap (λ ps. property_faults ps name) is.properties
  judged (statements.Register r) =
      ap (λ ts. if is_among ts (task_in project r.name) then faults.DuplicateTask (task_in project r.name) ∷ [] else (if nat_le 4096 (length ts) then faults.TooMany limited.Tasks ∷ [] else [])) is.tasks
  judged (statements.Named c) = ap (λ ts. if is_among ts (task_in project c.name) then [] else faults.TaskNotFound c.name ∷ []) is.tasks

-- ---- One statement more

or-false : (b : Bool) → (b || false) ≡ b
or-false true = refl
or-false false = refl

same_project : (project : Path) → bytes_eq project project ≡ true
same_project project = (bytes_decides project project).1 refl

script_more : (before : List Said) (project : Path) (statement : Statement)
    → script_of (before ++ said project statement ∷ []) project ≡ script_of before project ++ statement ∷ []
script_more before project statement =
    ap (map (λ s. s.statement)) (filter-append (λ s. bytes_eq s.project project) before (said project statement ∷ []))
    ∙ map-append (λ s. s.statement) (filter (λ s. bytes_eq s.project project) before) (filter (λ s. bytes_eq s.project project) (said project statement ∷ []))
    ∙ ap (λ b. script_of before project ++ map (λ s. s.statement) (cond b (said project statement ∷ []) [])) (same_project project)

module _ (before : List Said) (project : Path) (so_far after : SoFar) (is : IsObserved before project so_far) (statement : Statement)
    (tasks : after.tasks ≡ so_far.tasks ++ filter_map registered_path (said project statement ∷ []))
    (properties : after.properties ≡ so_far.properties ++ filter_map declared_property (statement ∷ []))
    (finals : (name : List ℕ) → is_among after.finals name ≡ (is_among so_far.finals name || (finalizes name statement || false)))
    (count : after.count ≡ so_far.count + length (filter_map declared_property (statement ∷ []))) where
  abbrev more : List Said
  more = before ++ said project statement ∷ []

  grown : IsObserved more project after
  grown = record {
    tasks =
        tasks ∙ ap (λ ts. ts ++ filter_map registered_path (said project statement ∷ [])) is.tasks
        ∙ sym (filter_map-append registered_path before (said project statement ∷ []));
    properties =
        properties ∙ ap (λ ps. ps ++ filter_map declared_property (statement ∷ [])) is.properties
        ∙ sym (filter_map-append declared_property (script_of before project) (statement ∷ []))
        ∙ ap (filter_map declared_property) (sym (script_more before project statement));
    finals = λ name.
        finals name ∙ ap (λ b. b || (finalizes name statement || false)) (is.finals name)
        ∙ sym (list_any-append (finalizes name) (script_of before project) (statement ∷ []))
        ∙ ap (list_any (finalizes name)) (sym (script_more before project statement));
    count =
        count ∙ ap (λ n. n + length (filter_map declared_property (statement ∷ []))) is.count
        ∙ sym (length-append (filter_map (λ s. declared_property s.statement) before) (filter_map declared_property (statement ∷ [])))
        ∙ ap length (sym (filter_map-append (λ s. declared_property s.statement) before (said project statement ∷ [])));
  }

-- a test that found nothing
not_so : (b : Bool) (fault : Fault) (others : List Fault) → (if b then fault ∷ [] else others) ≡ [] → b ≡ false
not_so true fault others e = cc
not_so false fault others e = refl

among_more : (texts : List (List ℕ)) (text name : List ℕ) → is_among (with_path texts text) name ≡ (is_among texts name || (bytes_eq name text || false))
among_more texts text name = by (is_among texts text) refl (bytes_eq name text) refl
  where
    by : (b : Bool) → is_among texts text ≡ b → (d : Bool) → bytes_eq name text ≡ d
        → is_among (if b then texts else texts ++ text ∷ []) name ≡ (is_among texts name || (d || false))
    by true is false separate = sym (or-false (is_among texts name))
    by true is true same =
        subst (λ n. is_among texts n ≡ (is_among texts n || true)) (sym ((bytes_decides name text).0 same)) (is ∙ sym (ap (λ b. b || true) is))
    by false is d same = list_any-append (bytes_eq name) texts (text ∷ []) ∙ ap (λ d. is_among texts name || (d || false)) same

module _ {M F Z S A : Type 0} (tables : Tables M F Z S A) (before : List Said) (project : Path) (so_far : SoFar) (is : IsObserved before project so_far) where
  plain : (statement : Statement) → filter_map registered_path (said project statement ∷ []) ≡ [] → filter_map declared_property (statement ∷ []) ≡ []
      → ((name : List ℕ) → finalizes name statement ≡ false) → IsObserved (before ++ said project statement ∷ []) project so_far
  plain statement no_task no_property no_final =
      grown before project so_far so_far is statement
      (sym (append-nil so_far.tasks) ∙ ap (λ ts. so_far.tasks ++ ts) (sym no_task))
      (sym (append-nil so_far.properties) ∙ ap (λ ps. so_far.properties ++ ps) (sym no_property))
      (λ name. sym (or-false (is_among so_far.finals name)) ∙ ap (λ b. is_among so_far.finals name || (b || false)) (sym (no_final name)))
      (let none : length (filter_map declared_property (statement ∷ [])) ≡ 0 = ap length no_property in omega (arith, none))

  pub goes_on : (statement : Statement) → statement_faults tables before (said project statement) ≡ []
      → IsObserved (before ++ said project statement ∷ []) project (so_far_after project so_far statement)
  goes_on (statements.DefaultTasks texts) none = plain (statements.DefaultTasks texts) refl refl (λ name. refl)
  goes_on (statements.Set a) none = plain (statements.Set a) refl refl (λ name. refl)
  goes_on (statements.Convention a) none = plain (statements.Convention a) refl refl (λ name. refl)
  goes_on (statements.Unset w) none = plain (statements.Unset w) refl refl (λ name. refl)
  goes_on (statements.Named c) none = plain (statements.Named c) refl refl (λ name. refl)
  goes_on (statements.Property name) none =
      let new : is_among so_far.properties name ≡ false = ap (λ ps. is_among ps name) is.properties ∙ not_so (is_among (properties_of before project) name) _ _ none in
      grown before project so_far (so_far_after project so_far (statements.Property name)) is (statements.Property name)
      (sym (append-nil so_far.tasks))
      (ap (λ b. if b then so_far.properties else so_far.properties ++ name ∷ []) new)
      (λ n. sym (or-false (is_among so_far.finals n)))
      refl
  goes_on (statements.DisallowChanges name) none =
      grown before project so_far (so_far_after project so_far (statements.DisallowChanges name)) is (statements.DisallowChanges name)
      (sym (append-nil so_far.tasks))
      (sym (append-nil so_far.properties))
      (λ n. among_more so_far.finals name n)
      (omega arith)
  goes_on (statements.Register r) none =
      grown before project so_far (so_far_after project so_far (statements.Register r)) is (statements.Register r)
      refl
      (sym (append-nil so_far.properties))
      (λ n. sym (or-false (is_among so_far.finals n)))
      (omega arith)
