-- Elements of which no two have one key: tasks by their paths, outputs by their names.
use Rattle.std.proofs.Common.{◌≡◌, ℕ, zero, suc, Bool, true, false, ◌||◌, ◌&&◌, cond, List, [], ◌∷◌, ◌++◌, map, refl, sym, ap, subst, ◌∙◌, Some, append_assoc}
use Rattle.std.proofs.lemmas.List.{append-nil}
use Rattle.std.proofs.lemmas.List.Elements.{filter_map-append}
use Rattle.std.proofs.lemmas.List.Folds.{list_any-append}
use Rattle.std.specs.Cmp.Lexicographic.{bytes_decides, nat_list_cmp_total}
use Rattle.std.specs.Cmp.{tied_itself}
use Rattle.std.specs.Prelude.{T, bytes_eq, filter_map, fold, slice_get}
use Rattle.std.specs.List.{AllByRecursion, list_any}
use Rattle.std.specs.FinMap.Entries.{below_all, is_sorted, is_sorted-put, put}
use Rattle.std.specs.Ordering.{is_lt}
use Rattle.std.specs.declared.cmp.Ordering.{Ordering}
use Rattle.std.specs.declared.cmp.Ordering.TheVariants.{Less, Equal, Greater}
use Rattle.gb_core.specs.Lists.{byte_order}
use Rattle.gb_plan.proofs.Tests.{not_false, none_left}
use Rattle.gb_registry.specs.Configure.{each_after, statement_faults}
use Rattle.gb_registry.specs.Projects.{Path, is_among}
use Rattle.gb_registry.specs.Said.{Registered, Said, paths_of, registered_by, registered_path}
use Rattle.gb_core.specs.Path.{task_in}
use Rattle.gb_registry.specs.Tables.{Tables}
use Rattle.gb_script.specs.declared.script.Statement.{Statement}
use Rattle.gb_script.specs.declared.script.Statement.TheVariants as statements
use Rattle.gb_declare.specs.Joined.{Named, by_name}
use Rattle.gb_registry.proofs.Fine.{nil_back, nil_prefix}

pub among_itself : (texts : List (List ℕ)) (text : List ℕ) → is_among (texts ++ text ∷ []) text ≡ true
among_itself texts text =
    list_any-append (bytes_eq text) texts (text ∷ []) ∙ ap (λ b. list_any (bytes_eq text) texts || (b || false)) ((bytes_decides text text).1 refl) ∙ last (list_any (bytes_eq text) texts)
  where
    last : (b : Bool) → (b || (true || false)) ≡ true
    last true = refl
    last false = refl

pub among_more : (texts more : List (List ℕ)) (text : List ℕ) → is_among (texts ++ more) text ≡ false → is_among texts text ≡ false
among_more texts more text none = none_left (is_among texts text) (is_among more text) (sym (list_any-append (bytes_eq text) texts more) ∙ none)

first_T : (a b : Bool) → T (a && b) → T a
first_T true b p = tt
first_T false b p = p

second_T : (a b : Bool) → T (a && b) → T b
second_T true b p = p
second_T false b p = absurd p

is_less : (o : Ordering) → T (is_lt o) → o ≡ Less
is_less Less p = refl
is_less Equal p = absurd p
is_less Greater p = absurd p

module _ {X : Type 0} (key : X → List ℕ) where
  -- none has a key that is present before
  abbrev pub Separate : List (List ℕ) → List X → Type 0
  Separate before [] = Unit {0}
  Separate before (x ∷ xs) = (is_among before (key x) ≡ false) × Separate (before ++ key x ∷ []) xs

  separate_new : (before : List (List ℕ)) (xs : List X) (i : ℕ) (x : X) → Separate before xs → slice_get xs i ≡ Some x → is_among before (key x) ≡ false
  separate_new before [] i x separate is = absurd (cc)
  separate_new before (y ∷ xs) zero x separate is = let same : y ≡ x = cc in subst (λ z. is_among before (key z) ≡ false) same separate.0
  separate_new before (y ∷ xs) (suc i) x separate is = among_more before (key y ∷ []) (key x) (separate_new (before ++ key y ∷ []) xs i x separate.1 is)

  clash : (before : List (List ℕ)) (xs : List X) (i : ℕ) (x y : X) → Separate (before ++ key x ∷ []) xs → slice_get xs i ≡ Some y → key x ≡ key y → ⊥
  clash before xs i x y separate is same =
      not_false (sym (among_itself before (key x)) ∙ ap (is_among (before ++ key x ∷ [])) same ∙ separate_new (before ++ key x ∷ []) xs i y separate is)

  -- so the elements of one key are one
  pub separate_same : (before : List (List ℕ)) (xs : List X) (i j : ℕ) (x y : X) → Separate before xs → slice_get xs i ≡ Some x → slice_get xs j ≡ Some y → key x ≡ key y → x ≡ y
  separate_same before [] i j x y separate is_x is_y same = absurd (cc)
  separate_same before (z ∷ xs) zero zero x y separate is_x is_y same = cc
  separate_same before (z ∷ xs) zero (suc j) x y separate is_x is_y same =
      let one : z ≡ x = cc in absurd (clash before xs j z y separate.1 is_y (ap key one ∙ same))
  separate_same before (z ∷ xs) (suc i) zero x y separate is_x is_y same =
      let one : z ≡ y = cc in absurd (clash before xs i z x separate.1 is_x (ap key one ∙ sym same))
  separate_same before (z ∷ xs) (suc i) (suc j) x y separate is_x is_y same = separate_same (before ++ key z ∷ []) xs i j x y separate.1 is_x is_y same

  -- one in the middle has none of the keys before it
  pub separate_at : (before : List (List ℕ)) (prefix : List X) (x : X) (back : List X) → Separate before (prefix ++ x ∷ back) → is_among (before ++ map key prefix) (key x) ≡ false
  separate_at before [] x back separate = ap (λ texts. is_among texts (key x)) (append-nil before) ∙ separate.0
  separate_at before (y ∷ prefix) x back separate =
      ap (λ texts. is_among texts (key x)) (sym (append_assoc before (key y ∷ []) (map key prefix))) ∙ separate_at (before ++ key y ∷ []) prefix x back separate.1

-- ---- Tasks

abbrev pub path_of : Registered → Path
path_of task = task.path

new_by : {X : Type 0} (b : Bool) (x : X) (others : List X) → cond b (x ∷ []) others ≡ [] → b ≡ false
new_by true x others none = absurd (cc)
new_by false x others none = refl

abbrev pub says : Path → Statement → Said
says project statement = record { project = project; statement = statement }

more_paths : (done : List Said) (s : Said) → paths_of (done ++ s ∷ []) ≡ paths_of done ++ paths_of (s ∷ [])
more_paths done s = filter_map-append registered_path done (s ∷ [])

module _ {M F Z S A : Type 0} (tables : Tables M F Z S A) (said : List Said) where
  abbrev AreNew : List Said → List Said → Type 0
  AreNew done rest = Separate path_of (paths_of done) (filter_map (registered_by said) rest)

  passed : (done : List Said) (s : Said) (rest : List Said) → paths_of (s ∷ []) ≡ [] → AreNew (done ++ s ∷ []) rest → AreNew done rest
  passed done s rest none later =
      subst (λ paths. Separate path_of paths (filter_map (registered_by said) rest)) (more_paths done s ∙ ap (λ ps. paths_of done ++ ps) none ∙ append-nil (paths_of done)) later

  step : (done : List Said) (project : Path) (statement : Statement) (rest : List Said) → statement_faults tables done (says project statement) ≡ []
      → AreNew (done ++ says project statement ∷ []) rest → AreNew done (says project statement ∷ rest)
  step done project (statements.DefaultTasks texts) rest none later = passed done (says project (statements.DefaultTasks texts)) rest refl later
  step done project (statements.Property name) rest none later = passed done (says project (statements.Property name)) rest refl later
  step done project (statements.Set a) rest none later = passed done (says project (statements.Set a)) rest refl later
  step done project (statements.Convention a) rest none later = passed done (says project (statements.Convention a)) rest refl later
  step done project (statements.Unset name) rest none later = passed done (says project (statements.Unset name)) rest refl later
  step done project (statements.DisallowChanges name) rest none later = passed done (says project (statements.DisallowChanges name)) rest refl later
  step done project (statements.Named c) rest none later = passed done (says project (statements.Named c)) rest refl later
  step done project (statements.Register r) rest none later = (
    new_by (is_among (paths_of done) (task_in project r.name)) _ _ none,
    subst (λ paths. Separate path_of paths (filter_map (registered_by said) rest)) (more_paths done (says project (statements.Register r))) later,
  )

  -- no task is registered twice
  pub tasks_distinct : (done rest : List Said) → each_after (statement_faults tables) done rest ≡ [] → AreNew done rest
  tasks_distinct done [] none = tt
  tasks_distinct done (s ∷ rest) none =
      step done s.project s.statement rest (nil_prefix (statement_faults tables done s) (each_after (statement_faults tables) (done ++ s ∷ []) rest) none)
      (tasks_distinct (done ++ s ∷ []) rest (nil_back (statement_faults tables done s) (each_after (statement_faults tables) (done ++ s ∷ []) rest) none))

-- ---- Names in their order

less_separate : (a b : List ℕ) → byte_order a b ≡ Less → bytes_eq b a ≡ false
less_separate a b less =
    elim (bytes_eq b a) as (λ same. bytes_eq b a ≡ same → same ≡ false) [
      | true ↦ λ same.
          let one : b ≡ a = (bytes_decides b a).0 same in
          let clash : byte_order a a ≡ Less = ap (byte_order a) (sym one) ∙ less in
          let itself : byte_order a a ≡ Equal = tied_itself nat_list_cmp_total a in
          absurd (cc)
      | false ↦ λ _. refl
    ] refl

module _ {X : Type 0} where
  abbrev pub name_in : Named X → List ℕ
  name_in entry = entry.0

  -- these all come before what follows
  abbrev AllBelow : List (List ℕ) → List (Named X) → Type 0
  AllBelow before entries = AllByRecursion (λ name. T (below_all byte_order name entries)) before

  none_of : (before : List (List ℕ)) (e : Named X) (entries : List (Named X)) → AllBelow before (e ∷ entries) → is_among before e.0 ≡ false
  none_of [] e entries below = refl
  none_of (name ∷ before) e entries below =
      ap (λ b. b || is_among before e.0) (less_separate name e.0 (is_less (byte_order name e.0) (first_T _ _ below.0))) ∙ none_of before e entries below.1

  next_below : (before : List (List ℕ)) (e : Named X) (entries : List (Named X)) → AllBelow before (e ∷ entries) → T (below_all byte_order e.0 entries) → AllBelow (before ++ e.0 ∷ []) entries
  next_below [] e entries below own = (own, tt)
  next_below (name ∷ before) e entries below own = (second_T _ _ below.0, next_below before e entries below.1 own)

  sorted_separate : (before : List (List ℕ)) (entries : List (Named X)) → AllBelow before entries → T (is_sorted byte_order entries) → Separate name_in before entries
  sorted_separate before [] below sorted = tt
  sorted_separate before (e ∷ entries) below sorted = (
    none_of before e entries below,
    sorted_separate (before ++ e.0 ∷ []) entries (next_below before e entries below (first_T _ _ sorted)) (second_T _ _ sorted),
  )

  there_sorted : (there entries : List (Named X)) → T (is_sorted byte_order there) → T (is_sorted byte_order (fold (λ there entry. put byte_order entry.0 entry.1 there) there entries))
  there_sorted there [] sorted = sorted
  there_sorted there (e ∷ entries) sorted = there_sorted (put byte_order e.0 e.1 there) entries (is_sorted-put byte_order nat_list_cmp_total e.0 e.1 there sorted)

  -- each name occurs once
  pub names_distinct : (entries : List (Named X)) → Separate name_in [] (by_name entries)
  names_distinct entries = sorted_separate [] (by_name entries) tt (there_sorted [] entries tt)
