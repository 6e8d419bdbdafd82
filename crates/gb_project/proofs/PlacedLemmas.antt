-- The positions of the outputs of tasks in the whole table.
use Rattle.std.proofs.Common.{◌≡◌, ℕ, zero, suc, ◌⊎◌, inl, inr, Bool, true, false, ◌&&◌, cond, List, [], ◌∷◌, ◌++◌, length, map, get_or, refl, sym, ap, subst, ◌∙◌, Option, Some, None, Result, Ok, Err, append_assoc}
use Rattle.std.proofs.lemmas.Bool.{lt-ltb}
use Rattle.std.proofs.lemmas.Grind.{flat_map-append}
use Rattle.std.proofs.lemmas.List.Folds.{find_at}
use Rattle.std.proofs.lemmas.List.Quantifiers.{position-Some}
use Rattle.std.proofs.lemmas.Option.{slice_get-get_or, slice_get-map, slice_get_within}
use Rattle.std.specs.Cmp.Derive.{both_true}
use Rattle.std.specs.Cmp.Lexicographic.{bytes_decides}
use Rattle.std.specs.Prelude.{bytes_eq, find, option_map, position, reverse, slice_get}
use Rattle.std.specs.FinMap.Entries as entries
use Rattle.std.specs.List.{AllByRecursion, flat_map, position_or_len}
use Rattle.gb_core.specs.Lists.{byte_order}
use Rattle.gb_plan.proofs.Tests.{left_of, right_of, turned}
use Rattle.gb_provider.specs.Called.{Called}
use Rattle.gb_provider.specs.Rules.{is_output, output_place}
use Rattle.gb_provider.specs.Table.{map_named, flat_map_named, zip_named}
use Rattle.gb_provider.specs.declared.expression.Expression.{Expression}
use Rattle.gb_provider.specs.declared.expression.Expression.TheVariants.{Mapped, FlatMapped, Zipped}
use Rattle.gb_provider.specs.declared.fault.Chosen.{Chosen}
use Rattle.gb_report.specs.declared.fault.Fault.{Fault}
use Rattle.gb_registry.proofs.Among.{position-map}
use Rattle.gb_registry.specs.Projects.{Path}
use Rattle.gb_registry.specs.Said.{Registered, tasks_of}
use Rattle.gb_registry.specs.Source.{Source}
use Rattle.gb_registry.specs.Tables.{Tables}
use Rattle.gb_script.specs.Tree.{Tree, Root, TextOf, FlagOf, ListOf, PropertyOf, DirOf, FileOf, TheBuildDir, GradlePropertyOf, TaskOf, Link, MapBy, FlatMapBy, ZipBy, Else}
use Rattle.gb_script.specs.declared.function.Function.{Function}
use Rattle.gb_script.specs.declared.script.Statement.{Statement}
use Rattle.gb_script.specs.declared.script.Statement.TheVariants as statements
use Rattle.gb_declare.specs.Declaring.{declared}
use Rattle.gb_declare.specs.Joined as joined
use Rattle.gb_declare.specs.Joined.{Joined, Named}
use Rattle.gb_declare.specs.Spots.{Spot, Written, Made, is_spot, parts, spot_of}
use Rattle.gb_declare.specs.Whole.{expression_at, given_value, if_found, number_of, output_spots, spots, statement_spots, task_spots, trees_of, whole}
use Rattle.gb_declare.proofs.PlacedLemmas.{IsAmong, IsWritten, middle, parts_written}
use Rattle.gb_project.proofs.ListLemmas.{all_at, both_all}
use Rattle.gb_project.proofs.OnceLemmas.{Separate, separate_same, name_in, path_of}

-- ---- Outputs and their spots

module _ (M F Z : Type 0) (chosen : Chosen) where
  given_none : (o : Option (List ℕ)) → is_output chosen (given_value {M = M} {F = F} {Z = Z} o) ≡ false
  given_none None = refl
  given_none (Some text) = refl

  found_none : {X : Type 0} (step : Called X → Expression M F Z) → ((c : Called X) → is_output chosen (step c) ≡ false) → (f : Function) (o : Option X) → is_output chosen (if_found step f o) ≡ false
  found_none step none f None = refl
  found_none step none f (Some x) = none (record { name = f.name; function = x; arguments = f.arguments })

module _ {M F Z S A : Type 0} (tables : Tables M F Z S A) (source : Source) (all : List Spot) (project task : Path) (name : List ℕ) (tree : Tree) where
  abbrev at : Spot → Expression M F Z
  at spot = expression_at tables source all spot

  abbrev it : Chosen
  it = record { task = task; output = name }

  root_none : (project' : Path) (root : Root) → is_output it (at (Written project' root [])) ≡ false
  root_none project' (TextOf t) = refl
  root_none project' (FlagOf b) = refl
  root_none project' (ListOf trees) = refl
  root_none project' (PropertyOf w) = refl
  root_none project' (DirOf t) = refl
  root_none project' (FileOf t) = refl
  root_none project' TheBuildDir = refl
  root_none project' (GradlePropertyOf t) = given_none M F Z it (entries.find byte_order t (reverse source.given))
  root_none project' (TaskOf t) = refl

  step_none : (project' : Path) (root : Root) (link : Link) (before : List Link) → is_output it (at (Written project' root (link ∷ before))) ≡ false
  step_none project' root (MapBy f) before = found_none M F Z it (Mapped (number_of tables source all (Written project' root before))) (λ c. refl) f (map_named tables.functions f.name)
  step_none project' root (FlatMapBy f) before = found_none M F Z it (FlatMapped (number_of tables source all (Written project' root before))) (λ c. refl) f (flat_map_named tables.functions f.name)
  step_none project' root (ZipBy t f) before = found_none M F Z it (Zipped (number_of tables source all (Written project' root before)) (number_of tables source all (spot_of project' t))) (λ c. refl) f (zip_named tables.functions f.name)
  step_none project' root (Else t) before = refl

  -- an expression is the output where its spot is the output's
  output_is : (spot : Spot) → is_output it (at spot) ≡ is_spot (Made project task name tree) spot
  output_is (Written project' root []) = root_none project' root
  output_is (Written project' root (link ∷ before)) = step_none project' root link before
  output_is (Made project' task' name' tree') =
      ap (λ b. b && bytes_eq name' name) (turned task' task) ∙ ap (λ b. bytes_eq task task' && b) (turned name' name)

  pub place_is : output_place (map at all) it ≡ position (is_spot (Made project task name tree)) all
  place_is = position-map at (is_output it) all ∙ (λ i. position (λ spot. output_is spot i) all)

-- a spot of an output
pub made_spot : (project task : Path) (name : List ℕ) (tree : Tree) (spot : Spot) → is_spot (Made project task name tree) spot ≡ true
    → (project' : Path) × (tree' : Tree) × (spot ≡ Made project' task name tree')
made_spot project task name tree (Written project' root steps) is = absurd (cc)
made_spot project task name tree (Made project' task' name' tree') is =
    let tasks : task ≡ task' = (bytes_decides task task').0 (left_of (bytes_eq task task') (bytes_eq name name') is) in
    let names : name ≡ name' = (bytes_decides name name').0 (right_of (bytes_eq task task') (bytes_eq name name') is) in
    (project', tree', ap (λ t. Made project' t name' tree') (sym tasks) ∙ ap (λ n. Made project' task n tree') (sym names))

-- ---- The elements of joined lists

pub at_either : {X : Type 0} (xs ys : List X) (k : ℕ) (z : X) → slice_get (xs ++ ys) k ≡ Some z
    → ((i : ℕ) × (slice_get xs i ≡ Some z)) ⊎ ((i : ℕ) × (slice_get ys i ≡ Some z))
at_either [] ys k z is = inr (k, is)
at_either (x ∷ xs) ys zero z is = inl (0, is)
at_either (x ∷ xs) ys (suc k) z is = elim (at_either xs ys k z is) [ inl h ↦ inl (suc h.0, h.1) | inr h ↦ inr h ]

pub at_some : {X Y : Type 0} (f : X → List Y) (xs : List X) (k : ℕ) (z : Y) → slice_get (flat_map f xs) k ≡ Some z
    → (x : X) × (i : ℕ) × (slice_get xs i ≡ Some x) × ((j : ℕ) × (slice_get (f x) j ≡ Some z))
at_some f [] k z is = absurd (cc)
at_some f (x ∷ xs) k z is =
    elim (at_either (f x) (flat_map f xs) k z is) [
      | inl h ↦ (x, 0, refl, h)
      | inr h ↦ let rest = at_some f xs h.0 z h.1 in (rest.0, suc rest.1, rest.2, rest.3)
    ]

written_not : (spots : List Spot) (k : ℕ) (project task : Path) (name : List ℕ) (tree : Tree) → AllByRecursion IsWritten spots → slice_get spots k ≡ Some (Made project task name tree) → ⊥
written_not spots k project task name tree all is = all_at IsWritten spots k (Made project task name tree) all is

all_written : (project : Path) (trees : List Tree) → AllByRecursion IsWritten (flat_map (parts project) trees)
all_written project [] = tt
all_written project (tree ∷ trees) = both_all IsWritten (parts project tree) (flat_map (parts project) trees) (parts_written project tree) (all_written project trees)

statement_written : (project : Path) (statement : Statement) → AllByRecursion IsWritten (statement_spots (record { project = project; statement = statement }))
statement_written project (statements.DefaultTasks texts) = tt
statement_written project (statements.Property name) = (tt, tt)
statement_written project (statements.Set a) = all_written project (a.value ∷ [])
statement_written project (statements.Convention a) = all_written project (a.value ∷ [])
statement_written project (statements.Unset name) = tt
statement_written project (statements.DisallowChanges name) = tt
statement_written project (statements.Register r) = tt
statement_written project (statements.Named c) = tt

module _ {M F Z S A : Type 0} (tables : Tables M F Z S A) (source : Source) where
  abbrev all_spots : List Spot
  all_spots = spots tables source

  abbrev declared_of : Registered → Result Joined Fault
  declared_of task = declared tables source.names source.said task

  -- an output of a registered task that is declared
  pub record IsOutputOf (project task : Path) (name : List ℕ) (tree : Tree) : Type 0 where
    pub at : Registered
    pub index : ℕ
    pub there : slice_get (tasks_of source.said) index ≡ Some at
    pub task_is : Joined
    pub declared : declared_of at ≡ Ok task_is
    pub project_is : at.project ≡ project
    pub path_is : at.path ≡ task
    pub made : joined.Made
    pub place : ℕ
    pub output : slice_get task_is.outputs place ≡ Some (name, made)
    pub tree_is : made.1 ≡ tree

  in_outputs : (at : Registered) (index : ℕ) → slice_get (tasks_of source.said) index ≡ Some at → (task_is : Joined) → declared_of at ≡ Ok task_is
      → (k : ℕ) (project task : Path) (name : List ℕ) (tree : Tree) → slice_get (output_spots at task_is) k ≡ Some (Made project task name tree) → IsOutputOf project task name tree
  in_outputs at index there task_is is k project task name tree found =
      let made_at : Named joined.Made → Spot = λ output. Made at.project at.path output.0 output.1.1 in
      let mapped = sym (slice_get-map made_at task_is.outputs k) ∙ found in
      by (slice_get task_is.outputs k) refl mapped
    where
      by : (o : Option (Named joined.Made)) → slice_get task_is.outputs k ≡ o → option_map (λ (output : Named joined.Made). Made at.project at.path output.0 output.1.1) o ≡ Some (Made project task name tree) → IsOutputOf project task name tree
      by None at_k same = absurd (cc)
      by (Some output) at_k same =
          let spot : Made at.project at.path output.0 output.1.1 ≡ Made project task name tree = cc in
          let projects : at.project ≡ project = cc in
          let paths : at.path ≡ task = cc in
          let names : output.0 ≡ name = cc in
          let trees : output.1.1 ≡ tree = cc in
          record {
            at = at;
            index = index;
            there = there;
            task_is = task_is;
            declared = is;
            project_is = projects;
            path_is = paths;
            made = output.1;
            place = k;
            output = at_k ∙ ap (λ n. Some (n, output.1)) names;
            tree_is = trees;
          }

  in_task : (at : Registered) (index : ℕ) → slice_get (tasks_of source.said) index ≡ Some at → (r : Result Joined Fault) → declared_of at ≡ r
      → (k : ℕ) (project task : Path) (name : List ℕ) (tree : Tree) → slice_get (task_spots at r) k ≡ Some (Made project task name tree) → IsOutputOf project task name tree
  in_task at index there (Err fault) is k project task name tree found = absurd (cc)
  in_task at index there (Ok task_is) is k project task name tree found =
      elim (at_either (flat_map (parts at.project) (trees_of task_is)) (output_spots at task_is) k (Made project task name tree) found) [
        | inl h ↦ absurd (written_not (flat_map (parts at.project) (trees_of task_is)) h.0 project task name tree (all_written at.project (trees_of task_is)) h.1)
        | inr h ↦ in_outputs at index there task_is is h.0 project task name tree h.1
      ]

  -- a spot of an output is one of a task that is declared
  pub is_of_task : (k : ℕ) (project task : Path) (name : List ℕ) (tree : Tree) → slice_get all_spots k ≡ Some (Made project task name tree) → IsOutputOf project task name tree
  is_of_task k project task name tree found =
      let of_statements = flat_map statement_spots source.said in
      let of_tasks = flat_map (λ at. task_spots at (declared_of at)) (tasks_of source.said) in
      elim (at_either of_statements of_tasks k (Made project task name tree) found) [
        | inl h ↦
            let s = at_some statement_spots source.said h.0 (Made project task name tree) h.1 in
            absurd (written_not (statement_spots s.0) s.3.0 project task name tree (statement_written s.0.project s.0.statement) s.3.1)
        | inr h ↦
            let t = at_some (λ at. task_spots at (declared_of at)) (tasks_of source.said) h.0 (Made project task name tree) h.1 in
            in_task t.0 t.1 t.2 (declared_of t.0) refl t.3.0 project task name tree t.3.1
      ]

-- ---- What is first

-- an element that passes is in the list, so a first one is found
found_by : {X : Type 0} (p : X → Bool) (y : X) (more : Option X) (b : Bool) → p y ≡ b → ((b ≡ false) → (z : X) × (more ≡ Some z) × (p z ≡ true)) → (z : X) × (cond b (Some y) more ≡ Some z) × (p z ≡ true)
found_by p y more true is rest = (y, refl, is)
found_by p y more false is rest = rest refl

first_such : {X : Type 0} (p : X → Bool) (xs : List X) (k : ℕ) (x : X) → slice_get xs k ≡ Some x → p x ≡ true → (z : X) × (find p xs ≡ Some z) × (p z ≡ true)
first_such p [] k x is e = absurd (cc)
first_such p (y ∷ ys) zero x is e =
    let same : y ≡ x = cc in
    let passes : p y ≡ true = ap p same ∙ e in
    found_by p y (find p ys) (p y) refl (λ fails. (let clash : true ≡ false = sym passes ∙ fails in absurd (cc)))
first_such p (y ∷ ys) (suc k) x is e = found_by p y (find p ys) (p y) refl (λ fails. first_such p ys k x is e)

first_place : {X : Type 0} (p : X → Bool) (xs : List X) (z : X) → slice_get xs (position_or_len p xs) ≡ Some z → position p xs ≡ Some (position_or_len p xs)
first_place p xs z is =
    ap (λ b. cond b (Some (position_or_len p xs)) None) (lt-ltb (position_or_len p xs) (length xs) (slice_get_within xs (position_or_len p xs) z is))

module _ {M F Z S A : Type 0} (tables : Tables M F Z S A) (source : Source) (separate : Separate path_of [] (tasks_of source.said)) where
  abbrev all_of : List Spot
  all_of = spots tables source

  abbrev result_of : Registered → Result Joined Fault
  result_of task = declared tables source.names source.said task

  -- outputs of one task under one name are one
  module _ (once : (task : Registered) (said : Joined) → result_of task ≡ Ok said → Separate name_in [] said.outputs) where
    pub one_output : (project project' task : Path) (name : List ℕ) (tree tree' : Tree) → IsOutputOf tables source project task name tree → IsOutputOf tables source project' task name tree'
        → Made project task name tree ≡ Made project' task name tree'
    one_output project project' task name tree tree' a b =
        let at_same : a.at ≡ b.at = separate_same path_of [] (tasks_of source.said) a.index b.index a.at b.at separate a.there b.there (a.path_is ∙ sym b.path_is) in
        let said_same : Ok a.task_is ≡ Ok b.task_is = sym a.declared ∙ ap result_of at_same ∙ b.declared in
        let task_same : a.task_is ≡ b.task_is = cc in
        let there : slice_get b.task_is.outputs a.place ≡ Some (name, a.made) = ap (λ (t : Joined). slice_get t.outputs a.place) (sym task_same) ∙ a.output in
        let output_same : ◌≡◌ {A = Named joined.Made} (name, a.made) (name, b.made) =
        separate_same name_in [] b.task_is.outputs a.place b.place (name, a.made) (name, b.made) (once b.at b.task_is b.declared) there b.output refl in
        let trees : tree ≡ tree' = sym a.tree_is ∙ ap (λ (o : Named joined.Made). o.1.1) output_same ∙ b.tree_is in
        let projects : project ≡ project' = sym a.project_is ∙ ap (λ (t : Registered). t.project) at_same ∙ b.project_is in
        ap (λ p. Made p task name tree) projects ∙ ap (λ t. Made project' task name t) trees

    module _ (project task : Path) (name : List ℕ) (tree : Tree) (place : ℕ) (among : slice_get all_of place ≡ Some (Made project task name tree)) where
      abbrev spot : Spot
      spot = Made project task name tree

      abbrev number : ℕ
      number = number_of tables source all_of spot

      itself : is_spot spot spot ≡ true
      itself = both_true ((bytes_decides task task).1 refl) ((bytes_decides name name).1 refl)

      -- the first spot of the output is it
      pub spot_there : slice_get all_of number ≡ Some spot
      spot_there =
          let first = first_such (is_spot spot) all_of place spot among itself in
          let at : slice_get all_of number ≡ Some first.0 = sym (find_at (is_spot spot) all_of) ∙ first.1 in
          let shape = made_spot project task name tree first.0 first.2 in
          let other = is_of_task tables source number shape.0 task name shape.1 (at ∙ ap Some shape.2) in
          let own = is_of_task tables source place project task name tree among in
          at ∙ ap Some shape.2 ∙ ap Some (sym (one_output project shape.0 task name tree shape.1 own other))

      pub output_there : slice_get (whole tables source) number ≡ Some (expression_at tables source all_of spot)
      output_there = slice_get-map (expression_at tables source all_of) all_of number ∙ ap (option_map (expression_at tables source all_of)) spot_there

      pub output_placed : output_place (whole tables source) (record { task = task; output = name }) ≡ Some number
      output_placed = place_is tables source all_of project task name tree ∙ first_place (is_spot spot) all_of spot spot_there

  -- an output of the whole table is one of a task that is declared
  pub output_of_task : (task : Path) (name : List ℕ) (tree : Tree) (k : ℕ) → output_place (whole tables source) (record { task = task; output = name }) ≡ Some k
      → (project : Path) × (tree' : Tree) × IsOutputOf tables source project task name tree'
  output_of_task task name tree k is =
      let blank = Made [] task name tree in
      let found = position-Some (is_spot blank) all_of k blank (sym (place_is tables source all_of [] task name tree) ∙ is) in
      let there : slice_get all_of k ≡ Some (get_or all_of k blank) = slice_get-get_or all_of k blank found.0 in
      let shape = made_spot [] task name tree (get_or all_of k blank) found.1 in
      (shape.0, shape.1, is_of_task tables source k shape.0 task name shape.1 (there ∙ ap Some shape.2))

-- ---- What a task declares is among all

module _ {M F Z S A : Type 0} (tables : Tables M F Z S A) (source : Source) where
  abbrev spots_of : Registered → List Spot
  spots_of at = task_spots at (declared tables source.names source.said at)

  pub task_among : (prefix back : List Registered) (at : Registered) → tasks_of source.said ≡ prefix ++ at ∷ back → AllByRecursion (IsAmong (spots tables source)) (spots_of at)
  task_among prefix back at split =
      let stated = flat_map statement_spots source.said in
      let before = flat_map spots_of prefix in
      let after = flat_map spots_of back in
      let tasks : flat_map spots_of (tasks_of source.said) ≡ before ++ (spots_of at ++ after) = ap (flat_map spots_of) split ∙ flat_map-append spots_of prefix (at ∷ back) in
      let is : (stated ++ before) ++ (spots_of at ++ after) ≡ spots tables source = append_assoc stated before (spots_of at ++ after) ∙ ap (λ l. stated ++ l) (sym tasks) in
      subst (λ l. AllByRecursion (IsAmong l) (spots_of at)) is (middle (stated ++ before) (spots_of at) after)
