-- The needs of a realised task are registered, where no script is at fault.
use Rattle.std.proofs.Common.{◌≡◌, ℕ, Bool, true, false, ◌||◌, List, [], ◌∷◌, ◌++◌, map, fold, reverse, Option, None, Some, Result, Ok, Err, refl, sym, ap, subst, ◌∙◌}
use Rattle.std.proofs.lemmas.Slice.Eq.{bytes_eq-Decides}
use Rattle.std.specs.FinMap.Entries.{find}
use Rattle.std.specs.List.{AllByRecursion, AllZip, cons_option, flat_map}
use Rattle.std.specs.Option.{option_to_list}
use Rattle.std.specs.Prelude.{bytes_eq, filter_map, option_map, slice_get}
use Rattle.gb_core.specs.Lists.{byte_order}
use Rattle.gb_core.specs.declared.value.Value.{Value}
use Rattle.gb_plan.specs.declared.task.Action.{Action}
use Rattle.gb_plan.specs.declared.task.FileProperty.{FileProperty}
use Rattle.gb_plan.specs.declared.task.TaskDeclaration.{TaskDeclaration}
use Rattle.gb_provider.specs.Answers.{value_of}
use Rattle.gb_provider.specs.Table.{map_named, flat_map_named, zip_named}
use Rattle.gb_provider.specs.declared.expression.Expression.{Expression}
use Rattle.gb_provider.specs.declared.expression.Expression.TheVariants.{Mapped, FlatMapped, Zipped}
use Rattle.gb_provider.specs.declared.expression.Outcome.{Outcome}
use Rattle.gb_provider.specs.declared.expression.Outcome.TheVariants as outcomes
use Rattle.gb_provider.specs.declared.expression.Setting.TheVariants.{Followed}
use Rattle.gb_report.specs.declared.fault.Fault.{Fault}
use Rattle.gb_script.specs.Tree.{Tree, Chain, Root, TextOf, FlagOf, ListOf, PropertyOf, DirOf, FileOf, TheBuildDir, GradlePropertyOf, TaskOf, Link, MapBy, FlatMapBy, ZipBy, Else, Trees, NoTree, AndTree, Links, NoLink, AndLink}
use Rattle.gb_script.specs.declared.script.Call.{Call}
use Rattle.gb_script.specs.declared.script.Clause.{Clause}
use Rattle.gb_script.specs.declared.script.Clause.TheVariants as clauses
use Rattle.gb_script.specs.declared.script.Condition.{Condition}
use Rattle.gb_script.specs.declared.script.InputFiles.{InputFiles}
use Rattle.gb_script.specs.declared.script.Statement.{Statement}
use Rattle.gb_script.specs.declared.script.Statement.TheVariants as statements
use Rattle.gb_registry.specs.Configure.{configure_faults, each_after, missing_at_root, missing_at_link, missing_tasks, statement_faults}
use Rattle.gb_registry.specs.Projects.{Path, absolute, is_among}
use Rattle.gb_registry.specs.Said.{Said, Registered, paths_of, registered_by, registered_path, script_of, set_after, task_at, tasks_of}
use Rattle.gb_registry.specs.Source.{Source}
use Rattle.gb_registry.specs.Tables.{Tables}
use Rattle.gb_registry.specs.Wrong.{Scope, found_along, found_at, found_by, found_in, found_in_all, link_faults, root_faults, tree_faults}
use Rattle.gb_declare.specs.Declaring.{block_scope, call_faults, clash_faults, clause_faults, clauses_faults, condition_faults, declared, declaring_faults, files_faults, main_faults, pattern_faults, shape_faults}
use Rattle.gb_declare.specs.Joined.{Joined, Made, Named, depends_on_in, enabled_in, files_in, first_in, joined, last_in, only_if_in, output_in, up_to_date_when_in, value_in}
use Rattle.gb_declare.specs.Known.{IsRegistered, RealisedNeedsAreRegistered}
use Rattle.gb_declare.specs.Realised.{action_of, and_then, each_of, entry_of, files_under, given_by, needing, place_of, present, producers_of, realised_at, realised_if, required, tasks_from, value_under}
use Rattle.gb_declare.specs.Spots.{Spot, Written, Made as MadeAt, link_parts, links_parts, parts, root_parts, spot_of, trees_parts}
use Rattle.gb_declare.specs.Whole.{expression_at, given_value, if_found, number_of, output_spots, root_expression, spots, statement_spots, step_expression, table_of, task_spots, trees_of}
use Rattle.gb_declare.proofs.AllLemmas.{all_append, all_at, all_by_name, all_gathered, all_last, all_mapped, all_picked, all_reversed, with_all}
use Rattle.gb_declare.proofs.EvaluatedLemmas.{IsEvaluated, is_evaluated}
use Rattle.gb_declare.proofs.KnownLemmas.{all_known, clauses_clear, found, looked_up, registered_in}
use Rattle.gb_declare.proofs.NeedLemmas.{NamesGood, good_tasks, held_tasks}
use Rattle.gb_declare.proofs.ReadyLemmas.{both_ok, each_ok, no_faults, same_ok}
use Rattle.gb_declare.proofs.ViewLemmas.{back_none, prefix_none, judged_depends_on_in, known_path}

-- ---- Expressions of a script that name a task

module _ (Good : Path → Type 0) where
  abbrev IsGoodRoot : Path → Root → Type 0
  IsGoodRoot project (TaskOf text) = Good (absolute project text)
  IsGoodRoot project other = Unit {0}

  -- the task that a spot names, if it names one, is good
  abbrev IsGoodSpot : Spot → Type 0
  IsGoodSpot (Written project root []) = IsGoodRoot project root
  IsGoodSpot (Written project root (step ∷ steps)) = Unit {0}
  IsGoodSpot (MadeAt project task name tree) = Good task

  abbrev AreGood : List Spot → Type 0
  AreGood = AllByRecursion IsGoodSpot

  -- an expression without findings is good, where a task without findings is good
  module _ (project : Path) (at_root : Root → List Fault) (at_link : Link → List Fault) (known : (text : List ℕ) → at_root (TaskOf text) ≡ [] → Good (absolute project text)) where
    root_good : (root : Root) → found_at at_root at_link root ≡ [] → IsGoodRoot project root
    root_good (TaskOf text) e = known text e
    root_good other e = tt

    mutual
      tree_good : (tree : Tree) → found_in at_root at_link tree ≡ [] → AreGood (parts project tree)
      tree_good (Chain root links) e =
          let here = prefix_none (found_at at_root at_link root) (found_along at_root at_link links) e in
          let following = back_none (found_at at_root at_link root) (found_along at_root at_link links) e in
          (root_good root here, all_append IsGoodSpot (root_parts project root) (links_parts project root [] links) (source_good root here) (links_good root [] links following))

      source_good : (root : Root) → found_at at_root at_link root ≡ [] → AreGood (root_parts project root)
      source_good (ListOf trees) e = trees_good trees e
      source_good (TextOf t) e = tt
      source_good (FlagOf b) e = tt
      source_good (PropertyOf w) e = tt
      source_good (DirOf t) e = tt
      source_good (FileOf t) e = tt
      source_good TheBuildDir e = tt
      source_good (GradlePropertyOf t) e = tt
      source_good (TaskOf t) e = tt

      trees_good : (trees : Trees) → found_in_all at_root at_link trees ≡ [] → AreGood (trees_parts project trees)
      trees_good NoTree e = tt
      trees_good (AndTree tree trees) e =
          all_append IsGoodSpot (parts project tree) (trees_parts project trees)
          (tree_good tree (prefix_none (found_in at_root at_link tree) (found_in_all at_root at_link trees) e))
          (trees_good trees (back_none (found_in at_root at_link tree) (found_in_all at_root at_link trees) e))

      links_good : (root : Root) (before : List Link) (links : Links) → found_along at_root at_link links ≡ [] → AreGood (links_parts project root before links)
      links_good root before NoLink e = tt
      links_good root before (AndLink link links) e = (
        tt,
        all_append IsGoodSpot (link_parts project link) (links_parts project root (link ∷ before) links)
            (link_good link (prefix_none (found_by at_root at_link link) (found_along at_root at_link links) e))
            (links_good root (link ∷ before) links (back_none (found_by at_root at_link link) (found_along at_root at_link links) e)),
      )

      link_good : (link : Link) → found_by at_root at_link link ≡ [] → AreGood (link_parts project link)
      link_good (MapBy f) e = tt
      link_good (FlatMapBy f) e = tt
      link_good (ZipBy tree f) e = tree_good tree (prefix_none (found_in at_root at_link tree) (at_link (ZipBy tree f)) e)
      link_good (Else tree) e = tree_good tree (prefix_none (found_in at_root at_link tree) (at_link (Else tree)) e)

  -- ---- The table of such spots

  module _ {M F Z S A : Type 0} (tables : Tables M F Z S A) (source : Source) (all : List Spot) where
    abbrev Names : Expression M F Z → Type 0
    Names = NamesGood Good

    set_good : (name : Tree → ℕ) (o : Option Tree) → AllByRecursion Good (held_tasks (option_map (λ tree. Followed (name tree)) o))
    set_good name None = tt
    set_good name (Some tree) = tt

    given_good : (o : Option (List ℕ)) → Names (given_value o)
    given_good None = tt
    given_good (Some text) = tt

    source_names : (project : Path) (root : Root) → IsGoodRoot project root → Names (root_expression tables source all project root)
    source_names project (TextOf t) good = tt
    source_names project (FlagOf b) good = tt
    source_names project (ListOf trees) good = tt
    source_names project (PropertyOf name) good = set_good _ (fold (set_after name) None (script_of source.said project))
    source_names project (DirOf t) good = tt
    source_names project (FileOf t) good = tt
    source_names project TheBuildDir good = tt
    source_names project (GradlePropertyOf text) good = given_good (find byte_order text (reverse source.given))
    source_names project (TaskOf t) good = (good, tt)

    step_names : (project : Path) (before : ℕ) (step : Link) → Names (step_expression tables source all project before step)
    step_names project before (MapBy f) = elim (map_named tables.functions f.name) as (λ o. Names (if_found (Mapped before) f o)) [ None ↦ tt | Some stored ↦ tt ]
    step_names project before (FlatMapBy f) = elim (flat_map_named tables.functions f.name) as (λ o. Names (if_found (FlatMapped before) f o)) [ None ↦ tt | Some stored ↦ tt ]
    step_names project before (ZipBy tree f) = elim (zip_named tables.functions f.name) as (λ o. Names (if_found (Zipped before (number_of tables source all (spot_of project tree))) f o)) [ None ↦ tt | Some stored ↦ tt ]
    step_names project before (Else tree) = tt

    spot_names : (spot : Spot) → IsGoodSpot spot → Names (expression_at tables source all spot)
    spot_names (Written project root []) good = source_names project root good
    spot_names (Written project root (step ∷ before)) good = step_names project (number_of tables source all (Written project root before)) step
    spot_names (MadeAt project task name tree) good = good

    table_names : AreGood all → (entry : ℕ) (e : Expression M F Z) → slice_get (table_of tables source all) entry ≡ Some e → Names e
    table_names good entry e is = all_at Names (table_of tables source all) entry e (all_mapped IsGoodSpot Names (expression_at tables source all) spot_names all good) is

-- ---- No fault in all means no fault in each

all_clear : {X : Type 0} (f : X → List Fault) (xs : List X) → flat_map f xs ≡ [] → AllByRecursion (λ x. f x ≡ []) xs
all_clear f [] e = tt
all_clear f (x ∷ xs) e = (prefix_none (f x) (flat_map f xs) e, all_clear f xs (back_none (f x) (flat_map f xs) e))

-- ---- A task without a fault

module _ {M F Z S A : Type 0} (tables : Tables M F Z S A) (scope : Scope) where
  abbrev IsClear : Tree → Type 0
  IsClear tree = tree_faults tables scope tree ≡ []

  abbrev IsClearClause : Clause → Type 0
  IsClearClause clause = clause_faults tables scope clause ≡ []

  abbrev IsClearCall : Call → Type 0
  IsClearCall call = AllByRecursion IsClear call.arguments

  call_clear : (call : Call) → call_faults tables scope call ≡ [] → IsClearCall call
  call_clear call e = all_clear (tree_faults tables scope) call.arguments (back_none _ (flat_map (tree_faults tables scope) call.arguments) e)

  condition_clear : (condition : Condition) → condition_faults tables scope condition ≡ [] → IsClear condition.value
  condition_clear condition e = prefix_none (tree_faults tables scope condition.value) _ e

  clauses_each : (path : Path) (before after : List Clause) → clauses_faults tables scope path before after ≡ [] → AllByRecursion IsClearClause after
  clauses_each path before [] e = tt
  clauses_each path before (clause ∷ after) e =
      let both = clash_faults path before clause ++ clause_faults tables scope clause in
      (back_none (clash_faults path before clause) _ (prefix_none both _ e), clauses_each path (before ++ clause ∷ []) after (back_none both _ e))

  value_clear : (clause : Clause) → IsClearClause clause → AllByRecursion (λ (value : Named Tree). IsClear value.1) (option_to_list (value_in clause))
  value_clear (clauses.Input a) e = (e, tt)
  value_clear other e = tt

  from_clear : (files : InputFiles) → files_faults tables scope files ≡ [] → AllByRecursion IsClear files.from
  from_clear files e =
      let trees = flat_map (tree_faults tables scope) files.from in
      all_clear (tree_faults tables scope) files.from (prefix_none trees (flat_map pattern_faults files.include) (prefix_none (trees ++ flat_map pattern_faults files.include) (flat_map pattern_faults files.exclude) e))

  files_clear : (clause : Clause) → IsClearClause clause → AllByRecursion (λ (files : Named InputFiles). AllByRecursion IsClear files.1.from) (option_to_list (files_in clause))
  files_clear (clauses.InputFiles files) e = (from_clear files e, tt)
  files_clear other e = tt

  output_clear : (clause : Clause) → IsClearClause clause → AllByRecursion (λ (output : Named Made). IsClear output.1.1) (option_to_list (output_in clause))
  output_clear (clauses.OutputFile a) e = (e, tt)
  output_clear (clauses.OutputDir a) e = (e, tt)
  output_clear other e = tt

  first_clear : (clause : Clause) → IsClearClause clause → AllByRecursion IsClearCall (option_to_list (first_in clause))
  first_clear (clauses.DoFirst call) e = (call_clear call e, tt)
  first_clear other e = tt

  last_clear : (clause : Clause) → IsClearClause clause → AllByRecursion IsClearCall (option_to_list (last_in clause))
  last_clear (clauses.DoLast call) e = (call_clear call e, tt)
  last_clear other e = tt

  only_if_clear : (clause : Clause) → IsClearClause clause → AllByRecursion (λ (condition : Condition). IsClear condition.value) (option_to_list (only_if_in clause))
  only_if_clear (clauses.OnlyIf condition) e = (condition_clear condition e, tt)
  only_if_clear other e = tt

  fresh_clear : (clause : Clause) → IsClearClause clause → AllByRecursion (λ (condition : Condition). IsClear condition.value) (option_to_list (up_to_date_when_in clause))
  fresh_clear (clauses.UpToDateWhen condition) e = (condition_clear condition e, tt)
  fresh_clear other e = tt

  enabled_clear : (clause : Clause) → IsClearClause clause → AllByRecursion IsClear (option_to_list (enabled_in clause))
  enabled_clear (clauses.Enabled tree) e = (e, tt)
  enabled_clear other e = tt

  main_clear : (action : Option Call) → main_faults tables scope action ≡ [] → AllByRecursion IsClearCall (option_to_list action)
  main_clear None e = tt
  main_clear (Some call) e = (call_clear call e, tt)

  -- all its expressions are without a fault
  task_clear : (at : Registered) → main_faults tables scope at.action ≡ [] → clauses_faults tables scope at.path [] at.clauses ≡ [] → AllByRecursion IsClear (trees_of (joined at))
  task_clear at main e =
      let all = clauses_each at.path [] at.clauses e in
      let task = joined at in
      let enabled : AllByRecursion IsClear (option_to_list task.enabled) = all_last IsClear None (filter_map enabled_in at.clauses) tt (all_picked IsClearClause IsClear enabled_in enabled_clear at.clauses all) in
      let conditions : AllByRecursion (λ (condition : Condition). IsClear condition.value) (task.only_if ++ task.up_to_date_when) =
      all_append (λ (condition : Condition). IsClear condition.value) task.only_if task.up_to_date_when
      (all_picked IsClearClause (λ (condition : Condition). IsClear condition.value) only_if_in only_if_clear at.clauses all)
      (all_picked IsClearClause (λ (condition : Condition). IsClear condition.value) up_to_date_when_in fresh_clear at.clauses all) in
      let values = all_by_name IsClear (filter_map value_in at.clauses) (all_picked IsClearClause (λ (value : Named Tree). IsClear value.1) value_in value_clear at.clauses all) in
      let files = all_by_name (λ (files : InputFiles). AllByRecursion IsClear files.from) (filter_map files_in at.clauses)
      (all_picked IsClearClause (λ (files : Named InputFiles). AllByRecursion IsClear files.1.from) files_in files_clear at.clauses all) in
      let outputs = all_by_name (λ (made : Made). IsClear made.1) (filter_map output_in at.clauses) (all_picked IsClearClause (λ (output : Named Made). IsClear output.1.1) output_in output_clear at.clauses all) in
      let firsts = all_reversed IsClearCall (filter_map first_in at.clauses) (all_picked IsClearClause IsClearCall first_in first_clear at.clauses all) in
      let lasts = all_picked IsClearClause IsClearCall last_in last_clear at.clauses all in
      let actions : AllByRecursion IsClearCall task.actions =
      all_append IsClearCall (reverse (filter_map first_in at.clauses) ++ option_to_list at.action) (filter_map last_in at.clauses)
      (all_append IsClearCall (reverse (filter_map first_in at.clauses)) (option_to_list at.action) firsts (main_clear at.action main)) lasts in
      let of_conditions = all_mapped (λ (condition : Condition). IsClear condition.value) IsClear (λ condition. condition.value) (λ x h. h) (task.only_if ++ task.up_to_date_when) conditions in
      let of_values = all_mapped (λ (value : Named Tree). IsClear value.1) IsClear (λ value. value.1) (λ x h. h) task.values values in
      let of_files = all_gathered (λ (files : Named InputFiles). AllByRecursion IsClear files.1.from) IsClear (λ files. files.1.from) (λ x h. h) task.files files in
      let of_outputs = all_mapped (λ (output : Named Made). IsClear output.1.1) IsClear (λ output. output.1.1) (λ x h. h) task.outputs outputs in
      let of_actions = all_gathered IsClearCall IsClear (λ call. call.arguments) (λ x h. h) task.actions actions in
      all_append IsClear _ (flat_map (λ call. call.arguments) task.actions)
      (all_append IsClear _ (map (λ output. output.1.1) task.outputs)
      (all_append IsClear _ (flat_map (λ files. files.1.from) task.files)
      (all_append IsClear _ (map (λ value. value.1) task.values)
      (all_append IsClear (option_to_list task.enabled) (map (λ condition. condition.value) (task.only_if ++ task.up_to_date_when)) enabled of_conditions) of_values) of_files) of_outputs) of_actions

-- ---- Registered paths

among_itself : (text : List ℕ) (more : List (List ℕ)) → is_among (text ∷ more) text ≡ true
among_itself text more = ap (λ b. b || is_among more text) ((bytes_eq-Decides text text).1 refl)

or_true : (a b : Bool) → b ≡ true → (a || b) ≡ true
or_true true b e = refl
or_true false b e = e

among_more : (text other : List ℕ) (more : List (List ℕ)) → is_among more text ≡ true → is_among (other ∷ more) text ≡ true
among_more text other more e = or_true (bytes_eq text other) (is_among more text) e

path_same : (whole : List Said) (project : Path) (statement : Statement)
    → registered_path (record { project = project; statement = statement }) ≡ option_map (λ (t : Registered). t.path) (registered_by whole (record { project = project; statement = statement }))
path_same whole project (statements.Register r) = refl
path_same whole project other = refl

-- each of the paths is one of the texts
abbrev Within : List Path → List Path → Type 0
Within texts paths = (text : Path) → is_among paths text ≡ true → is_among texts text ≡ true

-- the paths of the tasks that statements register are those that they register
paths_among : (whole : List Said) (texts : List Path) (ss : List Said) → Within texts (paths_of ss) → AllByRecursion (λ (t : Registered). is_among texts t.path ≡ true) (filter_map (registered_by whole) ss)
paths_among whole texts [] within = tt
paths_among whole texts (s ∷ ss) within =
    by (registered_by whole s) (paths_among whole texts ss)
    (subst (λ (n : Option Path). Within texts (cons_option n (paths_of ss))) (path_same whole s.project s.statement) within)
  where
    by : (o : Option Registered) → (Within texts (paths_of ss) → AllByRecursion (λ (t : Registered). is_among texts t.path ≡ true) (filter_map (registered_by whole) ss))
        → Within texts (cons_option (option_map (λ (t : Registered). t.path) o) (paths_of ss)) → AllByRecursion (λ (t : Registered). is_among texts t.path ≡ true) (cons_option o (filter_map (registered_by whole) ss))
    by None rest within = rest within
    by (Some t) rest within = (within t.path (among_itself t.path (paths_of ss)), rest (λ text e. within text (among_more text t.path (paths_of ss) e)))

-- ---- The expressions of all scripts

module _ {M F Z S A : Type 0} (tables : Tables M F Z S A) (source : Source) where
  abbrev Good : Path → Type 0
  Good = IsRegistered source

  value_good : (project : Path) (tree : Tree) → flat_map (found_in (missing_at_root source.names project) missing_at_link) (tree ∷ []) ≡ [] → AreGood Good (flat_map (parts project) (tree ∷ []))
  value_good project tree e =
      all_append (IsGoodSpot Good) (parts project tree) []
      (tree_good Good project (missing_at_root source.names project) missing_at_link (looked_up source.names project) tree (prefix_none (found_in (missing_at_root source.names project) missing_at_link tree) [] e)) tt

  statement_good : (project : Path) (statement : Statement) → missing_tasks source.names (record { project = project; statement = statement }) ≡ []
      → AreGood Good (statement_spots (record { project = project; statement = statement }))
  statement_good project (statements.Property name) e = (tt, tt)
  statement_good project (statements.Set a) e = value_good project a.value e
  statement_good project (statements.Convention a) e = value_good project a.value e
  statement_good project other e = tt

  made_good : (at : Registered) → Good at.path → (outputs : List (Named Made)) → AreGood Good (map (λ output. MadeAt at.project at.path output.0 output.1.1) outputs)
  made_good at good [] = tt
  made_good at good (output ∷ outputs) = (good, made_good at good outputs)

  no_main : (at : Registered) → declaring_faults tables source.names source.said at ≡ [] → main_faults tables (block_scope source.names source.said at.project) at.action ≡ []
  no_main at e =
      let main = main_faults tables (block_scope source.names source.said at.project) at.action in
      let clauses = clauses_faults tables (block_scope source.names source.said at.project) at.path [] at.clauses in
      prefix_none main clauses (prefix_none (main ++ clauses) (shape_faults tables at.path (joined at)) e)

  task_good : (at : Registered) (r : Result Joined Fault) → declared tables source.names source.said at ≡ r → Good at.path → AreGood Good (task_spots at r)
  task_good at (Ok task) is good =
      let scope = block_scope source.names source.said at.project in
      let ok = no_faults (declaring_faults tables source.names source.said at) (joined at) task is in
      let clear : AllByRecursion (IsClear tables scope) (trees_of task) =
      subst (λ (j : Joined). AllByRecursion (IsClear tables scope) (trees_of j)) ok.1 (task_clear tables scope at (no_main at ok.0) (clauses_clear tables source at ok.0)) in
      all_append (IsGoodSpot Good) (flat_map (parts at.project) (trees_of task)) (output_spots at task)
      (all_gathered (IsClear tables scope) (IsGoodSpot Good) (parts at.project) (tree_good Good at.project (root_faults scope) (link_faults tables) (found source.names at.project)) (trees_of task) clear)
      (made_good at good task.outputs)
  task_good at (Err fault) is good = tt

  -- each spot of all scripts
  spots_good : source.names.tasks ≡ paths_of source.said → configure_faults tables source ≡ [] → AreGood Good (spots tables source)
  spots_good listed e =
      let none = back_none (each_after (statement_faults tables) [] source.said) (flat_map (missing_tasks source.names) source.said) e in
      let paths : AllByRecursion (λ (t : Registered). Good t.path) (tasks_of source.said) =
      paths_among source.said source.names.tasks source.said (λ text is. ap (λ texts. is_among texts text) listed ∙ is) in
      all_append (IsGoodSpot Good) (flat_map statement_spots source.said) (flat_map (λ task. task_spots task (declared tables source.names source.said task)) (tasks_of source.said))
      (all_gathered (λ s. missing_tasks source.names s ≡ []) (IsGoodSpot Good) statement_spots (λ s is. statement_good s.project s.statement is) source.said (all_clear (missing_tasks source.names) source.said none))
      (all_gathered (λ (t : Registered). Good t.path) (IsGoodSpot Good) (λ task. task_spots task (declared tables source.names source.said task))
      (λ at good. task_good at (declared tables source.names source.said at) refl good) (tasks_of source.said) paths)

-- ---- What is evaluated has a value

each_from : {X Y : Type 0} (R : X → Y → Type 0) (P : X → Type 0) → ((x : X) (y : Y) → R x y → P x) → (xs : List X) (ys : List Y) → AllZip R xs ys → AllByRecursion P xs
each_from R P has [] [] all = tt
each_from R P has [] (y ∷ ys) all = absurd all
each_from R P has (x ∷ xs) [] all = absurd all
each_from R P has (x ∷ xs) (y ∷ ys) all = (has x y all.0, each_from R P has xs ys all.1)

module _ {M F Z S A : Type 0} (tables : Tables M F Z S A) (source : Source) (at : Registered) (all : List Spot) (table : List (Expression M F Z)) where
  abbrev HasValue : Tree → Type 0
  HasValue tree = (v : Value) × (value_of tables.means table (entry_of tables source at all table tree) ≡ Some (outcomes.Given v))

  given_here : (name : List ℕ) (entry : ℕ) (o : Option Outcome) (v : Value) → and_then (given_by tables source entry o) (present at.path name) ≡ Ok v → o ≡ Some (outcomes.Given v)
  given_here name entry (Some (outcomes.Given w)) v e = ap (λ x. Some (outcomes.Given x)) (same_ok w v e)
  given_here name entry (Some outcomes.Absent) v e = absurd (cc)
  given_here name entry (Some (outcomes.Refused fault)) v e = absurd (cc)
  given_here name entry None v e = absurd (cc)

  required_has : (name : List ℕ) (tree : Tree) (v : Value) → required tables source at all table name tree ≡ Ok v → HasValue tree
  required_has name tree v e = (v, given_here name (entry_of tables source at all table tree) (value_of tables.means table (entry_of tables source at all table tree)) v e)

  value_has : (value : Named Tree) (y : Named Value) → value_under tables source at all table value ≡ Ok y → HasValue value.1
  value_has value y e = let here = both_ok (required tables source at all table value.0 value.1) _ y e in required_has value.0 value.1 here.0 here.1

  place_has : (name : List ℕ) (tree : Tree) (place : List ℕ) → place_of tables source at all table name tree ≡ Ok place → HasValue tree
  place_has name tree place e = let here = both_ok (required tables source at all table name tree) _ place e in required_has name tree here.0 here.1

  files_have : (files : Named InputFiles) (y : FileProperty) → files_under tables source at all table files ≡ Ok y → AllByRecursion HasValue files.1.from
  files_have files y e =
      let here = both_ok (each_of (place_of tables source at all table files.0) files.1.from) _ y e in
      each_from (λ tree place. place_of tables source at all table files.0 tree ≡ Ok place) HasValue (place_has files.0) files.1.from here.0 (each_ok (place_of tables source at all table files.0) files.1.from here.0 here.1)

  action_has : (call : Call) (y : Action) → action_of tables source at all table call ≡ Ok y → AllByRecursion HasValue call.arguments
  action_has call y e =
      let here = both_ok (each_of (required tables source at all table call.name) call.arguments) _ y e in
      each_from (λ tree v. required tables source at all table call.name tree ≡ Ok v) HasValue (required_has call.name) call.arguments here.0 (each_ok (required tables source at all table call.name) call.arguments here.0 here.1)

  needing_has : (task : Joined) (t : TaskDeclaration) → IsEvaluated tables source at all table task t → AllByRecursion HasValue (needing tables source at all table task)
  needing_has task t is =
      let values = each_from (λ value y. value_under tables source at all table value ≡ Ok y) (λ value. HasValue value.1) value_has task.values t.values is.values in
      let files = each_from (λ files y. files_under tables source at all table files ≡ Ok y) (λ files. AllByRecursion HasValue files.1.from) files_have task.files t.files is.files in
      let actions = each_from (λ call y. action_of tables source at all table call ≡ Ok y) (λ call. AllByRecursion HasValue call.arguments) action_has task.actions t.actions is.actions in
      all_append HasValue (map (λ value. value.1) task.values ++ flat_map (λ files. files.1.from) task.files) (flat_map (λ call. call.arguments) task.actions)
      (all_append HasValue (map (λ value. value.1) task.values) (flat_map (λ files. files.1.from) task.files)
      (all_mapped (λ value. HasValue value.1) HasValue (λ value. value.1) (λ x h. h) task.values values)
      (all_gathered (λ files. AllByRecursion HasValue files.1.from) HasValue (λ files. files.1.from) (λ x h. h) task.files files))
      (all_gathered (λ call. AllByRecursion HasValue call.arguments) HasValue (λ call. call.arguments) (λ x h. h) task.actions actions)

-- ---- The needs of a task

module _ {M F Z S A : Type 0} (tables : Tables M F Z S A) (source : Source) (listed : source.names.tasks ≡ paths_of source.said) (clear : configure_faults tables source ≡ []) where
  abbrev Known : List Path → Type 0
  Known = AllByRecursion (IsRegistered source)

  module _ (at : Registered) where
    abbrev table : List (Expression M F Z)
    table = table_of tables source (spots tables source)

    producers_good : (tree : Tree) → HasValue tables source at (spots tables source) table tree → Known (producers_of tables source at (spots tables source) table tree)
    producers_good tree has =
        let entry = entry_of tables source at (spots tables source) table tree in
        let names = table_names (IsRegistered source) tables source (spots tables source) (spots_good tables source listed clear) in
        let tasks = good_tasks tables.means table (IsRegistered source) names entry has.0 has.1 in
        subst (λ o. Known (tasks_from o)) (sym tasks.1) tasks.2

    needs_at : (r : Result Joined Fault) (t : TaskDeclaration) → declared tables source.names source.said at ≡ r → realised_at tables source at r ≡ Ok t → Known t.needs
    needs_at (Ok task) t is e =
        let all = spots tables source in
        let scope = block_scope source.names source.said at.project in
        let ok = no_faults (declaring_faults tables source.names source.said at) (joined at) task is in
        let kept = is_evaluated tables source at all table task t e in
        let depends : Known task.depends_on = subst (λ (j : Joined). Known j.depends_on) ok.1 (registered_in source.names at.project (flat_map depends_on_in at.clauses)
        (all_known tables scope at.path depends_on_in (judged_depends_on_in tables scope at.path at.project (known_path (Some source.names) at.project)) [] at.clauses (clauses_clear tables source at ok.0))) in
        let produced = all_gathered (HasValue tables source at all table) (IsRegistered source) (producers_of tables source at all table) producers_good (needing tables source at all table task) (needing_has tables source at all table task t kept) in
        subst Known kept.needs (with_all (IsRegistered source) task.depends_on (flat_map (producers_of tables source at all table) (needing tables source at all table task)) depends produced)
    needs_at (Err fault) t is e = absurd (cc)

  needs_if : (path : Path) (o : Option Registered) (t : TaskDeclaration) → realised_if tables source path o ≡ Ok t → Known t.needs
  needs_if path None t e = absurd (cc)
  needs_if path (Some at) t e = needs_at at (declared tables source.names source.said at) t refl e

pub realised_needs_are_registered : {M F Z S A : Type 0} (tables : Tables M F Z S A) (source : Source) → RealisedNeedsAreRegistered tables source
realised_needs_are_registered tables source listed clear path t e = needs_if tables source listed clear path (task_at source.said path) t e
