-- The declaration of a task has no faults in its expressions and its patterns.
use Rattle.std.proofs.Common.{◌≡◌, ℕ, true, List, [], ◌∷◌, ◌++◌, map, refl, subst, Option, Some, None}
use Rattle.std.specs.Prelude.{cond, filter_map, reverse}
use Rattle.std.specs.List.{AllByRecursion, flat_map}
use Rattle.std.specs.Option.{option_to_list}
use Rattle.std.proofs.lemmas.List.Elements.{All-from_recursion}
use Rattle.std.specs.FinMap.Entries.{find}
use Rattle.std.specs.Prelude.{is_some}
use Rattle.gb_action.specs.declared.output_files.Form.TheVariants.{File, Dir}
use Rattle.gb_core.specs.Lists.{byte_order}
use Rattle.gb_report.specs.declared.fault.Fault.TheVariants as faults
use Rattle.gb_registry.specs.Projects.{Path}
use Rattle.gb_registry.specs.References.{name_faults}
use Rattle.gb_registry.specs.Said.{Registered}
use Rattle.gb_registry.specs.Tables.{Tables}
use Rattle.gb_registry.specs.Wrong.{Scope, found_in_all, tree_faults}
use Rattle.gb_script.specs.Tree.{Tree, trees_of}
use Rattle.gb_script.specs.declared.script.Call.{Call}
use Rattle.gb_script.specs.declared.script.Clause.{Clause}
use Rattle.gb_script.specs.declared.script.Clause.TheVariants as clauses
use Rattle.gb_script.specs.declared.script.Condition.{Condition}
use Rattle.gb_script.specs.declared.script.InputFiles.{InputFiles}
use Rattle.gb_tree.specs.Pattern.{is_pattern}
use Rattle.gb_declare.specs.Declaring.{call_faults, clash_faults, clause_faults, clauses_faults, faults_within, files_faults, main_faults, pattern_faults, shape_faults, trees_faults}
use Rattle.gb_declare.specs.Joined.{Made, Named, enabled_in, files_in, first_in, joined, last_in, only_if_in, output_in, up_to_date_when_in, value_in}
use Rattle.gb_declare.specs.Whole.{trees_of as expressions_of}
use Rattle.gb_declare.specs.Site.{Site}
use Rattle.gb_declare.specs.Wrong.{link_faults, making_faults, root_faults}
use Rattle.gb_declare.proofs.FoundLemmas.{HasNodesOf, among_if_none, made_good, nil_both}
use Rattle.gb_registry.proofs.Fine.{nil_back, nil_prefix}
use Rattle.gb_project.specs.Parts.{HasPatterns, HavePatterns}
use Rattle.gb_project.proofs.ListLemmas.{all_by_name, all_joined, all_mapped, all_picked, all_reversed, both_all, last_all}

-- ---- Patterns

patterns_good : (texts : List (List ℕ)) → flat_map pattern_faults texts ≡ [] → AllByRecursion (λ text. is_pattern text ≡ true) texts
patterns_good [] none = tt
patterns_good (text ∷ texts) none = (
  among_if_none (is_pattern text) _ (nil_prefix (pattern_faults text) (flat_map pattern_faults texts) none),
  patterns_good texts (nil_back (pattern_faults text) (flat_map pattern_faults texts) none),
)

module _ {M F Z S A : Type 0} (tables : Tables M F Z S A) (scope : Scope) where
  abbrev pub IsClear : Tree → Type 0
  IsClear tree = tree_faults tables scope tree ≡ []

  abbrev pub AreClear : List Tree → Type 0
  AreClear trees = AllByRecursion IsClear trees

  abbrev IsFine : Clause → Type 0
  IsFine clause = clause_faults tables scope clause ≡ []

  trees_clear : (trees : List Tree) → trees_faults tables scope trees ≡ [] → AreClear trees
  trees_clear [] none = tt
  trees_clear (tree ∷ trees) none = (
    nil_prefix (tree_faults tables scope tree) (flat_map (tree_faults tables scope) trees) none,
    trees_clear trees (nil_back (tree_faults tables scope tree) (flat_map (tree_faults tables scope) trees) none),
  )

  call_clear : (call : Call) → call_faults tables scope call ≡ [] → AreClear call.arguments
  call_clear call none =
      trees_clear call.arguments (nil_back (cond (is_some (find byte_order call.name tables.kinds)) [] (faults.UnknownAction call.name ∷ [])) (trees_faults tables scope call.arguments) none)

  -- ---- The contents of a clause

  abbrev AreFilesClear : InputFiles → Type 0
  AreFilesClear files = AreClear files.from × HasPatterns files

  files_clear : (files : InputFiles) → files_faults tables scope files ≡ [] → AreFilesClear files
  files_clear files none =
      let roots = trees_faults tables scope files.from in
      let include = flat_map pattern_faults files.include in
      let exclude = flat_map pattern_faults files.exclude in
      let prefix = nil_prefix (roots ++ include) exclude none in (
        trees_clear files.from (nil_prefix roots include prefix),
        record {
          include = All-from_recursion (λ text. is_pattern text ≡ true) files.include (patterns_good files.include (nil_back roots include prefix));
          exclude = All-from_recursion (λ text. is_pattern text ≡ true) files.exclude (patterns_good files.exclude (nil_back (roots ++ include) exclude none));
        },
      )

  value_judged : (clause : Clause) → IsFine clause → (y : Named Tree) → value_in clause ≡ Some y → IsClear y.1
  value_judged (clauses.Input a) fine y is = let same : ◌≡◌ {A = Named Tree} (a.name, a.value) y = cc in subst (λ (z : Named Tree). IsClear z.1) same fine
  value_judged other fine y is = absurd (cc)

  files_judged : (clause : Clause) → IsFine clause → (y : Named InputFiles) → files_in clause ≡ Some y → AreFilesClear y.1
  files_judged (clauses.InputFiles files) fine y is = let same : ◌≡◌ {A = Named InputFiles} (files.name, files) y = cc in subst (λ (z : Named InputFiles). AreFilesClear z.1) same (files_clear files fine)
  files_judged other fine y is = absurd (cc)

  output_judged : (clause : Clause) → IsFine clause → (y : Named Made) → output_in clause ≡ Some y → IsClear y.1.1
  output_judged (clauses.OutputFile a) fine y is = let same : ◌≡◌ {A = Named Made} (a.name, (File, a.value)) y = cc in subst (λ (z : Named Made). IsClear z.1.1) same fine
  output_judged (clauses.OutputDir a) fine y is = let same : ◌≡◌ {A = Named Made} (a.name, (Dir, a.value)) y = cc in subst (λ (z : Named Made). IsClear z.1.1) same fine
  output_judged other fine y is = absurd (cc)

  first_judged : (clause : Clause) → IsFine clause → (y : Call) → first_in clause ≡ Some y → AreClear y.arguments
  first_judged (clauses.DoFirst call) fine y is = let same : call ≡ y = cc in subst (λ (c : Call). AreClear c.arguments) same (call_clear call fine)
  first_judged other fine y is = absurd (cc)

  last_judged : (clause : Clause) → IsFine clause → (y : Call) → last_in clause ≡ Some y → AreClear y.arguments
  last_judged (clauses.DoLast call) fine y is = let same : call ≡ y = cc in subst (λ (c : Call). AreClear c.arguments) same (call_clear call fine)
  last_judged other fine y is = absurd (cc)

  only_if_judged : (clause : Clause) → IsFine clause → (y : Condition) → only_if_in clause ≡ Some y → IsClear y.value
  only_if_judged (clauses.OnlyIf condition) fine y is = let same : condition ≡ y = cc in subst (λ (c : Condition). IsClear c.value) same (nil_prefix (tree_faults tables scope condition.value) _ fine)
  only_if_judged other fine y is = absurd (cc)

  when_judged : (clause : Clause) → IsFine clause → (y : Condition) → up_to_date_when_in clause ≡ Some y → IsClear y.value
  when_judged (clauses.UpToDateWhen condition) fine y is = let same : condition ≡ y = cc in subst (λ (c : Condition). IsClear c.value) same (nil_prefix (tree_faults tables scope condition.value) _ fine)
  when_judged other fine y is = absurd (cc)

  enabled_judged : (clause : Clause) → IsFine clause → (y : Tree) → enabled_in clause ≡ Some y → IsClear y
  enabled_judged (clauses.Enabled tree) fine y is = let same : tree ≡ y = cc in subst IsClear same fine
  enabled_judged other fine y is = absurd (cc)

  -- ---- The contents of all clauses

  fine_clauses : (path : Path) (before after : List Clause) → clauses_faults tables scope path before after ≡ [] → AllByRecursion IsFine after
  fine_clauses path before [] none = tt
  fine_clauses path before (clause ∷ after) none =
      let here = clash_faults path before clause ++ clause_faults tables scope clause in
      let rest = clauses_faults tables scope path (before ++ clause ∷ []) after in (
        nil_back (clash_faults path before clause) (clause_faults tables scope clause) (nil_prefix here rest none),
        fine_clauses path (before ++ clause ∷ []) after (nil_back here rest none),
      )

  option_all : {X : Type 0} (P : X → Type 0) (o : Option X) → ((x : X) → o ≡ Some x → P x) → AllByRecursion P (option_to_list o)
  option_all P None some = tt
  option_all P (Some x) some = (some x refl, tt)

  main_clear : (action : Option Call) → main_faults tables scope action ≡ [] → (call : Call) → action ≡ Some call → AreClear call.arguments
  main_clear None none call is = absurd (cc)
  main_clear (Some other) none call is = let same : other ≡ call = cc in subst (λ (c : Call). AreClear c.arguments) same (call_clear other none)

  module _ (task : Registered) (none : faults_within tables scope task ≡ []) where
    prefix_none : main_faults tables scope task.action ++ clauses_faults tables scope task.path [] task.clauses ≡ []
    prefix_none = nil_prefix (main_faults tables scope task.action ++ clauses_faults tables scope task.path [] task.clauses) (shape_faults tables task.path (joined task)) none

    fine : AllByRecursion IsFine task.clauses
    fine = fine_clauses task.path [] task.clauses (nil_back (main_faults tables scope task.action) (clauses_faults tables scope task.path [] task.clauses) prefix_none)

    abbrev AreArgumentsClear : Call → Type 0
    AreArgumentsClear call = AreClear call.arguments

    enabled_clear : AreClear (option_to_list (joined task).enabled)
    enabled_clear =
        option_all IsClear (joined task).enabled
        (last_all IsClear None (filter_map enabled_in task.clauses) (λ x is. absurd (cc)) (all_picked enabled_in IsFine IsClear enabled_judged task.clauses fine))

    conditions_clear : AreClear (map (λ (condition : Condition). condition.value) ((joined task).only_if ++ (joined task).up_to_date_when))
    conditions_clear =
        all_mapped (λ (condition : Condition). condition.value) IsClear ((joined task).only_if ++ (joined task).up_to_date_when)
        (both_all (λ (condition : Condition). IsClear condition.value) (joined task).only_if (joined task).up_to_date_when
        (all_picked only_if_in IsFine (λ (condition : Condition). IsClear condition.value) only_if_judged task.clauses fine)
        (all_picked up_to_date_when_in IsFine (λ (condition : Condition). IsClear condition.value) when_judged task.clauses fine))

    values_clear : AreClear (map (λ (value : Named Tree). value.1) (joined task).values)
    values_clear =
        all_mapped (λ (value : Named Tree). value.1) IsClear (joined task).values
        (all_by_name IsClear (filter_map value_in task.clauses) (all_picked value_in IsFine (λ (value : Named Tree). IsClear value.1) value_judged task.clauses fine))

    all_files : AllByRecursion (λ (files : Named InputFiles). AreFilesClear files.1) (joined task).files
    all_files = all_by_name AreFilesClear (filter_map files_in task.clauses) (all_picked files_in IsFine (λ (files : Named InputFiles). AreFilesClear files.1) files_judged task.clauses fine)

    roots_of : (files : List (Named InputFiles)) → AllByRecursion (λ (f : Named InputFiles). AreFilesClear f.1) files → AllByRecursion (λ (f : Named InputFiles). AreClear f.1.from) files
    roots_of [] all = tt
    roots_of (f ∷ files) all = (all.0.0, roots_of files all.1)

    patterns_of : (files : List (Named InputFiles)) → AllByRecursion (λ (f : Named InputFiles). AreFilesClear f.1) files → AllByRecursion (λ (f : Named InputFiles). HasPatterns f.1) files
    patterns_of [] all = tt
    patterns_of (f ∷ files) all = (all.0.1, patterns_of files all.1)

    roots_clear : AreClear (flat_map (λ (files : Named InputFiles). files.1.from) (joined task).files)
    roots_clear = all_joined (λ (files : Named InputFiles). files.1.from) IsClear (joined task).files (roots_of (joined task).files all_files)

    outputs_clear : AreClear (map (λ (output : Named Made). output.1.1) (joined task).outputs)
    outputs_clear =
        all_mapped (λ (output : Named Made). output.1.1) IsClear (joined task).outputs
        (all_by_name (λ (made : Made). IsClear made.1) (filter_map output_in task.clauses) (all_picked output_in IsFine (λ (output : Named Made). IsClear output.1.1) output_judged task.clauses fine))

    arguments_clear : AreClear (flat_map (λ (call : Call). call.arguments) (joined task).actions)
    arguments_clear =
        let first = filter_map first_in task.clauses in
        let last = filter_map last_in task.clauses in
        let main = option_to_list task.action in
        all_joined (λ (call : Call). call.arguments) IsClear (joined task).actions
        (both_all AreArgumentsClear (reverse first ++ main) last
        (both_all AreArgumentsClear (reverse first) main
        (all_reversed AreArgumentsClear first (all_picked first_in IsFine AreArgumentsClear first_judged task.clauses fine))
        (option_all AreArgumentsClear task.action (main_clear task.action (nil_prefix (main_faults tables scope task.action) (clauses_faults tables scope task.path [] task.clauses) prefix_none))))
        (all_picked last_in IsFine AreArgumentsClear last_judged task.clauses fine))

    -- its expressions
    pub expressions_clear : AreClear (expressions_of (joined task))
    expressions_clear =
        let e = option_to_list (joined task).enabled in
        let c = map (λ (condition : Condition). condition.value) ((joined task).only_if ++ (joined task).up_to_date_when) in
        let v = map (λ (value : Named Tree). value.1) (joined task).values in
        let f = flat_map (λ (files : Named InputFiles). files.1.from) (joined task).files in
        let o = map (λ (output : Named Made). output.1.1) (joined task).outputs in
        let a = flat_map (λ (call : Call). call.arguments) (joined task).actions in
        both_all IsClear (e ++ c ++ v ++ f ++ o) a
        (both_all IsClear (e ++ c ++ v ++ f) o
        (both_all IsClear (e ++ c ++ v) f
        (both_all IsClear (e ++ c) v (both_all IsClear e c enabled_clear conditions_clear) values_clear) roots_clear) outputs_clear) arguments_clear

    -- its patterns
    pub patterns_clear : HavePatterns (joined task).files
    patterns_clear = All-from_recursion (λ (f : Named InputFiles). HasPatterns f.1) (joined task).files (patterns_of (joined task).files all_files)

  -- what has no fault is made without a fault
  pub row_good : (site : Site) → site.project ≡ scope.project → ((text : List ℕ) → scope.task_faults text ≡ [] → name_faults scope.project text ≡ []) → HasNodesOf site scope.properties
      → (row : List Tree) → AreClear row → found_in_all (root_faults site) (link_faults tables.means tables.functions) (trees_of row) ≡ []
  row_good site there tasks nodes [] clear = refl
  row_good site there tasks nodes (tree ∷ row) clear =
      nil_both (making_faults tables.means tables.functions site tree) (found_in_all (root_faults site) (link_faults tables.means tables.functions) (trees_of row))
      (made_good tables site scope there tasks nodes tree clear.0) (row_good site there tasks nodes row clear.1)
