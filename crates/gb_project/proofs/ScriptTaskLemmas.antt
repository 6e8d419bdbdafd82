-- The tasks of all scripts.
use Rattle.std.proofs.Common.{◌≡◌, ℕ, true, false, cond, List, [], ◌∷◌, ◌++◌, length, map, refl, sym, ap, subst, ◌∙◌, Some, None, Result, Ok, Err, inl, append_assoc}
use Rattle.std.proofs.lemmas.List.{append-nil, map-append}
use Rattle.std.proofs.lemmas.List.Elements.{filter_map-append}
use Rattle.std.proofs.lemmas.List.Sums.{fold-append}
use Rattle.std.specs.Cmp.Lexicographic.{bytes_decides}
use Rattle.std.specs.Prelude.{bytes_eq, filter_map, fold}
use Rattle.std.specs.List.{AllByRecursion, cons_option, flat_map}
use Rattle.gb_provider.specs.Rules.{output_place}
use Rattle.gb_provider.specs.declared.expression.Expression.{Expression}
use Rattle.gb_provider.specs.declared.fault.Chosen.{Chosen}
use Rattle.gb_report.specs.declared.fault.Fault.{Fault}
use Rattle.gb_registry.proofs.Alike.{each_after-append}
use Rattle.gb_registry.proofs.Own.{own_script, script_of-append}
use Rattle.gb_registry.specs.Configure.{each_after, statement_faults}
use Rattle.gb_registry.specs.New.{AreNew}
use Rattle.gb_registry.specs.Projects.{Path, is_among, with_paths}
use Rattle.gb_registry.specs.Said.{Registered, Said, declared_property, properties_of, registered_by, said_by, script_of, tasks_of}
use Rattle.gb_registry.specs.Source.{Source}
use Rattle.gb_registry.specs.Tables.{Tables}
use Rattle.gb_script.specs.Tree.{Tree, Chain, TheBuildDir, NoLink}
use Rattle.gb_script.specs.declared.script.Statement.{Statement}
use Rattle.gb_script.specs.declared.script.Statement.TheVariants as statements
use Rattle.gb_declare.proofs.ReadyLemmas.{no_faults}
use Rattle.gb_declare.proofs.ViewLemmas.{known_path}
use Rattle.gb_declare.specs.Declaring.{block_scope, declared, declaring_faults, faults_within, scope_in, unless}
use Rattle.gb_declare.specs.Joined.{Joined, Named, joined, output_in}
use Rattle.gb_declare.specs.Whole.{spots, trees_of, whole}
use Rattle.gb_declare.proofs.FoundLemmas.{HasNodesOf}
use Rattle.gb_registry.proofs.Fine.{nil_back, nil_prefix}
use Rattle.gb_declare.proofs.ScriptLemmas as separate
use Rattle.gb_declare.proofs.ScriptLemmas.{named_has}
use Rattle.gb_declare.proofs.NodesInTableLemmas as existing
use Rattle.gb_declare.specs.Grown.{IsRight}
use Rattle.gb_declare.specs.Scripts.{script_made, script_site}
use Rattle.gb_declare.specs.Site.{Site}
use Rattle.gb_declare.specs.NodesInTable.{AreSaid, AreInTable, scripts_made, sites_made}
use Rattle.gb_project.specs.Kept.{AreDeclared, TasksAreGood, TasksInTable}
use Rattle.gb_project.specs.Stage.{AreAllGood, IsGood, Stage, begun, declared_in, with_declared, with_scripts, with_task}
use Rattle.gb_project.specs.Tasks.{registered_in, script_tasks}
use Rattle.gb_project.proofs.ClearLemmas.{IsClear, expressions_clear, row_good}
use Rattle.gb_project.proofs.ListLemmas.{all_at, both_all}
use Rattle.gb_project.proofs.OnceLemmas.{Separate, name_in, names_distinct, path_of, says, tasks_distinct}
use Rattle.gb_project.proofs.PlacedLemmas.{output_of_task}
use Rattle.gb_project.proofs.StepLemmas.{IsStage, IsStepped, all_steps, is_at, next, task_in}
use Rattle.gb_project.proofs.OneTaskLemmas.{HasOutputs, IsPlaced, chosen_of, result_of}

-- ---- The statements of a project are in its own script

-- a project with earlier statements has none later
silent : (done : List Said) (project : Path) (s : Statement) (ss : List Statement) (rest : List (Path × List Statement)) → script_of done project ≡ s ∷ ss → AreNew done rest
    → script_of (flat_map said_by rest) project ≡ []
silent done project s ss [] said new = refl
silent done project s ss (script ∷ rest) said new =
    let other : bytes_eq script.0 project ≡ false =
    elim (bytes_eq script.0 project) as (λ b. bytes_eq script.0 project ≡ b → b ≡ false) [
      | true ↦ λ is.
          let none : [] ≡ s ∷ ss = sym new.0 ∙ ap (script_of done) ((bytes_decides script.0 project).0 is) ∙ said in
          absurd (cc)
      | false ↦ λ _. refl
    ] refl in
    let here = own_script script.0 project false other script.1 in
    let more : script_of (done ++ said_by script) project ≡ s ∷ ss =
    script_of-append done (said_by script) project ∙ ap (λ l. script_of done project ++ l) here ∙ append-nil (script_of done project) ∙ said in
    script_of-append (said_by script) (flat_map said_by rest) project ∙ ap (λ l. l ++ script_of (flat_map said_by rest) project) here
    ∙ silent (done ++ said_by script) project s ss rest more new.1

same_bytes : (path : Path) → bytes_eq path path ≡ true
same_bytes path = (bytes_decides path path).1 refl

own_whole : (done : List Said) (script : Path × List Statement) (rest : List (Path × List Statement)) (s : Statement) (ss : List Statement) → script.1 ≡ s ∷ ss → script_of done script.0 ≡ []
    → AreNew (done ++ said_by script) rest → script_of (done ++ (said_by script ++ flat_map said_by rest)) script.0 ≡ script.1
own_whole done script rest s ss is none new =
    let own : script_of (said_by script) script.0 ≡ script.1 = own_script script.0 script.0 true (same_bytes script.0) script.1 in
    let here : script_of (done ++ said_by script) script.0 ≡ script.1 = script_of-append done (said_by script) script.0 ∙ ap (λ l. l ++ script_of (said_by script) script.0) none ∙ own in
    ap (λ l. script_of l script.0) (sym (append_assoc done (said_by script) (flat_map said_by rest)))
    ∙ script_of-append (done ++ said_by script) (flat_map said_by rest) script.0
    ∙ ap (λ l. script_of (done ++ said_by script) script.0 ++ l) (silent (done ++ said_by script) script.0 s ss rest (here ∙ is) new)
    ∙ append-nil (script_of (done ++ said_by script) script.0) ∙ here

-- ---- Its tasks

module _ (said : List Said) (project : Path) (script : List Statement) (own : script_of said project ≡ script) where
  same_task : (statement : Statement) → registered_by said (says project statement) ≡ registered_in project script statement
  same_task (statements.DefaultTasks texts) = refl
  same_task (statements.Property name) = refl
  same_task (statements.Set a) = refl
  same_task (statements.Convention a) = refl
  same_task (statements.Unset name) = refl
  same_task (statements.DisallowChanges name) = refl
  same_task (statements.Named c) = refl
  same_task (statements.Register r) =
      ap (λ l. registered_in project l (statements.Register r)) own

  same_tasks : (rest : List Statement) → filter_map (registered_by said) (said_by (project, rest)) ≡ filter_map (registered_in project script) rest
  same_tasks [] = refl
  same_tasks (statement ∷ rest) =
      ap (λ o. cons_option o (filter_map (registered_by said) (said_by (project, rest)))) (same_task statement)
      ∙ ap (cons_option (registered_in project script statement)) (same_tasks rest)

in_project : (project : Path) (script : List Statement) (rest : List Statement) → AllByRecursion (λ (at : Registered). at.project ≡ project) (filter_map (registered_in project script) rest)
in_project project script [] = tt
in_project project script (statements.DefaultTasks texts ∷ rest) = in_project project script rest
in_project project script (statements.Property name ∷ rest) = in_project project script rest
in_project project script (statements.Set a ∷ rest) = in_project project script rest
in_project project script (statements.Convention a ∷ rest) = in_project project script rest
in_project project script (statements.Unset name ∷ rest) = in_project project script rest
in_project project script (statements.DisallowChanges name ∷ rest) = in_project project script rest
in_project project script (statements.Named c ∷ rest) = in_project project script rest
in_project project script (statements.Register r ∷ rest) = (refl, in_project project script rest)

-- names that occur once are all stored
put_separate : (known names : List (List ℕ)) → separate.AreDistinct known names → with_paths known names ≡ known ++ names
put_separate known [] once = sym (append-nil known)
put_separate known (name ∷ names) once =
    ap (λ b. with_paths (cond b known (known ++ name ∷ [])) names) once.0 ∙ put_separate (known ++ name ∷ []) names once.1 ∙ append_assoc known (name ∷ []) names

module _ {M F Z S A : Type 0} (tables : Tables M F Z S A) (source : Source) where
  same_declared : (script : List Statement) (at : Registered) → with_paths [] (filter_map declared_property script) ≡ properties_of source.said at.project
      → declared_in tables source.names script at ≡ declared tables source.names source.said at
  same_declared script at same =
      ap (λ properties. unless (faults_within tables (scope_in at.project properties (Some source.names)) at) (joined at)) same

  -- what is declared in a project whose properties have nodes is made without a fault
  is_good : (site : Site) (at : Registered) → site.project ≡ at.project → HasNodesOf site (properties_of source.said at.project) → (r : Result Joined Fault) → result_of tables source at ≡ r → IsGood tables source.names site r
  is_good site at here knows (Err fault) is = tt
  is_good site at here knows (Ok task) is =
      let scope = block_scope source.names source.said at.project in
      let fault = no_faults (declaring_faults tables source.names source.said at) (joined at) task is in
      row_good tables scope site here (known_path (Some source.names) at.project) knows (trees_of task)
      (subst (λ (t : Joined). AllByRecursion (IsClear tables scope) (trees_of t)) fault.1 (expressions_clear tables scope at fault.0))

  module _ (given : List (Named (List ℕ))) where
    -- a task at the required position of its expressions
    record IsReady (site : Site) (script : List Statement) (at : Registered) : Type 0 where
      pub here : site.project ≡ at.project
      pub same : declared_in tables source.names script at ≡ result_of tables source at
      pub knows : HasNodesOf site (properties_of source.said at.project)

    module _ (n : ℕ) (done : List Said) (script : Path × List Statement) (rest : List (Path × List Statement)) (split : source.said ≡ done ++ (said_by script ++ flat_map said_by rest))
        (none : script_of done script.0 ≡ []) (new : AreNew (done ++ said_by script) rest) (good : each_after (statement_faults tables) done (said_by script) ≡ []) where
      abbrev own_site : Site
      own_site = script_site script.0 given n script.1

      own_names : with_paths [] (filter_map declared_property script.1) ≡ filter_map declared_property script.1
      own_names =
          put_separate [] (filter_map declared_property script.1)
          (subst (λ known. separate.AreDistinct known (filter_map declared_property script.1)) (ap (filter_map declared_property) none) (separate.names_distinct tables script.0 done script.1 good))

      tasks_ready : script_of source.said script.0 ≡ script.1 → (ats : List Registered) → AllByRecursion (λ (at : Registered). at.project ≡ script.0) ats → AllByRecursion (IsReady own_site script.1) ats
      tasks_ready own [] all = tt
      tasks_ready own (at ∷ ats) all =
          let properties : filter_map declared_property script.1 ≡ properties_of source.said at.project =
          ap (filter_map declared_property) (sym own) ∙ ap (properties_of source.said) (sym all.0) in (
            record {
              here = sym all.0;
              same = same_declared script.1 at (own_names ∙ properties);
              knows = λ name is. named_has name n [] (filter_map declared_property script.1) (inl (ap (λ ps. is_among ps name) properties ∙ is));
            },
            tasks_ready own ats all.1,
          )

      script_ready_by : (statements : List Statement) → script.1 ≡ statements
          → (filter_map (registered_by source.said) (said_by script) ≡ script_tasks script) × AllByRecursion (IsReady own_site script.1) (script_tasks script)
      script_ready_by [] is = (
        ap (λ l. filter_map (registered_by source.said) (said_by (script.0, l))) is ∙ sym (ap (λ l. filter_map (registered_in script.0 script.1) l) is),
        subst (λ l. AllByRecursion (IsReady own_site script.1) (filter_map (registered_in script.0 script.1) l)) (sym is) tt,
      )
      script_ready_by (s ∷ ss) is =
          let own : script_of source.said script.0 ≡ script.1 = ap (λ l. script_of l script.0) split ∙ own_whole done script rest s ss is none new in
          (same_tasks source.said script.0 script.1 own script.1, tasks_ready own (script_tasks script) (in_project script.0 script.1 script.1))

      script_ready : (filter_map (registered_by source.said) (said_by script) ≡ script_tasks script) × AllByRecursion (IsReady own_site script.1) (script_tasks script)
      script_ready = script_ready_by script.1 refl

    -- tasks, each at the required position of its expressions
    abbrev placed : List (Expression M F Z) → List (Path × List Statement) → List (Site × Registered)
    placed nodes [] = []
    placed nodes (script ∷ scripts) =
        map (λ at. (script_site script.0 given (length nodes) script.1, at)) (script_tasks script)
        ++ placed (script_made tables.functions script.0 given nodes script.1) scripts

    abbrev sites : List (Expression M F Z) → List (Path × List Statement) → List Site
    sites nodes scripts = sites_made tables.functions given nodes scripts

    module _ (number : ℕ → ℕ) (final : List (Expression M F Z)) where
      abbrev IsRightHere : Site → Type 0
      IsRightHere site = IsRight tables source (spots tables source) (whole tables source) number final site

      pub record ArePlaced (nodes : List (Expression M F Z)) (scripts : List (Path × List Statement)) : Type 0 where
        pub listed : flat_map script_tasks scripts ≡ filter_map (registered_by source.said) (flat_map said_by scripts)
        pub tasks : map task_in (placed nodes scripts) ≡ filter_map (registered_by source.said) (flat_map said_by scripts)
        pub same : (stage : Stage M F Z) → with_scripts tables source.names stage (sites nodes scripts) scripts ≡ fold (next tables source) stage (placed nodes scripts)
        pub ready : AllByRecursion (is_at tables source number final) (placed nodes scripts)
        pub good : AreAllGood tables source.names (sites nodes scripts) scripts

      module _ (site : Site) (script : List Statement) (right : IsRightHere site) where
        abbrev pair : Registered → Site × Registered
        pair at = (site, at)

        task_of_pair : (ats : List Registered) → map task_in (map pair ats) ≡ ats
        task_of_pair [] = refl
        task_of_pair (at ∷ ats) = ap (λ l. at ∷ l) (task_of_pair ats)

        fold_same : (ats : List Registered) → AllByRecursion (IsReady site script) ats → (stage : Stage M F Z) → fold (with_task tables source.names site script) stage ats ≡ fold (next tables source) stage (map pair ats)
        fold_same [] all stage = refl
        fold_same (at ∷ ats) all stage =
            ap (λ r. fold (with_task tables source.names site script) (with_declared tables.functions site at.path stage r) ats) all.0.same ∙ fold_same ats all.1 (next tables source stage (site, at))

        pairs_ready : (ats : List Registered) → AllByRecursion (IsReady site script) ats → AllByRecursion (is_at tables source number final) (map pair ats)
        pairs_ready [] all = tt
        pairs_ready (at ∷ ats) all = (record { right = right; here = all.0.here; knows = all.0.knows }, pairs_ready ats all.1)

        tasks_good : (ats : List Registered) → AllByRecursion (IsReady site script) ats → AllByRecursion (λ at. IsGood tables source.names site (declared_in tables source.names script at)) ats
        tasks_good [] all = tt
        tasks_good (at ∷ ats) all = (
          subst (IsGood tables source.names site) (sym all.0.same) (is_good site at all.0.here all.0.knows (result_of tables source at) refl),
          tasks_good ats all.1,
        )

      all_placed : (scripts : List (Path × List Statement)) (done : List Said) (nodes : List (Expression M F Z)) → source.said ≡ done ++ flat_map said_by scripts → AreNew done scripts
          → each_after (statement_faults tables) done (flat_map said_by scripts) ≡ [] → AllByRecursion IsRightHere (sites nodes scripts) → ArePlaced nodes scripts
      all_placed [] done nodes split new good right = record { listed = refl; tasks = refl; same = λ stage. refl; ready = tt; good = tt }
      all_placed (script ∷ scripts) done nodes split new good right =
          let here = said_by script in
          let others = flat_map said_by scripts in
          let parted = sym (each_after-append (statement_faults tables) done here others) ∙ good in
          let one = script_ready (length nodes) done script scripts split new.0 new.1 (nil_prefix (each_after (statement_faults tables) done here) (each_after (statement_faults tables) (done ++ here) others) parted) in
          let more = script_made tables.functions script.0 given nodes script.1 in
          let rest = all_placed scripts (done ++ here) more (split ∙ sym (append_assoc done here others)) new.1
          (nil_back (each_after (statement_faults tables) done here) (each_after (statement_faults tables) (done ++ here) others) parted) right.1 in
          let site = script_site script.0 given (length nodes) script.1 in
          let pairs = map (pair site script.1 right.0) (script_tasks script) in
          record {
            listed =
                ap (λ l. l ++ flat_map script_tasks scripts) (sym one.0)
                ∙ ap (λ l. filter_map (registered_by source.said) here ++ l) rest.listed
                ∙ sym (filter_map-append (registered_by source.said) here others);
            tasks =
                map-append task_in pairs (placed more scripts)
                ∙ ap (λ l. l ++ map task_in (placed more scripts)) (task_of_pair site script.1 right.0 (script_tasks script) ∙ sym one.0)
                ∙ ap (λ l. filter_map (registered_by source.said) here ++ l) rest.tasks
                ∙ sym (filter_map-append (registered_by source.said) here others);
            same = λ stage.
                ap (λ s. with_scripts tables source.names s (sites more scripts) scripts) (fold_same site script.1 right.0 (script_tasks script) one.1 stage)
                ∙ rest.same (fold (next tables source) stage pairs)
                ∙ sym (fold-append (next tables source) stage pairs (placed more scripts));
            ready = both_all (is_at tables source number final) pairs (placed more scripts) (pairs_ready site script.1 right.0 (script_tasks script) one.1) rest.ready;
            good = (tasks_good site script.1 right.0 (script_tasks script) one.1, rest.good);
          }

  -- ---- The laws

  module _ (scripts : List (Path × List Statement)) (given : List (Named (List ℕ))) (said : AreSaid tables source scripts given) where
    abbrev first_nodes : List (Expression M F Z)
    first_nodes = scripts_made tables.functions given [] scripts

    exists_first : AreInTable tables source first_nodes (sites_made tables.functions given [] scripts)
    exists_first = existing.scripts_in_table tables source scripts given said

    paths_once : Separate path_of [] (tasks_of source.said)
    paths_once = tasks_distinct tables source.said [] source.said said.good

    outputs_once : (at : Registered) (task : Joined) → result_of tables source at ≡ Ok task → Separate name_in [] task.outputs
    outputs_once at task is =
        subst (λ (t : Joined). Separate name_in [] t.outputs) (no_faults (declaring_faults tables source.names source.said at) (joined at) task is).1 (names_distinct (filter_map output_in at.clauses))

    all_there : ArePlaced given exists_first.number first_nodes [] scripts
    all_there =
        all_placed given exists_first.number first_nodes scripts [] [] said.said said.new (ap (each_after (statement_faults tables) []) (sym said.said) ∙ said.good) exists_first.right

    first_is : IsStage tables source [] exists_first.number (begun first_nodes)
    first_is = record {
      laid = exists_first.laid;
      kept = tt;
      known = λ chosen j found. (let clash : None ≡ Some j = sym (exists_first.plain chosen) ∙ found in absurd (cc));
      placed = tt;
    }

    stepped : IsStepped tables source (tasks_of source.said) exists_first.number (begun first_nodes) (fold (next tables source) (begun first_nodes) (placed given [] scripts))
    stepped =
        all_steps tables source paths_once outputs_once (placed given [] scripts) [] exists_first.number (begun first_nodes)
        (ap (filter_map (registered_by source.said)) said.said ∙ sym all_there.tasks) all_there.ready first_is

    abbrev end_nodes : List (Expression M F Z)
    end_nodes = (fold (next tables source) (begun first_nodes) (placed given [] scripts)).nodes

    abbrev any_tree : Tree
    any_tree = Chain TheBuildDir NoLink

    end_placed : (chosen : Chosen) (k : ℕ) → output_place (whole tables source) chosen ≡ Some k
        → IsPlaced tables source (fold (next tables source) (begun first_nodes) (placed given [] scripts)).nodes chosen
    end_placed chosen k is =
        let found = output_of_task tables source paths_once chosen.task chosen.output any_tree k is in
        let o = found.2 in
        let all = all_at (HasOutputs tables source end_nodes) (tasks_of source.said) o.index o.at stepped.stage.placed o.there o.task_is o.declared in
        let placed = all_at (λ output. IsPlaced tables source end_nodes (chosen_of tables source o.at output)) o.task_is.outputs o.place (chosen.output, o.made) all o.output in
        subst (λ task. IsPlaced tables source end_nodes (record { task = task; output = chosen.output })) o.path_is placed

    declared_all : AreDeclared tables source (fold (next tables source) (begun first_nodes) (placed given [] scripts))
    declared_all = record {
      number = stepped.numbers;
      complete = record { laid = stepped.stage.laid; placed = end_placed };
      kept = stepped.stage.kept;
    }

  -- the tasks of the scripts are all tasks
  pub tasks_listed : (scripts : List (Path × List Statement)) (given : List (Named (List ℕ))) → AreSaid tables source scripts given → flat_map script_tasks scripts ≡ tasks_of source.said
  tasks_listed scripts given said = (all_there scripts given said).listed ∙ sym (ap (filter_map (registered_by source.said)) said.said)

  pub tasks_in_table : TasksInTable tables source
  tasks_in_table scripts given said = subst (AreDeclared tables source) (sym ((all_there scripts given said).same (begun (scripts_made tables.functions given [] scripts)))) (declared_all scripts given said)

  pub tasks_are_good : TasksAreGood tables source
  tasks_are_good scripts given said = (all_there scripts given said).good
