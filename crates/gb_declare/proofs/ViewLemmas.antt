-- Shapes, and texts that are paths, of a task whose parts are borrowed.
use Rattle.std.proofs.Common.{◌≡◌, inl, inr, ℕ, Bool, true, false, ◌||◌, List, [], ◌∷◌, ◌++◌, map, if◌then◌else◌, Option, None, Some, refl, ap, ◌∙◌}
use Rattle.std.proofs.lemmas.Grind.{flat_map-append}
use Rattle.std.specs.Borrow.{Bor}
use Rattle.std.specs.List.{flat_map, list_any}
use Rattle.std.specs.FinMap.Entries.{find}
use Rattle.gb_action.specs.declared.output_files.Form.{Form}
use Rattle.gb_core.specs.Lists.{byte_order}
use Rattle.gb_core.specs.Path.{is_task_path}
use Rattle.gb_report.specs.declared.fault.Fault.{Fault}
use Rattle.gb_script.specs.declared.script.Call.{Call}
use Rattle.gb_script.specs.declared.script.Clause.{Clause}
use Rattle.gb_script.specs.declared.script.Clause.TheVariants as clauses
use Rattle.gb_report.specs.declared.fault.Fault.TheVariants.{BadName, OutOfMemory}
use Rattle.gb_registry.specs.Faults.{first_of, IsFirstFault}
use Rattle.gb_registry.specs.Said.{Registered}
use Rattle.gb_registry.specs.Projects.{Path, absolute}
use Rattle.gb_registry.specs.References.{Names, name_faults, lookup_faults}
use Rattle.gb_registry.specs.Tables.{Tables}
use Rattle.gb_registry.specs.Wrong.{Scope, task_faults_in}
use Rattle.gb_declare.specs.Declaring.{clash_faults, clause_faults, clauses_faults, is_misfit, is_misshapen, lacks_actions}
use Rattle.gb_declare.specs.Joined.{Joined, depends_on_in, must_run_after_in, finalized_by_in}
use Rattle.gb_declare.specs.Shapes.{is_unfit}
use Rattle.gb_declare.specs.Views.{joined_of, text_faults}
use Rattle.gb_declare.specs.declared.registered.Joined as read

-- ---- Shapes

lacks_alike : {X X' X'' Y : Type 0} (f : X → X') (g : X → X'') (xs : List X) (ys : List Y) → lacks_actions (map f xs) ys ≡ lacks_actions (map g xs) ys
lacks_alike f g [] ys = refl
lacks_alike f g (x ∷ xs) [] = refl
lacks_alike f g (x ∷ xs) (y ∷ ys) = refl

lacks_mapped : {X Y Y' : Type 0} (g : Y → Y') (xs : List X) (ys : List Y) → lacks_actions xs ys ≡ lacks_actions xs (map g ys)
lacks_mapped g [] ys = refl
lacks_mapped g (x ∷ xs) [] = refl
lacks_mapped g (x ∷ xs) (y ∷ ys) = refl

any_mapped : {X Y : Type 0} (f : X → Y) (p : Y → Bool) (q : X → Bool) → ((x : X) → q x ≡ p (f x)) → (xs : List X) → list_any q xs ≡ list_any p (map f xs)
any_mapped f p q same [] = refl
any_mapped f p q same (x ∷ xs) = ap (λ b. b || list_any q xs) (same x) ∙ ap (λ b. p (f x) || b) (any_mapped f p q same xs)

mapped_twice : {X Y Z : Type 0} (f : X → Y) (g : Y → Z) (xs : List X) → map (λ x. g (f x)) xs ≡ map g (map f xs)
mapped_twice f g [] = refl
mapped_twice f g (x ∷ xs) = ap (λ rest. g (f x) ∷ rest) (mapped_twice f g xs)

module _ {M F Z S A : Type 0} (tables : Tables M F Z S A) where
  unfit_is : (task : Joined) (stored : Option A) → is_unfit tables.shapes (map (λ files. files.0) task.files) (map (λ output. (output.0, output.1.0)) task.outputs) stored ≡ is_misfit tables task stored
  unfit_is task None = refl
  unfit_is task (Some stored) = refl

  pub misshapen_is : (said : read.Joined) (names : List (List ℕ)) (forms : List (List ℕ × Form)) → names ≡ map (λ e. e.0) said.files.entries → forms ≡ map (λ e. (e.0, e.1.0)) said.outputs.entries
      → (lacks_actions forms said.actions || list_any (λ (call : Bor Call). is_unfit tables.shapes names forms (find byte_order call.now.name tables.kinds)) said.actions) ≡ is_misshapen tables (joined_of said)
  misshapen_is said names forms names_are forms_are =
      let names_is : names ≡ map (λ files. files.0) (joined_of said).files = names_are ∙ mapped_twice (λ e. (e.0, e.1.now)) (λ files. files.0) said.files.entries in
      let forms_is : forms ≡ map (λ output. (output.0, output.1.0)) (joined_of said).outputs = forms_are ∙ mapped_twice (λ e. (e.0, (e.1.0, e.1.1.now))) (λ output. (output.0, output.1.0)) said.outputs.entries in
      let lacks : lacks_actions forms said.actions ≡ lacks_actions (joined_of said).outputs (joined_of said).actions =
      ap (λ (fs : List (List ℕ × Form)). lacks_actions fs said.actions) forms_are
      ∙ lacks_alike (λ e. (e.0, e.1.0)) (λ e. (e.0, (e.1.0, e.1.1.now))) said.outputs.entries said.actions
      ∙ lacks_mapped (λ (c : Bor Call). c.now) (joined_of said).outputs said.actions in
      ap (λ b. b || list_any (λ (call : Bor Call). is_unfit tables.shapes names forms (find byte_order call.now.name tables.kinds)) said.actions) lacks
      ∙ ap (λ b. lacks_actions (joined_of said).outputs (joined_of said).actions || b)
      (any_mapped (λ (c : Bor Call). c.now) (λ call. is_misfit tables (joined_of said) (find byte_order call.name tables.kinds)) _
      (λ call. ap (λ (ns : List (List ℕ)). is_unfit tables.shapes ns forms (find byte_order call.now.name tables.kinds)) names_is
      ∙ ap (λ (fs : List (List ℕ × Form)). is_unfit tables.shapes (map (λ files. files.0) (joined_of said).files) fs (find byte_order call.now.name tables.kinds)) forms_is
      ∙ unfit_is (joined_of said) (find byte_order call.now.name tables.kinds)) said.actions)

-- ---- Texts

pub prefix_none : (a b : List Fault) → a ++ b ≡ [] → a ≡ []
prefix_none [] b e = refl
prefix_none (x ∷ a) b e = absurd (cc)

pub back_none : (a b : List Fault) → a ++ b ≡ [] → b ≡ []
back_none [] b e = e
back_none (x ∷ a) b e = absurd (cc)

module _ {M F Z S A : Type 0} (tables : Tables M F Z S A) (scope : Scope) (path project : Path) (known : (text : List ℕ) → scope.task_faults text ≡ [] → name_faults project text ≡ []) where
  paths_only : (texts : List (List ℕ)) → flat_map scope.task_faults texts ≡ [] → flat_map (name_faults project) texts ≡ []
  paths_only [] e = refl
  paths_only (text ∷ texts) e =
      ap (λ f. f ++ flat_map (name_faults project) texts) (known text (prefix_none (scope.task_faults text) _ e)) ∙ paths_only texts (back_none (scope.task_faults text) _ e)

  all_paths : (pick : Clause → List (List ℕ)) → ((clause : Clause) → clause_faults tables scope clause ≡ [] → flat_map scope.task_faults (pick clause) ≡ [])
      → (before after : List Clause) → clauses_faults tables scope path before after ≡ [] → flat_map (name_faults project) (flat_map pick after) ≡ []
  all_paths pick judged before [] e = refl
  all_paths pick judged before (clause ∷ after) e =
      let both = clash_faults path before clause ++ clause_faults tables scope clause in
      let here : clause_faults tables scope clause ≡ [] = back_none (clash_faults path before clause) _ (prefix_none both _ e) in
      flat_map-append (name_faults project) (pick clause) (flat_map pick after)
      ∙ ap (λ f. f ++ flat_map (name_faults project) (flat_map pick after)) (paths_only (pick clause) (judged clause here))
      ∙ all_paths pick judged (before ++ clause ∷ []) after (back_none both _ e)

  pub judged_depends_on_in : (clause : Clause) → clause_faults tables scope clause ≡ [] → flat_map scope.task_faults (depends_on_in clause) ≡ []
  judged_depends_on_in (clauses.Input x) e = refl
  judged_depends_on_in (clauses.InputFiles x) e = refl
  judged_depends_on_in (clauses.OutputFile x) e = refl
  judged_depends_on_in (clauses.OutputDir x) e = refl
  judged_depends_on_in (clauses.DependsOn x) e = e
  judged_depends_on_in (clauses.MustRunAfter x) e = refl
  judged_depends_on_in (clauses.FinalizedBy x) e = refl
  judged_depends_on_in (clauses.DoFirst x) e = refl
  judged_depends_on_in (clauses.DoLast x) e = refl
  judged_depends_on_in (clauses.OnlyIf x) e = refl
  judged_depends_on_in (clauses.UpToDateWhen x) e = refl
  judged_depends_on_in (clauses.Enabled x) e = refl

  pub clear_depends_on_in : (after : List Clause) → clauses_faults tables scope path [] after ≡ [] → flat_map (name_faults project) (flat_map depends_on_in after) ≡ []
  clear_depends_on_in = all_paths depends_on_in judged_depends_on_in []

  pub judged_must_run_after_in : (clause : Clause) → clause_faults tables scope clause ≡ [] → flat_map scope.task_faults (must_run_after_in clause) ≡ []
  judged_must_run_after_in (clauses.Input x) e = refl
  judged_must_run_after_in (clauses.InputFiles x) e = refl
  judged_must_run_after_in (clauses.OutputFile x) e = refl
  judged_must_run_after_in (clauses.OutputDir x) e = refl
  judged_must_run_after_in (clauses.DependsOn x) e = refl
  judged_must_run_after_in (clauses.MustRunAfter x) e = e
  judged_must_run_after_in (clauses.FinalizedBy x) e = refl
  judged_must_run_after_in (clauses.DoFirst x) e = refl
  judged_must_run_after_in (clauses.DoLast x) e = refl
  judged_must_run_after_in (clauses.OnlyIf x) e = refl
  judged_must_run_after_in (clauses.UpToDateWhen x) e = refl
  judged_must_run_after_in (clauses.Enabled x) e = refl

  pub clear_must_run_after_in : (after : List Clause) → clauses_faults tables scope path [] after ≡ [] → flat_map (name_faults project) (flat_map must_run_after_in after) ≡ []
  clear_must_run_after_in = all_paths must_run_after_in judged_must_run_after_in []

  pub judged_finalized_by_in : (clause : Clause) → clause_faults tables scope clause ≡ [] → flat_map scope.task_faults (finalized_by_in clause) ≡ []
  judged_finalized_by_in (clauses.Input x) e = refl
  judged_finalized_by_in (clauses.InputFiles x) e = refl
  judged_finalized_by_in (clauses.OutputFile x) e = refl
  judged_finalized_by_in (clauses.OutputDir x) e = refl
  judged_finalized_by_in (clauses.DependsOn x) e = refl
  judged_finalized_by_in (clauses.MustRunAfter x) e = refl
  judged_finalized_by_in (clauses.FinalizedBy x) e = e
  judged_finalized_by_in (clauses.DoFirst x) e = refl
  judged_finalized_by_in (clauses.DoLast x) e = refl
  judged_finalized_by_in (clauses.OnlyIf x) e = refl
  judged_finalized_by_in (clauses.UpToDateWhen x) e = refl
  judged_finalized_by_in (clauses.Enabled x) e = refl

  pub clear_finalized_by_in : (after : List Clause) → clauses_faults tables scope path [] after ≡ [] → flat_map (name_faults project) (flat_map finalized_by_in after) ≡ []
  clear_finalized_by_in = all_paths finalized_by_in judged_finalized_by_in []

-- where no clause is at fault, each text is a path
pub text_clear : {M F Z S A : Type 0} (tables : Tables M F Z S A) (scope : Scope) (task : Registered) → ((text : List ℕ) → scope.task_faults text ≡ [] → name_faults task.project text ≡ [])
    → clauses_faults tables scope task.path [] task.clauses ≡ [] → text_faults task ≡ []
text_clear tables scope task known clear =
    ap (λ f. f ++ flat_map (name_faults task.project) (flat_map must_run_after_in task.clauses) ++ flat_map (name_faults task.project) (flat_map finalized_by_in task.clauses))
    (clear_depends_on_in tables scope task.path task.project known task.clauses clear)
    ∙ ap (λ f. f ++ flat_map (name_faults task.project) (flat_map finalized_by_in task.clauses)) (clear_must_run_after_in tables scope task.path task.project known task.clauses clear)
    ∙ clear_finalized_by_in tables scope task.path task.project known task.clauses clear

-- where there is no fault, memory ran out
pub only_memory : (faults : List Fault) (fault : Fault) → faults ≡ [] → IsFirstFault faults fault → fault ≡ OutOfMemory
only_memory faults fault none (inl memory) = memory
only_memory faults fault none (inr first) = let none_first : first_of faults ≡ None = ap first_of none in absurd (cc)

-- what is known to be a task is a path
pub known_path : (names : Option Names) (project : Path) (text : List ℕ) → task_faults_in names project text ≡ [] → name_faults project text ≡ []
known_path None project text e = e
known_path (Some names) project text e =
    elim (is_task_path (absolute project text)) as (λ b. (if b then lookup_faults names project text else BadName text ∷ []) ≡ [] → (if b then [] else BadName text ∷ []) ≡ []) [
      | true ↦ λ _. refl
      | false ↦ λ e. e
    ] e
