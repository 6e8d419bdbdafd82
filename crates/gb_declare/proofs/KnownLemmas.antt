-- The tasks that a realised task names are registered.
use Rattle.std.proofs.Common.{◌≡◌, ℕ, Bool, true, false, List, [], ◌∷◌, ◌++◌, Option, None, Some, Result, Ok, Err, if◌then◌else◌, refl, ap, subst, ◌∙◌}
use Rattle.std.proofs.lemmas.Grind.{flat_map-append}
use Rattle.std.specs.BTreeSet.{insert_key}
use Rattle.std.specs.List.{AllByRecursion, flat_map}
use Rattle.std.specs.List.Sorted.{IsStrictlySortedBy}
use Rattle.std.specs.Cmp.Lexicographic.{nat_list_cmp_total}
use Rattle.std.specs.Ordering.{match_ordering, ordering_reverse}
use Rattle.std.specs.declared.cmp.Ordering.TheVariants.{Less, Equal, Greater}
use Rattle.gb_core.specs.Lists.{byte_order}
use Rattle.gb_core.specs.Path.{is_task_path, project_of}
use Rattle.gb_core.specs.Tasks.{with_tasks}
use Rattle.gb_plan.specs.declared.task.TaskDeclaration.{TaskDeclaration}
use Rattle.gb_report.specs.declared.fault.Fault.{Fault}
use Rattle.gb_report.specs.declared.fault.Fault.TheVariants as faults
use Rattle.gb_script.specs.declared.script.Clause.{Clause}
use Rattle.gb_registry.specs.Projects.{Path, absolute, is_among}
use Rattle.gb_registry.specs.References.{Names, lookup_faults, reference_faults}
use Rattle.gb_registry.specs.Said.{Registered, task_at}
use Rattle.gb_registry.specs.Source.{Source}
use Rattle.gb_registry.specs.Tables.{Tables}
use Rattle.gb_registry.specs.Wrong.{Scope}
use Rattle.gb_declare.specs.Declaring.{block_scope, clash_faults, clause_faults, clauses_faults, declared, declaring_faults, main_faults, shape_faults}
use Rattle.gb_declare.specs.Joined.{Joined, joined, depends_on_in, must_run_after_in, finalized_by_in, tasks_in}
use Rattle.gb_declare.specs.Known.{IsInOrder, IsRegistered, NamesTasks, RealisedInOrder, RealisedNamesTasks}
use Rattle.gb_declare.specs.Realised.{evaluated, needing, producers_of, realised_at, realised_if}
use Rattle.gb_declare.specs.Whole.{spots, table_of}
use Rattle.gb_declare.proofs.AllLemmas.{insert_all, with_all}
use Rattle.gb_declare.proofs.EvaluatedLemmas.{is_evaluated}
use Rattle.gb_declare.proofs.ReadyLemmas.{no_faults}
use Rattle.gb_declare.proofs.ViewLemmas.{back_none, prefix_none, judged_must_run_after_in, judged_finalized_by_in, known_path}

-- ---- Tasks in order

all_above : (task other : Path) (tasks : List Path) → byte_order task other ≡ Less → AllByRecursion (λ y. byte_order other y ≡ Less) tasks → AllByRecursion (λ y. byte_order task y ≡ Less) tasks
all_above task other [] less all = tt
all_above task other (y ∷ tasks) less all = (nat_list_cmp_total.trans task other y less all.0, all_above task other tasks less all.1)

insert_sorted : (tasks : List Path) (task : Path) → IsStrictlySortedBy byte_order tasks → IsStrictlySortedBy byte_order (insert_key byte_order tasks task)
unfolding IsStrictlySortedBy
insert_sorted [] task sorted = (tt, tt)
insert_sorted (other ∷ tasks) task sorted =
    elim (byte_order task other) as (λ o. byte_order task other ≡ o → IsStrictlySortedBy byte_order (match_ordering o (task ∷ other ∷ tasks) (other ∷ tasks) (other ∷ insert_key byte_order tasks task))) [
      | Less ↦ λ p. ((p, all_above task other tasks p sorted.0), sorted)
      | Equal ↦ λ p. sorted
      | Greater ↦ λ p.
          let less : byte_order other task ≡ Less = nat_list_cmp_total.antisymm other task ∙ ap ordering_reverse p in
          (insert_all (λ y. byte_order other y ≡ Less) tasks task sorted.0 less, insert_sorted tasks task sorted.1)
    ] refl

with_sorted : (there more : List Path) → IsStrictlySortedBy byte_order there → IsStrictlySortedBy byte_order (with_tasks there more)
with_sorted there [] sorted = sorted
with_sorted there (task ∷ more) sorted = with_sorted (insert_key byte_order there task) more (insert_sorted there task sorted)

none_sorted : IsStrictlySortedBy byte_order []
unfolding IsStrictlySortedBy
none_sorted = tt

named_sorted : (project : Path) (texts : List (List ℕ)) → IsStrictlySortedBy byte_order (tasks_in project texts)
named_sorted project texts = with_sorted [] (flat_map (λ text. absolute project text ∷ []) texts) none_sorted

-- ---- Texts

-- a task whose lookup succeeds exists
pub looked_up : (names : Names) (project : Path) (text : List ℕ) → lookup_faults names project text ≡ [] → is_among names.tasks (absolute project text) ≡ true
looked_up names project text e = there_too (is_among names.projects (project_of (absolute project text))) (is_among names.tasks (absolute project text)) e
  where
    there_too : (there known : Bool) → (if there then (if known then [] else faults.TaskNotFound text ∷ []) else faults.UnknownProject text ∷ []) ≡ [] → known ≡ true
    there_too true true e = refl
    there_too true false e = absurd (cc)
    there_too false known e = absurd (cc)

-- a text without a fault names a task
pub found : (names : Names) (project : Path) (text : List ℕ) → reference_faults names project text ≡ [] → is_among names.tasks (absolute project text) ≡ true
found names project text e =
    elim (is_task_path (absolute project text)) as (λ b. (if b then lookup_faults names project text else faults.BadName text ∷ []) ≡ [] → is_among names.tasks (absolute project text) ≡ true) [
      | true ↦ λ e. looked_up names project text e
      | false ↦ λ e. absurd (cc)
    ] e

module _ (names : Names) (project : Path) where
  all_found : (texts : List (List ℕ)) → flat_map (reference_faults names project) texts ≡ [] → AllByRecursion (λ path. is_among names.tasks path ≡ true) (flat_map (λ text. absolute project text ∷ []) texts)
  all_found [] e = tt
  all_found (text ∷ texts) e = (found names project text (prefix_none (reference_faults names project text) _ e), all_found texts (back_none (reference_faults names project text) _ e))

  pub registered_in : (texts : List (List ℕ)) → flat_map (reference_faults names project) texts ≡ [] → AllByRecursion (λ path. is_among names.tasks path ≡ true) (tasks_in project texts)
  registered_in texts e = with_all (λ path. is_among names.tasks path ≡ true) [] (flat_map (λ text. absolute project text ∷ []) texts) tt (all_found texts e)

-- the texts of clauses without a fault have no fault
pub all_known : {M F Z S A : Type 0} (tables : Tables M F Z S A) (scope : Scope) (path : Path) (pick : Clause → List (List ℕ)) → ((clause : Clause) → clause_faults tables scope clause ≡ [] → flat_map scope.task_faults (pick clause) ≡ [])
    → (before after : List Clause) → clauses_faults tables scope path before after ≡ [] → flat_map scope.task_faults (flat_map pick after) ≡ []
all_known tables scope path pick judged before [] e = refl
all_known tables scope path pick judged before (clause ∷ after) e =
    let both = clash_faults path before clause ++ clause_faults tables scope clause in
    let here : clause_faults tables scope clause ≡ [] = back_none (clash_faults path before clause) _ (prefix_none both _ e) in
    flat_map-append scope.task_faults (pick clause) (flat_map pick after)
    ∙ ap (λ f. f ++ flat_map scope.task_faults (flat_map pick after)) (judged clause here)
    ∙ all_known tables scope path pick judged (before ++ clause ∷ []) after (back_none both _ e)

-- ---- A task

module _ {M F Z S A : Type 0} (tables : Tables M F Z S A) (source : Source) (at : Registered) where
  pub clauses_clear : declaring_faults tables source.names source.said at ≡ [] → clauses_faults tables (block_scope source.names source.said at.project) at.path [] at.clauses ≡ []
  clauses_clear e =
      let scope = block_scope source.names source.said at.project in
      back_none (main_faults tables scope at.action) (clauses_faults tables scope at.path [] at.clauses)
      (prefix_none (main_faults tables scope at.action ++ clauses_faults tables scope at.path [] at.clauses) (shape_faults tables at.path (joined at)) e)

  names_at : (task : Joined) (t : TaskDeclaration) → declared tables source.names source.said at ≡ Ok task → evaluated tables source at (spots tables source) (table_of tables source (spots tables source)) task ≡ Ok t → NamesTasks source t
  names_at task t is e =
      let scope = block_scope source.names source.said at.project in
      let ok = no_faults (declaring_faults tables source.names source.said at) (joined at) task is in
      let kept = is_evaluated tables source at (spots tables source) (table_of tables source (spots tables source)) task t e in
      let clear = clauses_clear ok.0 in
      let after = registered_in source.names at.project (flat_map must_run_after_in at.clauses) (all_known tables scope at.path must_run_after_in (judged_must_run_after_in tables scope at.path at.project (known_path (Some source.names) at.project)) [] at.clauses clear) in
      let finalizers = registered_in source.names at.project (flat_map finalized_by_in at.clauses) (all_known tables scope at.path finalized_by_in (judged_finalized_by_in tables scope at.path at.project (known_path (Some source.names) at.project)) [] at.clauses clear) in
      record {
        after = subst (AllByRecursion (IsRegistered source)) (ap (λ (j : Joined). j.must_run_after) ok.1 ∙ kept.after) after;
        finalizers = subst (AllByRecursion (IsRegistered source)) (ap (λ (j : Joined). j.finalizers) ok.1 ∙ kept.finalizers) finalizers;
      }

  in_order_at : (task : Joined) (t : TaskDeclaration) → declared tables source.names source.said at ≡ Ok task → evaluated tables source at (spots tables source) (table_of tables source (spots tables source)) task ≡ Ok t → IsInOrder t
  in_order_at task t is e =
      let Sorted : List Path → Type 0 = λ tasks. IsStrictlySortedBy byte_order tasks in
      let all = spots tables source in
      let table = table_of tables source all in
      let ok = no_faults (declaring_faults tables source.names source.said at) (joined at) task is in
      let kept = is_evaluated tables source at (spots tables source) (table_of tables source (spots tables source)) task t e in
      let needs : Sorted task.depends_on = subst (λ (j : Joined). Sorted j.depends_on) ok.1 (named_sorted at.project (flat_map depends_on_in at.clauses)) in
      record {
        needs = subst Sorted kept.needs (with_sorted task.depends_on (flat_map (producers_of tables source at all table) (needing tables source at all table task)) needs);
        after = subst Sorted (ap (λ (j : Joined). j.must_run_after) ok.1 ∙ kept.after) (named_sorted at.project (flat_map must_run_after_in at.clauses));
        finalizers = subst Sorted (ap (λ (j : Joined). j.finalizers) ok.1 ∙ kept.finalizers) (named_sorted at.project (flat_map finalized_by_in at.clauses));
      }

  in_order_if_declared : (r : Result Joined Fault) (t : TaskDeclaration) → declared tables source.names source.said at ≡ r → realised_at tables source at r ≡ Ok t → IsInOrder t
  in_order_if_declared (Ok task) t is e = in_order_at task t is e
  in_order_if_declared (Err fault) t is e = absurd (cc)

  names_if_declared : (r : Result Joined Fault) (t : TaskDeclaration) → declared tables source.names source.said at ≡ r → realised_at tables source at r ≡ Ok t → NamesTasks source t
  names_if_declared (Ok task) t is e = names_at task t is e
  names_if_declared (Err fault) t is e = absurd (cc)

module _ {M F Z S A : Type 0} (tables : Tables M F Z S A) (source : Source) where
  names_if : (path : Path) (o : Option Registered) (t : TaskDeclaration) → realised_if tables source path o ≡ Ok t → NamesTasks source t
  names_if path None t e = absurd (cc)
  names_if path (Some at) t e = names_if_declared tables source at (declared tables source.names source.said at) t refl e

  pub realised_names_tasks : RealisedNamesTasks tables source
  realised_names_tasks path t e = names_if path (task_at source.said path) t e

  in_order_if : (path : Path) (o : Option Registered) (t : TaskDeclaration) → realised_if tables source path o ≡ Ok t → IsInOrder t
  in_order_if path None t e = absurd (cc)
  in_order_if path (Some at) t e = in_order_if_declared tables source at (declared tables source.names source.said at) t refl e

  pub realised_in_order : RealisedInOrder tables source
  realised_in_order path t e = in_order_if path (task_at source.said path) t e
