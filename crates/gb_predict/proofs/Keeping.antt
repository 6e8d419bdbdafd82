-- A build keeps what is predicted of a task without a mark, up to the first task that fails.
use Rattle.std.specs.Prelude.{ℕ, ◌≡◌, ◌⊎◌, Bool, true, false, not, cond, ◌&&◌, ◌||◌, List, [], ◌∷◌, ◌++◌, map, bytes_eq, Option, None, Some, find, option_map, is_some}
use Rattle.std.specs.List.{AllByRecursion, AllZip, flat_map, list_any, zip}
use Rattle.std.proofs.Common.{refl, sym, ap, subst, ◌∙◌, inl, inr, append_assoc, append-nil, true≢false}
use Rattle.std.proofs.lemmas.Grind.{flat_map-append}
use Rattle.std.proofs.lemmas.List.{map-append}
use Rattle.gb_core.specs.Place.{is_under}
use Rattle.gb_folder.specs.Files.{Bytes, DiffersOnlyAt, Files, Place, files_where, is_empty}
use Rattle.gb_semantics.specs.Every.{always}
use Rattle.gb_semantics.specs.Kinds.{Kinds}
use Rattle.gb_semantics.specs.Label.{IsOutcomeOf, Moment}
use Rattle.gb_semantics.specs.Memory.{Entry, World, entry_of, folder_contents, forget, output_files, recalled, remember}
use Rattle.gb_semantics.specs.Made.{with_outputs}
use Rattle.gb_semantics.specs.Tree.{input_faults, listing_faults, trees_of}
use Rattle.gb_semantics.specs.Execution.{IsOfMachine, Leaves, Prints, Rules, WorldState, StartedExecution, Execution, Executions, first_moment, memory_after, moment_after}
use Rattle.gb_semantics.proofs.Common.{none_some}
use Rattle.gb_semantics.proofs.Lemmas.Reading.{AllUnobserved, Unobserved, input_faults_same, trees_same}
use Rattle.gb_semantics.proofs.Lemmas.Sound.{unobserved_of}
use Rattle.gb_plan.specs.Graph.{IsSound, no_repeats, order, reads_output_of, some_overlap}
use Rattle.gb_plan.specs.Task.{Path, has_path, is_output_of, output_places}
use Rattle.gb_plan.specs.declared.plan.Planned.{Planned}
use Rattle.gb_plan.specs.declared.task.FileProperty.{FileProperty}
use Rattle.gb_plan.specs.declared.task.TaskDeclaration.{TaskDeclaration as Task}
use Rattle.gb_plan.proofs.Chains.{grouped}
use Rattle.gb_plan.proofs.Places.{separate_places, out_of}
use Rattle.gb_plan.proofs.Tests.{any_append, neither, no_longer, none_left, none_right, not_false, not_true, turned}
use Rattle.gb_report.specs.Outcome.{is_failed, is_started}
use Rattle.gb_report.specs.declared.fault.Fault.{Fault}
use Rattle.gb_report.specs.declared.report.Options.{Options}
use Rattle.gb_report.specs.declared.report.Outcome.{Outcome}
use Rattle.gb_report.specs.declared.report.Outcome.TheVariants as outcomes
use Rattle.gb_report.specs.declared.report.TaskReport.{TaskReport}
use Rattle.gb_run.proofs.Owned.{narrowed}
use Rattle.gb_task.proofs.Memories.{recalled-forget, recalled-remember}
use Rattle.gb_predict.specs.Marks.{AreMarkedAfter, changes_files, changes_for, mark, may_change, reads_files}
use Rattle.gb_predict.specs.Predicted.{AreKept, Fits, IsKept, IsPredicted, PredictionsAreKept}
use Rattle.gb_predict.specs.declared.predicted_outcome.PredictedOutcome.{PredictedOutcome}
use Rattle.gb_predict.specs.declared.predicted_outcome.PredictedOutcome.TheVariants as comings
use Rattle.gb_predict.specs.declared.predicted_outcome.Prediction.{Prediction}
use Rattle.gb_predict.proofs.Finding.{FindsSame, fits, no_actions, predicted_too, prints_nothing, prints_too, turned_round}

abbrev pub Pairs : Type 0
Pairs = List (Planned × Prediction)

-- ---- Places that an earlier task may change

-- the outputs of those that may change them
abbrev changed : Pairs → List Place
changed [] = []
changed (pair ∷ pairs) = cond (may_change pair.1) (output_places pair.0.task ++ changed pairs) (changed pairs)

-- the place is at or under none of them
abbrev is_left : Pairs → Place → Bool
is_left before q = not (list_any (is_under q) (changed before))

abbrev its_outputs : Planned × Prediction → List Place
its_outputs pair = cond (may_change pair.1) (output_places pair.0.task) []

changed_push : (before : Pairs) (pair : Planned × Prediction) → changed (before ++ pair ∷ []) ≡ changed before ++ its_outputs pair
changed_push [] pair = elim (may_change pair.1) as (λ b. cond b (output_places pair.0.task ++ []) [] ≡ cond b (output_places pair.0.task) []) [
  | true ↦ append-nil (output_places pair.0.task)
  | false ↦ refl
]
changed_push (p ∷ before) pair =
    elim (may_change p.1) as (λ b. cond b (output_places p.0.task ++ changed (before ++ pair ∷ [])) (changed (before ++ pair ∷ []))
    ≡ cond b (output_places p.0.task ++ changed before) (changed before) ++ its_outputs pair) [
      | true ↦ ap (λ (l : List Place). output_places p.0.task ++ l) (changed_push before pair) ∙ sym (append_assoc (output_places p.0.task) (changed before) (its_outputs pair))
      | false ↦ changed_push before pair
    ]

-- all outputs of earlier tasks
abbrev outputs_of : List Planned → List Place
outputs_of plan = flat_map (λ (planned : Planned). output_places planned.task) plan

abbrev tasks_in : Pairs → List Planned
tasks_in pairs = map (λ (pair : Planned × Prediction). pair.0) pairs

within : (q : Place) (before : Pairs) → list_any (is_under q) (changed before) ≡ true → list_any (is_under q) (outputs_of (tasks_in before)) ≡ true
within q [] e = e
within q (pair ∷ before) e =
    let following = within q before in
    any_append (is_under q) (output_places pair.0.task) (outputs_of (tasks_in before))
    ∙ elim (may_change pair.1) as (λ b. list_any (is_under q) (cond b (output_places pair.0.task ++ changed before) (changed before)) ≡ true
    → (list_any (is_under q) (output_places pair.0.task) || list_any (is_under q) (outputs_of (tasks_in before))) ≡ true) [
      | true ↦ λ h. either (list_any (is_under q) (output_places pair.0.task)) following (sym (any_append (is_under q) (output_places pair.0.task) (changed before)) ∙ h)
      | false ↦ λ h. or_later (list_any (is_under q) (output_places pair.0.task)) (following h)
    ] e
  where
    either : (b : Bool) → (list_any (is_under q) (changed before) ≡ true → list_any (is_under q) (outputs_of (tasks_in before)) ≡ true)
        → (b || list_any (is_under q) (changed before)) ≡ true → (b || list_any (is_under q) (outputs_of (tasks_in before))) ≡ true
    either true following h = refl
    either false following h = following h

    or_later : (b : Bool) → list_any (is_under q) (outputs_of (tasks_in before)) ≡ true → (b || list_any (is_under q) (outputs_of (tasks_in before))) ≡ true
    or_later true h = refl
    or_later false h = h

-- ---- What an unmarked task reads

both_all : {X : Type 0} (P Q R : X → Type 0) → ((x : X) → P x → Q x → R x) → (xs : List X) → AllByRecursion P xs → AllByRecursion Q xs → AllByRecursion R xs
both_all P Q R f [] p q = tt
both_all P Q R f (x ∷ xs) p q = (f x p.0 q.0, both_all P Q R f xs p.1 q.1)

each_one : {X : Type 0} (P : X → Type 0) → ((x : X) → P x) → (xs : List X) → AllByRecursion P xs
each_one P f [] = tt
each_one P f (x ∷ xs) = (f x, each_one P f xs)

unobserved_both : (task : Task) (first second third : Place → Bool) → ((q : Place) → first q ≡ true → second q ≡ true → third q ≡ true)
    → AllUnobserved first task → AllUnobserved second task → AllUnobserved third task
unobserved_both task first second third f a b =
    both_all (λ (p : FileProperty). AllByRecursion (Unobserved first) p.roots) (λ (p : FileProperty). AllByRecursion (Unobserved second) p.roots) (λ (p : FileProperty). AllByRecursion (Unobserved third) p.roots)
    (λ p x y. both_all (Unobserved first) (Unobserved second) (Unobserved third) (λ root u v q under. f q (u q under) (v q under)) p.roots x y) task.files a b

-- it reads no file that an earlier task may change
unobserved : (task : Task) (before : Pairs) → find (changes_for task) before ≡ None → AllUnobserved (is_left before) task
unobserved task [] e =
    each_one (λ (p : FileProperty). AllByRecursion (Unobserved (is_left [])) p.roots) (λ p. each_one (Unobserved (is_left [])) (λ root q under. refl) p.roots) task.files
unobserved task (pair ∷ before) e = by (changes_for task pair) refl (unobserved task before) e
  where
    more : (m : Bool) → (m && reads_output_of task pair.0.task) ≡ false → AllUnobserved (is_left before) task
        → AllUnobserved (λ q. not (list_any (is_under q) (cond m (output_places pair.0.task ++ changed before) (changed before)))) task
    more true none rest =
        unobserved_both task (λ q. not (list_any (is_under q) (output_places pair.0.task))) (is_left before) _
        (λ q a b. ap not (any_append (is_under q) (output_places pair.0.task) (changed before)
        ∙ neither (list_any (is_under q) (output_places pair.0.task)) (list_any (is_under q) (changed before)) (no_longer (list_any (is_under q) (output_places pair.0.task)) a) (no_longer (list_any (is_under q) (changed before)) b)))
        (unobserved_of task (λ q. not (list_any (is_under q) (output_places pair.0.task))) (output_places pair.0.task) (λ q h. ap not h) none) rest
    more false none rest = rest

    by : (b : Bool) → changes_for task pair ≡ b → (find (changes_for task) before ≡ None → AllUnobserved (is_left before) task)
        → cond b (Some pair) (find (changes_for task) before) ≡ None → AllUnobserved (is_left (pair ∷ before)) task
    by true f following h = none_some (sym h)
    by false f following h = more (may_change pair.1) f (following h)

-- ---- A world that earlier tasks have led to

module _ (now : World) where
  -- Files differ only where an earlier task may change them, and what is remembered only of earlier tasks.
  pub record Reached (before : Pairs) (world : World) : Type 0 where
    pub files : files_where (is_left before) world.folder.files ≡ files_where (is_left before) now.folder.files
    pub special : world.folder.special ≡ now.folder.special
    pub memory : (path : Path) → has_path (order (tasks_in before)) path ≡ false → recalled world.memory path ≡ recalled now.memory path

  module _ (before : Pairs) (world : World) (reached : Reached before world) (task : Task) where
    -- an unmarked task finds the same there
    pub finds_same : find (changes_for task) before ≡ None → ((q : Place) → is_output_of task q ≡ true → is_left before q ≡ true)
        → has_path (order (tasks_in before)) task.path ≡ false → FindsSame task world now
    finds_same none separate new =
        let test = is_left before in
        let away = unobserved task before none in
        let old = now.folder.files in
        let there = world.folder.files in
        record {
          trees = sym (trees_same test task there away) ∙ ap (trees_of task) reached.files ∙ trees_same test task old away;
          faults = sym (input_faults_same test task world.folder there away)
              ∙ ap (λ (fs : Files). input_faults task (record { files = fs; special = world.folder.special })) reached.files
              ∙ ap (λ (special : List (List ℕ)). input_faults task (record { files = files_where test old; special = special })) reached.special
              ∙ input_faults_same test task now.folder old away;
          listing = ap (λ (special : List (List ℕ)). listing_by special) reached.special;
          outputs = sym (narrowed (is_output_of task) test separate there) ∙ ap (files_where (is_output_of task)) reached.files ∙ narrowed (is_output_of task) test separate old;
          remembered = reached.memory task.path new;
        }
      where
        listing_by : List (List ℕ) → List Fault
        listing_by special = listing_faults task (record { files = now.folder.files; special = special })

  -- one task more
  module _ (before : Pairs) (pair : Planned × Prediction) where
    abbrev longer : Pairs
    longer = before ++ pair ∷ []

    none_longer : (q : Place) → is_left longer q ≡ true → (list_any (is_under q) (changed before) || list_any (is_under q) (its_outputs pair)) ≡ false
    none_longer q e =
        sym (any_append (is_under q) (changed before) (its_outputs pair)) ∙ ap (list_any (is_under q)) (sym (changed_push before pair)) ∙ no_longer (list_any (is_under q) (changed longer)) e

    left_before : (q : Place) → is_left longer q ≡ true → is_left before q ≡ true
    left_before q e = ap not (none_left (list_any (is_under q) (changed before)) (list_any (is_under q) (its_outputs pair)) (none_longer q e))

    left_of_own : may_change pair.1 ≡ true → (q : Place) → is_left longer q ≡ true → not (is_output_of pair.0.task q) ≡ true
    left_of_own may q e =
        ap not (out_of pair.0.task q ∙ ap (λ b. list_any (is_under q) (cond b (output_places pair.0.task) [])) (sym may)
        ∙ none_right (list_any (is_under q) (changed before)) (list_any (is_under q) (its_outputs pair)) (none_longer q e))

    abbrev Steps : Files → Files → Type 0
    Steps old new = ((may_change pair.1 ≡ true) × DiffersOnlyAt (is_output_of pair.0.task) old new) ⊎ (new ≡ old)

    files_on : (old new : Files) → Steps old new → files_where (is_left before) old ≡ files_where (is_left before) now.folder.files
        → files_where (is_left longer) new ≡ files_where (is_left longer) now.folder.files
    files_on old new steps so_far =
        here steps ∙ sym (narrowed (is_left longer) (is_left before) left_before old) ∙ ap (files_where (is_left longer)) so_far
        ∙ narrowed (is_left longer) (is_left before) left_before now.folder.files
      where
        own : Place → Bool
        own q = not (is_output_of pair.0.task q)

        here : Steps old new → files_where (is_left longer) new ≡ files_where (is_left longer) old
        here (inl differs) =
            sym (narrowed (is_left longer) own (left_of_own differs.0) new) ∙ ap (files_where (is_left longer)) differs.1
            ∙ narrowed (is_left longer) own (left_of_own differs.0) old
        here (inr same) = ap (files_where (is_left longer)) same

-- ---- What an execution leaves

module _ (kinds : Kinds) (options : Options) (task : Task) (old new : World) where
  module _ (path : Path) (other : bytes_eq path task.path ≡ false) where
    forgotten : recalled (forget old.memory task.path) path ≡ recalled old.memory path
    forgotten = recalled-forget old.memory task.path path ∙ ap (λ b. cond (not b) (recalled old.memory path) None) other

    remembered : (files : Files) → recalled (memory_after task old.memory files) path ≡ recalled old.memory path
    remembered files =
        elim (is_empty task.outputs) as (λ b. recalled (cond b (forget old.memory task.path) (remember old.memory task.path (entry_of task files))) path ≡ recalled old.memory path) [
          | true ↦ forgotten
          | false ↦
              recalled-remember old.memory task.path (entry_of task files) path
              ∙ ap (λ b. cond b (Some (entry_of task files)) (recalled old.memory path)) other
        ]

    abbrev at : World → Option Entry
    at world = recalled world.memory path

    -- of other tasks the same is remembered
    pub memory_kept : (outcome : Outcome) → is_failed outcome ≡ false → Leaves kinds options task old outcome new → at new ≡ at old
    memory_kept outcomes.Executed well (inl idle) = ap at idle.1
    memory_kept outcomes.Executed well (inr ended) = ap at ended.1.2 ∙ remembered (with_outputs task old.folder.files ended.1.0)
    memory_kept outcomes.UpToDate well same = ap at same
    memory_kept outcomes.Skipped well same = ap at same
    memory_kept outcomes.NoSource well emptied = ap at emptied ∙ forgotten
    memory_kept outcomes.NotRun well same = ap at same
    memory_kept (outcomes.Failed fault) well leaves = not_false well

  none_taken : (test : Place → Bool) (files : Files) → is_empty (files_where test files) ≡ true → files_where (λ q. not (test q)) files ≡ files
  none_taken test [] e = refl
  none_taken test (file ∷ files) e =
      elim (test file.0) as (λ b. is_empty (cond b (file ∷ files_where test files) (files_where test files)) ≡ true
      → cond (not b) (file ∷ files_where (λ q. not (test q)) files) (files_where (λ q. not (test q)) files) ≡ file ∷ files) [
        | true ↦ λ h. not_true h
        | false ↦ λ h. ap (λ (fs : Files). file ∷ fs) (none_taken test files h)
      ] e

  abbrev files_in : World → Files
  files_in world = world.folder.files

  abbrev LeavesBy : Outcome → Type 0
  LeavesBy outcome = Leaves kinds options task old outcome new

  idle_leaves : is_empty task.actions ≡ true → LeavesBy outcomes.Executed → new ≡ old
  idle_leaves none (inl idle) = idle.1
  idle_leaves none (inr ended) = not_true (sym ended.0 ∙ none)

  -- an execution that is predicted to change no file changes none
  pub unchanged : (coming : PredictedOutcome) → changes_files coming ≡ false → IsPredicted kinds options task old coming → (outcome : Outcome) → is_failed outcome ≡ false
      → Fits coming outcome → LeavesBy outcome → files_in new ≡ files_in old
  unchanged comings.Skips none is outcome well fits leaves = ap files_in (subst LeavesBy fits leaves)
  unchanged comings.HasNoActions none is outcome well (inl up) leaves = ap files_in (subst LeavesBy up leaves)
  unchanged comings.HasNoActions none is outcome well (inr executed) leaves =
      ap files_in (idle_leaves (no_actions task old.folder is) (subst LeavesBy executed leaves))
  unchanged (comings.HasNoSource removes) none is outcome well fits leaves =
      ap files_in (subst LeavesBy fits leaves) ∙ none_taken (is_output_of task) old.folder.files (was_empty (is_empty (output_files task old.folder.files)) (sym is.1 ∙ none))
    where
      was_empty : (b : Bool) → not b ≡ false → b ≡ true
      was_empty true e = refl
      was_empty false e = not_false e
  unchanged (comings.CannotRead fault) none is outcome well fits leaves = not_false (sym (ap is_failed fits) ∙ well)
  unchanged comings.UpToDate none is outcome well fits leaves = ap files_in (subst LeavesBy fits leaves)
  unchanged comings.HasGrown none is outcome well fits leaves = not_false none
  unchanged (comings.Runs by_changes reasons) none is outcome well fits leaves = not_false none

-- ---- Plans

-- what comes after others is none of them
not_before : (xs : List Path) (y : Path) (ys : List Path) → no_repeats (xs ++ y ∷ ys) ≡ true → has_path xs y ≡ false
not_before [] y ys e = refl
not_before (x ∷ xs) y ys e =
    neither (bytes_eq y x) (has_path xs y)
    (turned y x ∙ none_left (bytes_eq x y) (has_path ys x)
    (none_right (has_path xs x) (has_path (y ∷ ys) x) (sym (any_append (bytes_eq x) xs (y ∷ ys)) ∙ no_longer (has_path (xs ++ y ∷ ys) x) (first (not (has_path (xs ++ y ∷ ys) x)) e))))
    (not_before xs y ys (second (not (has_path (xs ++ y ∷ ys) x)) e))
  where
    first : (b : Bool) → (b && no_repeats (xs ++ y ∷ ys)) ≡ true → b ≡ true
    first true h = refl
    first false h = not_true h

    second : (b : Bool) → (b && no_repeats (xs ++ y ∷ ys)) ≡ true → no_repeats (xs ++ y ∷ ys) ≡ true
    second true h = h
    second false h = not_true h

module _ (rules : Rules) (once : no_repeats (order rules.plan) ≡ true) (sound : IsSound rules.plan) (now : World) where
  abbrev Predicted : Planned → Prediction → Type 0
  Predicted planned one = IsPredicted rules.kinds rules.options planned.task now one.coming

  module _ (before : Pairs) (planned : Planned) (rest : List Planned) (whole : rules.plan ≡ tasks_in before ++ planned ∷ rest) where
    new_path : has_path (order (tasks_in before)) planned.task.path ≡ false
    new_path =
        not_before (order (tasks_in before)) planned.task.path (order rest)
        (ap no_repeats (sym (map-append (λ (p : Planned). p.task.path) (tasks_in before) (planned ∷ rest)) ∙ ap order (sym whole)) ∙ once)

    own_separate : (q : Place) → is_output_of planned.task q ≡ true → is_left before q ≡ true
    own_separate q own = ap not (by (list_any (is_under q) (changed before)) refl)
      where
        separate : some_overlap (outputs_of (tasks_in before) ++ outputs_of (planned ∷ rest)) ≡ false
        separate = ap some_overlap (sym (flat_map-append (λ (p : Planned). output_places p.task) (tasks_in before) (planned ∷ rest)) ∙ ap outputs_of (sym whole)) ∙ sound.outputs_separate

        by : (b : Bool) → list_any (is_under q) (changed before) ≡ b → b ≡ false
        by false e = refl
        by true e =
            not_false (sym (sym (out_of planned.task q) ∙ own)
            ∙ none_left (list_any (is_under q) (output_places planned.task)) (list_any (is_under q) (outputs_of rest))
            (sym (any_append (is_under q) (output_places planned.task) (outputs_of rest)) ∙ separate_places q (outputs_of (tasks_in before)) (outputs_of (planned ∷ rest)) separate (within q before e)))

    module _ (moment : Moment) (reached : Reached now before moment.world) (one : Prediction) (predicted : Predicted planned one)
        (marked : one.after ≡ mark before planned.task one.coming) where
      none_found : (o : Option (Planned × Prediction)) → option_map (λ (pair : Planned × Prediction). pair.0.task.path) o ≡ None → o ≡ None
      none_found None e = refl
      none_found (Some pair) e = none_some (sym e)

      -- a task without a mark whose prediction depends on files finds the same
      same_there : one.after ≡ None → reads_files one.coming ≡ true → FindsSame planned.task moment.world now
      same_there unmarked reads =
          finds_same now before moment.world reached planned.task
          (none_found (find (changes_for planned.task) before)
          (ap (λ b. cond b (option_map (λ (pair : Planned × Prediction). pair.0.task.path) (find (changes_for planned.task) before)) None) (sym reads) ∙ sym marked ∙ unmarked))
          own_separate new_path

      predicted_there : one.after ≡ None → IsPredicted rules.kinds rules.options planned.task moment.world one.coming
      predicted_there unmarked =
          predicted_too rules.kinds rules.options planned.task now moment.world one.coming
          (λ reads. turned_round planned.task moment.world now (same_there unmarked reads)) predicted

      module _ (report : TaskReport) (next : WorldState) (started : StartedExecution rules moment planned.task report next) where
        fits_there : one.after ≡ None → IsOutcomeOf rules.kinds rules.options rules.plan planned.task moment report.outcome → Fits one.coming report.outcome
        fits_there unmarked label =
            fits rules.kinds rules.options rules.plan planned.task moment report.outcome one.coming (predicted_there unmarked) label

        not_failed : IsOfMachine rules moment planned.task report.outcome next → {A : Type 0} → is_failed report.outcome ≡ false → A
        not_failed machine {A} well = not_false (sym (ap is_failed machine.2) ∙ well)

        executed_lines : one.after ≡ None → report.outcome ≡ outcomes.Executed → Prints rules.kinds rules.options planned.task now outcomes.Executed report.lines
        executed_lines unmarked executed = by_coming one.coming refl
          where
            prints : Prints rules.kinds rules.options planned.task moment.world outcomes.Executed report.lines
            prints = subst (λ (o : Outcome). Prints rules.kinds rules.options planned.task moment.world o report.lines) executed started.prints

            by_files : reads_files one.coming ≡ true → Prints rules.kinds rules.options planned.task now outcomes.Executed report.lines
            by_files reads = prints_too rules.kinds rules.options planned.task moment.world now (same_there unmarked reads) report.lines prints

            skips : one.coming ≡ comings.Skips → ⊥
            skips is = elim started.label [
              | inl label ↦ other (subst (λ (c : PredictedOutcome). Fits c report.outcome) is (fits_there unmarked label))
              | inr machine ↦ not_failed machine (ap is_failed executed)
            ]
              where
                other : report.outcome ≡ outcomes.Skipped → ⊥
                other skipped = true≢false (sym (ap is_executed_one executed) ∙ ap is_executed_one skipped)
                  where
                    is_executed_one : Outcome → Bool
                    is_executed_one outcomes.Executed = true
                    is_executed_one o = false

            idle : one.coming ≡ comings.HasNoActions → Prints rules.kinds rules.options planned.task now outcomes.Executed report.lines
            idle is =
                prints_nothing rules.kinds rules.options planned.task moment.world now
                (no_actions planned.task moment.world.folder
                (subst (λ (c : PredictedOutcome). IsPredicted rules.kinds rules.options planned.task moment.world c) is (predicted_there unmarked))) report.lines prints

            by_coming : (coming : PredictedOutcome) → one.coming ≡ coming → Prints rules.kinds rules.options planned.task now outcomes.Executed report.lines
            by_coming comings.Skips is = absurd (skips is)
            by_coming comings.HasNoActions is = idle is
            by_coming (comings.HasNoSource removes) is = by_files (ap reads_files is)
            by_coming (comings.CannotRead fault) is = by_files (ap reads_files is)
            by_coming comings.UpToDate is = by_files (ap reads_files is)
            by_coming comings.HasGrown is = by_files (ap reads_files is)
            by_coming (comings.Runs by_changes reasons) is = by_files (ap reads_files is)

        kept_there : one.after ≡ None → IsKept rules now planned.task one.coming report
        kept_there unmarked = record {
          ends = elim started.label [ inl label ↦ inl (fits_there unmarked label) | inr machine ↦ inr (moment, next, machine) ];
          prints = executed_lines unmarked;
        }

        unchanged_there : may_change one ≡ false → is_failed report.outcome ≡ false → next.world.folder.files ≡ moment.world.folder.files
        unchanged_there none well =
            unchanged rules.kinds rules.options planned.task moment.world next.world one.coming
            (none_left (changes_files one.coming) (is_some one.after) none) (predicted_there unmarked) report.outcome well ends started.leaves
          where
            no_mark : (o : Option Path) → is_some o ≡ false → o ≡ None
            no_mark None e = refl
            no_mark (Some path) e = not_false e

            unmarked : one.after ≡ None
            unmarked = no_mark one.after (none_right (changes_files one.coming) (is_some one.after) none)

            ends : Fits one.coming report.outcome
            ends = elim started.label [ inl label ↦ fits_there unmarked label | inr machine ↦ not_failed machine well ]

      -- the world after it
      module _ (report : TaskReport) (next : WorldState) (execution : Execution rules moment planned report next) (well : is_failed report.outcome ≡ false)
          (differs : DiffersOnlyAt (is_output_of planned.task) moment.world.folder.files next.world.folder.files) (special : next.world.folder.special ≡ moment.world.folder.special) where
        abbrev pair : Planned × Prediction
        pair = (planned, one)

        steps : (m : Bool) → may_change one ≡ m → Steps now before pair moment.world.folder.files next.world.folder.files
        steps true may = inl (may, differs)
        steps false none = elim execution.2 [
          | inl started ↦ inr (unchanged_there report next started.1 none well)
          | inr passed ↦ inr (ap (λ (w : World). w.folder.files) passed.1.unchanged)
        ]

        memory_after_it : (path : Path) → bytes_eq path planned.task.path ≡ false → recalled next.world.memory path ≡ recalled moment.world.memory path
        memory_after_it path other = elim execution.2 [
          | inl started ↦ memory_kept rules.kinds rules.options planned.task moment.world next.world path other report.outcome well started.1.leaves
          | inr passed ↦ ap (λ (w : World). recalled w.memory path) passed.1.unchanged
        ]

        pub reached_next : Reached now (before ++ pair ∷ []) next.world
        reached_next = record {
          files = files_on now before pair moment.world.folder.files next.world.folder.files (steps (may_change one) refl) reached.files;
          special = special ∙ reached.special;
          memory = λ path new.
              let parts = sym (any_append (bytes_eq path) (order (tasks_in before)) (planned.task.path ∷ [])) ∙ ap (λ ps. has_path ps path) (sym both) ∙ new in
              memory_after_it path (none_left (bytes_eq path planned.task.path) false (none_right (has_path (order (tasks_in before)) path) (has_path (planned.task.path ∷ []) path) parts))
              ∙ reached.memory path (none_left (has_path (order (tasks_in before)) path) (has_path (planned.task.path ∷ []) path) parts);
        }
          where
            both : order (tasks_in (before ++ pair ∷ [])) ≡ order (tasks_in before) ++ planned.task.path ∷ []
            both =
                ap order (map-append (λ (p : Planned × Prediction). p.0) before (pair ∷ []))
                ∙ map-append (λ (p : Planned). p.task.path) (tasks_in before) (planned ∷ [])

  -- the tasks from some on
  all_kept : (before : Pairs) (rest : List Planned) (reported : List Prediction) (moment : Moment) (reports : List TaskReport) (observed : List Bytes) (new : WorldState)
      → rules.plan ≡ tasks_in before ++ rest → Reached now before moment.world → AllZip Predicted rest reported → AreMarkedAfter before (zip rest reported)
      → Executions rules always observed rest moment reports new → AreKept rules now rest reported reports
  all_kept before [] reported moment reports observed new whole reached predicted marked executions = tt
  all_kept before (planned ∷ rest) [] moment reports observed new whole reached predicted marked executions = tt
  all_kept before (planned ∷ rest) (one ∷ reported) moment [] observed new whole reached predicted marked executions = tt
  all_kept before (planned ∷ rest) (one ∷ reported) moment (report ∷ reports) observed new whole reached predicted marked executions =
      let guarded = executions.1 in
      let execution = guarded.execution tt in (
        λ unmarked starts. elim execution.2 [
          | inl started ↦ kept_there before planned rest whole moment reached one predicted.0 marked.0 report executions.0 started.1 unmarked
          | inr passed ↦ not_true (sym (ap is_started passed.1.outcome) ∙ starts)
        ],
        λ well.
            all_kept (before ++ (planned, one) ∷ []) rest reported (moment_after moment report executions.0) reports (observed ++ folder_contents moment.world) new
            (whole ∙ grouped (tasks_in before) planned rest ∙ ap (λ (ps : List Planned). ps ++ rest) (sym (map-append (λ (p : Planned × Prediction). p.0) before ((planned, one) ∷ []))))
            (reached_next before planned rest whole moment reached one predicted.0 marked.0 report executions.0 execution well guarded.files guarded.special)
            predicted.1 marked.2 executions.2,
      )

pub predictions_are_kept : (rules : Rules) → PredictionsAreKept rules
predictions_are_kept rules observed old new reported reports once sound predicted marked executions =
    all_kept rules once sound old.world [] rules.plan reported (first_moment old) reports observed new refl
    (record { files = refl; special = refl; memory = λ path new. refl }) predicted marked executions
