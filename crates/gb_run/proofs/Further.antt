-- An incremental execution proceeds by an action, or fails at it.
use Rattle.std.specs.Prelude.{ℕ, ◌≡◌, ◌≤◌, ◌⊎◌, ◌++◌, ◌||◌, Bool, true, false, cond, List, [], ◌∷◌, Ok, Err}
use Rattle.std.specs.List.{AllByRecursion, list_any}
use Rattle.std.proofs.Common.{refl, sym, ap, subst, ◌∙◌, arith}
use Rattle.gb_folder.specs.Files.{Files, SameTearing, Tearing}
use Rattle.gb_report.specs.declared.fault.Fault.{Fault}
use Rattle.gb_report.specs.declared.fault.Fault.TheVariants as faults
use Rattle.gb_action.specs.Changes.{Changes}
use Rattle.gb_action.specs.Files.{Trees}
use Rattle.gb_action.specs.declared.output_files.OutputFiles.{OutputFiles}
use Rattle.gb_plan.specs.Task.{Text}
use Rattle.gb_plan.specs.declared.task.Action.{Action}
use Rattle.gb_plan.specs.declared.task.TaskDeclaration.{TaskDeclaration as Task}
use Rattle.gb_plan.proofs.Tests.{all_at, filter_append}
use Rattle.gb_semantics.specs.Kinds.{Kinds, kind_of}
use Rattle.gb_semantics.specs.Made.{rest_of}
use Rattle.gb_run.specs.Asking.{made_by, printed_by}
use Rattle.gb_run.specs.RunInput.{EndsWell, run_input}
use Rattle.gb_run.specs.AskingChanges.{GoesOn, IsFitting, writers}
use Rattle.gb_run.specs.Failing.{ByChanges, Fails}
use Rattle.gb_run.specs.Execution.{Ends, IsItsExecution, Stops}
use Rattle.gb_run.proofs.Going.{IsGoing, begins, ends_well, fails_reading, fails_writing, reads_on, exists_old, writes_on}
use Rattle.gb_run.proofs.Writer.{heads, writer_of}

le_chain : (a b c : ℕ) → a ≤ b → b ≤ c → a ≤ c
le_chain a b c le more = omega (arith, le, more)

-- one action writes, so some action does
pub some_writes : (kinds : Kinds) (actions : List Action) (w : Action) (ws : List Action) → writers kinds actions ≡ w ∷ ws → list_any (λ (a : Action). kinds.writes (kind_of a)) actions ≡ true
some_writes kinds [] w ws e = absurd (let q = e in (cc))
some_writes kinds (a ∷ actions) w ws e = by (λ q. some_writes kinds actions w ws q) (kinds.writes (kind_of a)) e
  where
    by : (writers kinds actions ≡ w ∷ ws → list_any (λ (x : Action). kinds.writes (kind_of x)) actions ≡ true) → (b : Bool) → cond b (a ∷ writers kinds actions) (writers kinds actions) ≡ w ∷ ws
        → (b || list_any (λ (x : Action). kinds.writes (kind_of x)) actions) ≡ true
    by again true q = refl
    by again false q = again q

-- an action that writes is the one
pub the_one : (kinds : Kinds) (done left : List Action) (action w : Action) → kinds.writes (kind_of action) ≡ true → writers kinds (done ++ action ∷ left) ≡ w ∷ [] → action ≡ w
the_one kinds done left action w writes e = by (writers kinds done) (sym here ∙ e)
  where
    here : writers kinds (done ++ action ∷ left) ≡ writers kinds done ++ action ∷ writers kinds left
    here =
        filter_append (λ (a : Action). kinds.writes (kind_of a)) done (action ∷ left)
        ∙ ap (λ b. writers kinds done ++ cond b (action ∷ writers kinds left) (writers kinds left)) writes

    never : (xs : List Action) (x y : Action) (ys : List Action) → x ∷ (xs ++ y ∷ ys) ≡ w ∷ [] → ⊥
    never [] x y ys q = let p = q in (cc)
    never (z ∷ xs) x y ys q = let p = q in (cc)

    by : (before : List Action) → before ++ action ∷ writers kinds left ≡ w ∷ [] → action ≡ w
    by [] q = heads action w (writers kinds left) [] q
    by (x ∷ xs) q = absurd (never xs x action (writers kinds left) q)

module _ (kinds : Kinds) (task : Task) (trees : Trees) (changes : List Changes) (old : Files) where
  pub begins_so : (left : List Action) (folder : Files) (lines : List Text) → left ≡ task.actions → folder ≡ old → lines ≡ [] → IsGoing kinds task trees changes old left folder lines
  begins_so left folder lines a b c =
      subst (λ (xs : List Action). IsGoing kinds task trees changes old xs folder lines) (sym a)
      (subst (λ (fs : Files). IsGoing kinds task trees changes old task.actions fs lines) (sym b)
      (subst (λ (ls : List Text). IsGoing kinds task trees changes old task.actions old ls) (sym c) (begins kinds task trees changes old)))

  module _ (observed : List OutputFiles) (before : Trees) (goes_on : GoesOn kinds task before trees changes observed old) (fitting : AllByRecursion (IsFitting kinds task) task.actions) where
    one : (w : Action) × (writers kinds task.actions ≡ w ∷ [])
    one = writer_of kinds task.actions goes_on.one_writer

    pub ends_so : (folder : Files) (lines : List Text) (left : List Action) → left ≡ [] → IsGoing kinds task trees changes old left folder lines → EndsWell (run_input kinds task trees changes (rest_of task old)) lines folder
    ends_so folder lines left none going =
        ends_well kinds task trees changes old folder lines (subst (λ (xs : List Action). IsGoing kinds task trees changes old xs folder lines) none going)
        (some_writes kinds task.actions one.0 [] one.1)

    module _ (action : Action) (left : List Action) (folder : Files) (lines : List Text) (going : IsGoing kinds task trees changes old (action ∷ left) folder lines) where
      fits : IsFitting kinds task action
      fits = (all_at (IsFitting kinds task) going.done action left (subst (λ (xs : List Action). AllByRecursion (IsFitting kinds task) xs) going.all fitting)).0

      is_one : kinds.writes (kind_of action) ≡ true → writers kinds task.actions ≡ action ∷ []
      is_one writes = one.1 ∙ ap (λ (a : Action). a ∷ []) (sym (the_one kinds going.done left action one.0 writes (ap (writers kinds) (sym going.all) ∙ one.1)))

      turn : kinds.writes (kind_of action) ≡ true → IsItsExecution kinds task action trees changes observed folder
      turn writes = subst (λ (fs : Files). IsItsExecution kinds task action trees changes observed fs) (sym (exists_old kinds task trees changes old folder lines action left going writes (is_one writes)))
          (record { fitting = fitting; old = before; goes_on = goes_on; writes = is_one writes })

      -- the next action ends
      pub goes_further : (new : Files) (lines_now : List Text)
          → (IsFitting kinds task action → kinds.writes (kind_of action) ≡ false → (made_by kinds task action trees ≡ Ok []) × (new ≡ folder))
          → (IsItsExecution kinds task action trees changes observed folder → Ends kinds task action trees folder new)
          → lines_now ≡ lines ++ printed_by kinds task action trees changes → IsGoing kinds task trees changes old left new lines_now
      goes_further new lines_now read wrote prints = by (kinds.writes (kind_of action)) refl
        where
          by : (b : Bool) → kinds.writes (kind_of action) ≡ b → IsGoing kinds task trees changes old left new lines_now
          by true writes =
              writes_on kinds task trees changes old folder lines action left going writes (is_one writes) new lines_now
              (subst (λ (fs : Files). Ends kinds task action trees fs new) (exists_old kinds task trees changes old folder lines action left going writes (is_one writes)) (wrote (turn writes))) prints
          by false quiet =
              let did = read fits quiet in
              subst (λ (fs : Files). IsGoing kinds task trees changes old left fs lines_now) (sym did.1)
              (reads_on kinds task trees changes old folder lines action left going lines_now quiet did.0 prints)

      -- it stops
      pub fails_further : (first second : Tearing) (count between after : ℕ) (fault : Fault) (new : Files) (lines_now : List Text) → SameTearing first second → count ≤ between → between ≤ after
          → (kinds.writes (kind_of action) ≡ false → ((fault ≡ faults.OutOfMemory) ⊎ ((text : Text) × (fault ≡ faults.ActionFailed text) × (made_by kinds task action trees ≡ Err text))) × (new ≡ folder))
          → (IsItsExecution kinds task action trees changes observed folder → Stops kinds task action trees folder second between fault after new)
          → lines_now ≡ lines → Fails (run_input kinds task trees changes (rest_of task old)) (ByChanges old) first count fault lines_now after new
      fails_further first second count between after fault new lines_now same le more unread unwritten prints = by (kinds.writes (kind_of action)) refl
        where
          by : (b : Bool) → kinds.writes (kind_of action) ≡ b → Fails (run_input kinds task trees changes (rest_of task old)) (ByChanges old) first count fault lines_now after new
          by true writes =
              fails_writing kinds task trees changes old folder lines action left going writes (is_one writes) first second count between after fault new lines_now same le more
              (subst (λ (fs : Files). Stops kinds task action trees fs second between fault after new) (exists_old kinds task trees changes old folder lines action left going writes (is_one writes)) (unwritten (turn writes))) prints
          by false quiet =
              let did = unread quiet in
              subst (λ (fs : Files). Fails (run_input kinds task trees changes (rest_of task old)) (ByChanges old) first count fault lines_now after fs) (sym did.1)
              (fails_reading kinds task trees changes old folder lines action left going first count after fault lines_now did.0 (le_chain count between after le more) prints)
