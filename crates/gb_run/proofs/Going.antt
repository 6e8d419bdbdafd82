-- An incremental execution in progress: what holds between its actions, and what follows at its end.
use Rattle.std.specs.Prelude.{ℕ, ◌≡◌, ◌≤◌, ◌⊎◌, ◌++◌, ◌||◌, Bool, true, false, cond, if◌then◌else◌, List, [], ◌∷◌, None, Ok, Err, map}
use Rattle.std.specs.List.{list_any}
use Rattle.std.proofs.Common.{refl, sym, ap, subst, ◌∙◌, inl, inr, append_assoc, arith}
use mathlib.Core.Bool.{true≢false}
use Rattle.gb_folder.specs.Files.{Files, SameTearing, Tearing}
use Rattle.gb_report.specs.declared.fault.Fault.{Fault}
use Rattle.gb_report.specs.declared.fault.Fault.TheVariants as faults
use Rattle.gb_action.specs.Changes.{Changes}
use Rattle.gb_action.specs.Files.{Trees}
use Rattle.gb_plan.specs.Task.{Text}
use Rattle.gb_plan.specs.declared.task.Action.{Action}
use Rattle.gb_plan.specs.declared.task.Output.{Output}
use Rattle.gb_plan.specs.declared.task.TaskDeclaration.{TaskDeclaration as Task}
use Rattle.gb_plan.proofs.Tests.{any_append, filter_append}
use Rattle.gb_semantics.specs.Kinds.{Kinds, kind_of}
use Rattle.gb_semantics.specs.Made.{full_outputs, put_over, rest_of}
use Rattle.gb_semantics.specs.Run.{step_by, unless_hindered}
use Rattle.gb_run.specs.Asking.{made_by, printed_by}
use Rattle.gb_run.specs.RunInput.{RunInput, EndsWell, run_input, files_at_hand, free_files, lines_by, run_along}
use Rattle.gb_run.proofs.Endings.{more_fault, more_held, with_none}
use Rattle.gb_run.proofs.RunStates.{fails_at, fails_between}
use Rattle.gb_run.proofs.Room.{or_none}
use Rattle.gb_run.specs.AskingChanges.{writers}
use Rattle.gb_run.specs.Failing.{AreAtHand, ByChanges, Fails, ended_files}
use Rattle.gb_run.specs.Stepping.{FailsByMachine}
use Rattle.gb_run.specs.Steps.{LeadTo, after_steps}
use Rattle.gb_run.specs.Execution.{AreOfExecution, Ends, Stops}

abbrev pub run_input_in : Kinds → Task → Trees → List Changes → Files → RunInput
run_input_in kinds task trees changes old = run_input kinds task trees changes (rest_of task old)

pub none_full : (outputs : List Output) → full_outputs outputs [] ≡ []
none_full [] = refl
none_full (output ∷ outputs) = none_full outputs

module _ (kinds : Kinds) (task : Task) (trees : Trees) (changes : List Changes) (old : Files) where
  abbrev input : RunInput
  input = run_input kinds task trees changes (rest_of task old)

  abbrev any_writes : List Action → Bool
  any_writes actions = list_any (λ action. kinds.writes (kind_of action)) actions

  -- Some first actions have ended; these are left.
  pub record IsGoing (left : List Action) (folder : Files) (lines : List Text) : Type 0 where
    pub done : List Action
    pub all : task.actions ≡ done ++ left
    pub no_fault : (run_along input done).fault ≡ None
    pub exists : folder ≡ ended_files input (ByChanges old) done
    pub few : full_outputs task.outputs (run_along input done).held ≡ []
    pub none_held : any_writes done ≡ false → (run_along input done).held ≡ []
    pub printed : lines ≡ lines_by input done

  pub begins : IsGoing task.actions old []
  begins = record { done = []; all = refl; no_fault = refl; exists = refl; few = none_full task.outputs; none_held = λ _. refl; printed = refl }

  -- memory ran out before it began
  pub fails_early : (may_leave : Tearing) (before : ℕ) (fault : Fault) (after : ℕ) → fault ≡ faults.OutOfMemory → Fails input (ByChanges old) may_leave before fault [] after old
  fails_early may_leave before fault after is =
      fails_between (run_input kinds task trees changes (rest_of task old)) (ByChanges old) [] task.actions refl refl may_leave before after fault [] old is refl refl

  lines_more : (done : List Action) (action : Action) → lines_by input (done ++ action ∷ []) ≡ lines_by input done ++ printed_by kinds task action trees changes
  lines_more [] action = with_none (printed_by kinds task action trees changes)
  lines_more (first ∷ done) action =
      ap (λ ls. printed_by kinds task first trees changes ++ ls) (lines_more done action)
      ∙ sym (append_assoc (printed_by kinds task first trees changes) (lines_by (run_input kinds task trees changes (rest_of task old)) done) (printed_by kinds task action trees changes))

  -- if one action writes, none before it does
  pub two_writers : (xs : List Action) (a b : Action) (ys : List Action) → any_writes xs ≡ true → writers kinds xs ++ a ∷ ys ≡ b ∷ [] → ⊥
  two_writers [] a b ys e is = true≢false (sym e)
  two_writers (x ∷ xs) a b ys e is = by (λ w q. two_writers xs a b ys w q) (kinds.writes (kind_of x)) e is
    where
      never : (zs : List Action) (z c : Action) (ws : List Action) → z ∷ (zs ++ c ∷ ws) ≡ b ∷ [] → ⊥
      never [] z c ws q = let p = q in (cc)
      never (y ∷ zs) z c ws q = let p = q in (cc)

      by : (any_writes xs ≡ true → writers kinds xs ++ a ∷ ys ≡ b ∷ [] → ⊥) → (t : Bool) → (t || any_writes xs) ≡ true → cond t (x ∷ writers kinds xs) (writers kinds xs) ++ a ∷ ys ≡ b ∷ [] → ⊥
      by again true q p = never (writers kinds xs) x a ys p
      by again false q p = again q p

  module _ (folder : Files) (lines : List Text) where
    pub ends_well : IsGoing [] folder lines → any_writes task.actions ≡ true → EndsWell input lines folder
    ends_well going some =
        let same : task.actions ≡ going.done = going.all ∙ with_none going.done in
        record {
          no_fault = ap (λ (actions : List Action). (run_along input actions).fault) same ∙ going.no_fault;
          files = going.exists ∙ ap (λ b. if b then put_over input.rest (run_along input going.done).held else old) (ap any_writes (sym same) ∙ some)
              ∙ ap (λ (actions : List Action). put_over input.rest (run_along input actions).held) (sym same);
          printed = going.printed ∙ ap (lines_by input) (sym same);
        }

    module _ (action : Action) (left : List Action) (going : IsGoing (action ∷ left) folder lines) where
      all_more : task.actions ≡ (going.done ++ action ∷ []) ++ left
      all_more = going.all ∙ sym (append_assoc going.done (action ∷ []) left)

      any_more : any_writes (going.done ++ action ∷ []) ≡ (any_writes going.done || kinds.writes (kind_of action))
      any_more = any_append (λ (a : Action). kinds.writes (kind_of a)) going.done (action ∷ []) ∙ ap (λ b. any_writes going.done || b) (or_none (kinds.writes (kind_of action)))

      -- an action that makes nothing leaves what is held
      quiet_step : made_by kinds task action trees ≡ Ok [] → step_by task.outputs (rest_of task old) (run_along input going.done).held (made_by kinds task action trees) ≡ Ok (run_along input going.done).held
      quiet_step is =
          ap (step_by task.outputs (rest_of task old) (run_along input going.done).held) is
          ∙ ap (λ (os : List Output). unless_hindered ((map (λ (output : Output). faults.TooManyFiles output.name) os) ++ []) (run_along input going.done).held) going.few

      -- the next action ends, and writes nothing
      pub reads_on : (lines_now : List Text) → kinds.writes (kind_of action) ≡ false → made_by kinds task action trees ≡ Ok [] → lines_now ≡ lines ++ printed_by kinds task action trees changes → IsGoing left folder lines_now
      reads_on lines_now quiet is prints = record {
        done = going.done ++ action ∷ [];
        all = all_more;
        no_fault = more_fault kinds task.outputs task.values trees (rest_of task old) going.done [] (run_along input going.done).held action going.no_fault (quiet_step is);
        exists = going.exists ∙ ap (λ b. if b then put_over (rest_of task old) (run_along input going.done).held else old) (sym same_writes)
            ∙ ap (λ (held : Files). if any_writes (going.done ++ action ∷ []) then put_over (rest_of task old) held else old) (sym held_same);
        few = ap (full_outputs task.outputs) held_same ∙ going.few;
        none_held = λ none. held_same ∙ going.none_held (sym same_writes ∙ none);
        printed = prints ∙ ap (λ (ls : List Text). ls ++ printed_by kinds task action trees changes) going.printed ∙ sym (lines_more going.done action);
      }
        where
          held_same : (run_along (run_input kinds task trees changes (rest_of task old)) (going.done ++ action ∷ [])).held ≡ (run_along (run_input kinds task trees changes (rest_of task old)) going.done).held
          held_same = more_held kinds task.outputs task.values trees (rest_of task old) going.done [] (run_along (run_input kinds task trees changes (rest_of task old)) going.done).held action going.no_fault (quiet_step is)

          same_writes : any_writes (going.done ++ action ∷ []) ≡ any_writes going.done
          same_writes = any_more ∙ ap (λ b. any_writes going.done || b) quiet ∙ or_none (any_writes going.done)

      -- it stops before it did anything
      pub fails_reading : (may_leave : Tearing) (before after : ℕ) (fault : Fault) (lines_now : List Text)
          → (fault ≡ faults.OutOfMemory) ⊎ ((text : Text) × (fault ≡ faults.ActionFailed text) × (made_by kinds task action trees ≡ Err text)) → before ≤ after → lines_now ≡ lines
          → Fails input (ByChanges old) may_leave before fault lines_now after folder
      fails_reading may_leave before after fault lines_now why le prints =
          fails_at (run_input kinds task trees changes (rest_of task old)) (ByChanges old) going.done left action going.all going.no_fault may_leave may_leave before before after fault lines_now folder
          same_tearing (refl_le before) le (prints ∙ going.printed) (record { prefix = []; following = []; at_hand = inl refl; why = by why })
        where
          same_tearing : SameTearing may_leave may_leave
          same_tearing place was next left = ((λ may. may), (λ may. may))

          refl_le : (n : ℕ) → n ≤ n
          refl_le n = omega arith

          by : (fault ≡ faults.OutOfMemory) ⊎ ((text : Text) × (fault ≡ faults.ActionFailed text) × (made_by kinds task action trees ≡ Err text))
              → ((step_by task.outputs (rest_of task old) (run_along (run_input kinds task trees changes (rest_of task old)) going.done).held (made_by kinds task action trees) ≡ Err fault)
              × (folder ≡ ended_files (run_input kinds task trees changes (rest_of task old)) (ByChanges old) going.done))
              ⊎ FailsByMachine may_leave before (ended_files (run_input kinds task trees changes (rest_of task old)) (ByChanges old) going.done) [] fault after folder
          by (inl memory) = inr (inl (memory, going.exists))
          by (inr failed) = inl (
            ap (step_by task.outputs (rest_of task old) (run_along (run_input kinds task trees changes (rest_of task old)) going.done).held) failed.2 ∙ ap Err (sym failed.1),
            going.exists,
          )

      -- ---- the action is the one that writes

      module _ (writes : kinds.writes (kind_of action) ≡ true) (one : writers kinds task.actions ≡ action ∷ []) where
        none_before : any_writes going.done ≡ false
        none_before = by (any_writes going.done) refl
          where
            here : writers kinds (going.done ++ action ∷ left) ≡ writers kinds going.done ++ action ∷ writers kinds left
            here =
                filter_append (λ (a : Action). kinds.writes (kind_of a)) going.done (action ∷ left)
                ∙ ap (λ b. writers kinds going.done ++ cond b (action ∷ writers kinds left) (writers kinds left)) writes

            by : (b : Bool) → any_writes going.done ≡ b → b ≡ false
            by true e = absurd (two_writers going.done action action (writers kinds left) e (sym here ∙ ap (writers kinds) (sym going.all) ∙ one))
            by false e = refl

        held_none : (run_along input going.done).held ≡ []
        held_none = going.none_held none_before

        -- what is there is what was there before
        pub exists_old : folder ≡ old
        exists_old = going.exists ∙ ap (λ b. if b then put_over (rest_of task old) (run_along input going.done).held else old) none_before

        pub writes_on : (new : Files) (lines_now : List Text) → Ends kinds task action trees old new → lines_now ≡ lines ++ printed_by kinds task action trees changes → IsGoing left new lines_now
        writes_on new lines_now ended prints = record {
          done = going.done ++ action ∷ [];
          all = all_more;
          no_fault = more_fault kinds task.outputs task.values trees (rest_of task old) going.done [] ended.more action going.no_fault step;
          exists = ended.files ∙ ap (put_over (rest_of task old)) (sym held_now)
              ∙ ap (λ b. if b then put_over (rest_of task old) (run_along (run_input kinds task trees changes (rest_of task old)) (going.done ++ action ∷ [])).held else old) (sym now_writes);
          few = ap (full_outputs task.outputs) held_now ∙ ended.few;
          none_held = λ none. absurd (true≢false (sym now_writes ∙ none));
          printed = prints ∙ ap (λ (ls : List Text). ls ++ printed_by kinds task action trees changes) going.printed ∙ sym (lines_more going.done action);
        }
          where
            step : step_by task.outputs (rest_of task old) (run_along (run_input kinds task trees changes (rest_of task old)) going.done).held (made_by kinds task action trees) ≡ Ok ended.more
            step = ap (λ (held : Files). step_by task.outputs (rest_of task old) held (made_by kinds task action trees)) held_none ∙ ended.step

            held_now : (run_along (run_input kinds task trees changes (rest_of task old)) (going.done ++ action ∷ [])).held ≡ ended.more
            held_now = more_held kinds task.outputs task.values trees (rest_of task old) going.done [] ended.more action going.no_fault step

            now_writes : any_writes (going.done ++ action ∷ []) ≡ true
            now_writes = any_more ∙ ap (λ b. b || kinds.writes (kind_of action)) none_before ∙ writes

        pub fails_writing : (first second : Tearing) (before between after : ℕ) (fault : Fault) (new : Files) (lines_now : List Text) → SameTearing first second → before ≤ between → between ≤ after
            → Stops kinds task action trees old second between fault after new → lines_now ≡ lines → Fails input (ByChanges old) first before fault lines_now after new
        fails_writing first second before between after fault new lines_now same le more stops prints =
            fails_at (run_input kinds task trees changes (rest_of task old)) (ByChanges old) going.done left action going.all going.no_fault first second before between after fault lines_now new
            same le more (prints ∙ going.printed) (record { prefix = stops.prefix; following = stops.following; at_hand = at stops.at_hand; why = by stops.why })
          where
            ended_old : ended_files (run_input kinds task trees changes (rest_of task old)) (ByChanges old) going.done ≡ old
            ended_old = ap (λ b. if b then put_over (rest_of task old) (run_along (run_input kinds task trees changes (rest_of task old)) going.done).held else old) none_before

            at : AreOfExecution kinds task action trees old (stops.prefix ++ stops.following)
                → AreAtHand (run_input kinds task trees changes (rest_of task old)) (ByChanges old) going.done (action ∷ left) (stops.prefix ++ stops.following)
            at (inl none) = inl none
            at (inr leads) = inr (
              writes,
              subst (λ (fs : Files). LeadTo fs (put_over (rest_of task old) (put_over (run_along (run_input kinds task trees changes (rest_of task old)) going.done).held
                  (files_at_hand (run_input kinds task trees changes (rest_of task old)) (run_along (run_input kinds task trees changes (rest_of task old)) going.done).held (action ∷ left)))) (stops.prefix ++ stops.following)) (sym ended_old)
                  (subst (λ (held : Files). LeadTo old (put_over (rest_of task old) (put_over held (free_files task.outputs held (made_by kinds task action trees)))) (stops.prefix ++ stops.following)) (sym held_none) leads),
            )

            by : ((step_by task.outputs (rest_of task old) [] (made_by kinds task action trees) ≡ Err fault) × (new ≡ after_steps old stops.prefix))
                ⊎ FailsByMachine second between (after_steps old stops.prefix) stops.following fault after new
                → ((step_by task.outputs (rest_of task old) (run_along (run_input kinds task trees changes (rest_of task old)) going.done).held (made_by kinds task action trees) ≡ Err fault)
                × (new ≡ after_steps (ended_files (run_input kinds task trees changes (rest_of task old)) (ByChanges old) going.done) stops.prefix))
                ⊎ FailsByMachine second between (after_steps (ended_files (run_input kinds task trees changes (rest_of task old)) (ByChanges old) going.done) stops.prefix) stops.following fault after new
            by why = subst (λ (fs : Files). ((step_by task.outputs (rest_of task old) (run_along (run_input kinds task trees changes (rest_of task old)) going.done).held (made_by kinds task action trees) ≡ Err fault)
                × (new ≡ after_steps fs stops.prefix)) ⊎ FailsByMachine second between (after_steps fs stops.prefix) stops.following fault after new) (sym ended_old)
                (subst (λ (held : Files). ((step_by task.outputs (rest_of task old) held (made_by kinds task action trees) ≡ Err fault) × (new ≡ after_steps old stops.prefix))
                ⊎ FailsByMachine second between (after_steps old stops.prefix) stops.following fault after new) (sym held_none) why)
