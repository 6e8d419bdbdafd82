-- The digests of what the actions make, one action more at a time, whatever the folder is.
use Rattle.std.specs.Prelude.{◌≡◌, ◌++◌, ◌||◌, Bool, true, false, cond, List, [], ◌∷◌, map, Ok}
use Rattle.std.specs.List.{AllByRecursion, flat_map, list_any}
use Rattle.std.specs.FinMap.Entries.{is_sorted}
use Rattle.std.proofs.Common.{refl, sym, ap, subst, ◌∙◌, append_assoc}
use mathlib.Core.Bool.{true≢false}
use Rattle.gb_core.specs.Lists.{byte_order}
use Rattle.gb_folder.specs.Files.{Files, are_placed}
use Rattle.gb_folder.proofs.Sound.{placed_where}
use Rattle.gb_report.specs.declared.fault.Fault.TheVariants as faults
use Rattle.gb_action.specs.Changes.{Changes}
use Rattle.gb_action.specs.Files.{Trees}
use Rattle.gb_action.specs.Replies.{Answers}
use Rattle.gb_action.specs.declared.output_files.OutputFiles.{OutputFiles}
use Rattle.gb_action.specs.declared.reply.Reply.{Reply}
use Rattle.gb_action.specs.declared.reply.Written.{Written}
use Rattle.gb_plan.specs.Task.{is_output_of}
use Rattle.gb_plan.specs.declared.task.Action.{Action}
use Rattle.gb_plan.specs.declared.task.Output.{Output}
use Rattle.gb_plan.specs.declared.task.TaskDeclaration.{TaskDeclaration as Task}
use Rattle.gb_plan.proofs.Tests.{all_at, any_append, filter_append}
use Rattle.gb_tree.specs.Prints.{digests_of}
use Rattle.gb_semantics.specs.Kinds.{Kinds, kind_of}
use Rattle.gb_semantics.specs.Made.{file_faults, full_outputs, made_of, placed, put_over, put_result, rest_of, step_faults}
use Rattle.gb_semantics.specs.Memory.{output_files}
use Rattle.gb_semantics.proofs.Lemmas.Files.{sorted-where}
use Rattle.gb_run.specs.Asking.{made_by}
use Rattle.gb_run.specs.Placing.{faults_beside}
use Rattle.gb_run.proofs.Beside.{beside_held, over_by_place}
use Rattle.gb_run.proofs.Endings.{with_none}
use Rattle.gb_run.proofs.Keeping.{made_more, put_freely}
use Rattle.gb_run.specs.AskingChanges.{GoesOn, IsFitting, request_of, writers}
use Rattle.gb_run.specs.ChangeLaws.{IsReplied}
use Rattle.gb_run.specs.Named.{held_after, steps_of}
use Rattle.gb_run.specs.Steps.{LeadTo, after_steps, in_step_order}
use Rattle.gb_run.specs.Execution.{IsItsExecution, Makes}
use Rattle.gb_run.proofs.Further.{some_writes, the_one}
use Rattle.gb_run.proofs.Going.{none_full, two_writers}
use Rattle.gb_run.proofs.Leading.{held_is_made, leads}
use Rattle.gb_run.proofs.Owned.{no_rest, owned_again, owned_observed}
use Rattle.gb_run.proofs.Placed.{none_after}
use Rattle.gb_run.proofs.Room.{or_none}
use Rattle.gb_run.proofs.WritingAction.{none_mapped, ok_value}
use Rattle.gb_run.proofs.Writer.{writer_of}

-- ---- the action that writes

-- a run based on the files at the outputs is the same as one based on the whole folder
goes_on_owned : (kinds : Kinds) (task : Task) (old trees : Trees) (changes : List Changes) (outputs : List OutputFiles) (files : Files) → is_sorted byte_order files ≡ true
    → GoesOn kinds task old trees changes outputs files → GoesOn kinds task old trees changes outputs (output_files task files)
goes_on_owned kinds task old trees changes outputs files sorted goes_on = record {
  one_writer = goes_on.one_writer;
  was_made = goes_on.was_made ∙ ap Ok (sym (owned_again task files));
  shows = goes_on.shows;
  exists = goes_on.exists ∙ sym (owned_observed (is_output_of task) files sorted task.outputs (λ q under. under));
  separate = goes_on.separate;
  not_own = goes_on.not_own;
}

module _ (kinds : Kinds) (task : Task) (action : Action) (trees : Trees) (changes : List Changes) (observed : List OutputFiles) (files : Files)
    (sorted : is_sorted byte_order files ≡ true) (good : are_placed files ≡ true) (turn : IsItsExecution kinds task action trees changes observed files) (reply : Reply)
    (answers : Answers (kinds.makes (kind_of action)) (kinds.prints (kind_of action)) (request_of task trees changes observed action.args) (Ok reply)) where
  made : (written : List Written) × (made_by kinds task action trees ≡ Ok written)
  made = ok_value (made_by kinds task action trees) (answers.succeeds reply refl)

  replied : IsReplied kinds task trees changes observed (output_files task files) reply made.0
  replied = record {
    in_order = sorted-where (is_output_of task) files sorted;
    are_placed = placed_where (is_output_of task) files good;
    fitting = turn.fitting;
    old = turn.old;
    goes_on = goes_on_owned kinds task turn.old trees changes observed files sorted turn.goes_on;
    writer = action;
    writes = turn.writes;
    makes = made.1;
    carries = answers.by_changes reply refl refl;
  }

  -- if these files have no fault, the digests once its steps are followed are those of its files
  pub makes_so : (digests : Files) → faults_beside task.outputs [] (held_after task.outputs observed reply.removes reply.writes) ≡ []
      → digests ≡ digests_of (after_steps (output_files task files) (in_step_order (steps_of task.outputs reply.removes reply.writes))) → Makes kinds task action trees digests
  makes_so digests none is = record {
    more = put_over [] (placed task.outputs made.0);
    put = put_freely task.outputs [] (made_by kinds task action trees) made.0 made.1 none_made;
    few = none_mapped (λ (output : Output). faults.TooManyFiles output.name) (full_outputs task.outputs (put_over [] (placed task.outputs made.0)))
        (none_after (flat_map (file_faults (put_over [] (placed task.outputs made.0))) (put_over [] (placed task.outputs made.0))) _ none_made);
    prints = is ∙ ap digests_of (lead.reached ∙ ap (λ (rest : Files). put_over rest (put_over [] (placed task.outputs made.0))) (no_rest task files) ∙ sym (over_by_place [] (placed task.outputs made.0) refl));
  }
    where
      none_made : step_faults task.outputs [] (placed task.outputs made.0) ≡ []
      none_made =
          sym (ap (faults_beside task.outputs []) (held_is_made kinds task trees changes observed (output_files task files) reply made.0 replied)
          ∙ beside_held task.outputs [] (placed task.outputs made.0) refl) ∙ none

      lead : LeadTo (output_files task files) (put_over (rest_of task (output_files task files)) (put_over [] (placed task.outputs made.0))) (in_step_order (steps_of task.outputs reply.removes reply.writes))
      lead = leads kinds task trees changes observed (output_files task files) reply made.0 replied none_made

-- ---- all actions

module _ (kinds : Kinds) (task : Task) (trees : Trees) (changes : List Changes) (files : Files) where
  abbrev any_writes : List Action → Bool
  any_writes actions = list_any (λ (a : Action). kinds.writes (kind_of a)) actions

  -- Some first actions have ended; these are left. The digests are those from before, until one that writes
  -- has.
  pub record IsReporting (left : List Action) (digests : Files) : Type 0 where
    pub done : List Action
    pub all : task.actions ≡ done ++ left
    pub held : Files
    pub made : made_of kinds done task.values trees task.outputs ≡ Ok held
    pub few : full_outputs task.outputs held ≡ []
    pub before : list_any (λ (a : Action). kinds.writes (kind_of a)) done ≡ false → (held ≡ []) × (digests ≡ digests_of (output_files task files))
    pub after : list_any (λ (a : Action). kinds.writes (kind_of a)) done ≡ true → digests ≡ digests_of held

  pub reports_none : (left : List Action) (digests : Files) → left ≡ task.actions → digests ≡ digests_of (output_files task files) → IsReporting left digests
  reports_none left digests all is = record {
    done = [];
    all = sym all;
    held = [];
    made = refl;
    few = none_full task.outputs;
    before = λ _. (refl, is);
    after = λ e. absurd (true≢false (sym e));
  }

  module _ (observed : List OutputFiles) (old : Trees) (goes_on : GoesOn kinds task old trees changes observed files) (fitting : AllByRecursion (IsFitting kinds task) task.actions) where
    one : (w : Action) × (writers kinds task.actions ≡ w ∷ [])
    one = writer_of kinds task.actions goes_on.one_writer

    module _ (action : Action) (left : List Action) (digests : Files) (reporting : IsReporting (action ∷ left) digests) where
      fits : IsFitting kinds task action
      fits = (all_at (IsFitting kinds task) reporting.done action left (subst (λ (xs : List Action). AllByRecursion (IsFitting kinds task) xs) reporting.all fitting)).0

      is_one : kinds.writes (kind_of action) ≡ true → writers kinds task.actions ≡ action ∷ []
      is_one writes = one.1 ∙ ap (λ (a : Action). a ∷ []) (sym (the_one kinds reporting.done left action one.0 writes (ap (writers kinds) (sym reporting.all) ∙ one.1)))

      none_before : kinds.writes (kind_of action) ≡ true → any_writes reporting.done ≡ false
      none_before writes = by (any_writes reporting.done) refl
        where
          here : writers kinds (reporting.done ++ action ∷ left) ≡ writers kinds reporting.done ++ action ∷ writers kinds left
          here =
              filter_append (λ (a : Action). kinds.writes (kind_of a)) reporting.done (action ∷ left)
              ∙ ap (λ b. writers kinds reporting.done ++ cond b (action ∷ writers kinds left) (writers kinds left)) writes

          by : (b : Bool) → any_writes reporting.done ≡ b → b ≡ false
          by true e = absurd (two_writers kinds task trees changes files reporting.done action action (writers kinds left) e (sym here ∙ ap (writers kinds) (sym reporting.all) ∙ is_one writes))
          by false e = refl

      any_more : any_writes (reporting.done ++ action ∷ []) ≡ (any_writes reporting.done || kinds.writes (kind_of action))
      any_more = any_append (λ (a : Action). kinds.writes (kind_of a)) reporting.done (action ∷ []) ∙ ap (λ b. any_writes reporting.done || b) (or_none (kinds.writes (kind_of action)))

      all_more : task.actions ≡ (reporting.done ++ action ∷ []) ++ left
      all_more = reporting.all ∙ sym (append_assoc reporting.done (action ∷ []) left)

      -- an action that makes nothing leaves what is held
      quiet : made_by kinds task action trees ≡ Ok [] → put_result task.outputs reporting.held (made_by kinds task action trees) ≡ Ok reporting.held
      quiet is = put_freely task.outputs reporting.held (made_by kinds task action trees) [] is (ap (map (λ (output : Output). faults.TooManyFiles output.name)) reporting.few)

      -- the next action ends
      pub reports_more : (digests_now : Files)
          → (IsFitting kinds task action → kinds.writes (kind_of action) ≡ false → (made_by kinds task action trees ≡ Ok []) × (digests_now ≡ digests))
          → (IsItsExecution kinds task action trees changes observed files → digests ≡ digests_of (output_files task files) → Makes kinds task action trees digests_now)
          → IsReporting left digests_now
      reports_more digests_now read wrote = by (kinds.writes (kind_of action)) refl
        where
          by : (b : Bool) → kinds.writes (kind_of action) ≡ b → IsReporting left digests_now
          by true writes =
              let existed = reporting.before (none_before writes) in
              let makes = wrote (record { fitting = fitting; old = old; goes_on = goes_on; writes = is_one writes }) existed.1 in
              let now : any_writes (reporting.done ++ action ∷ []) ≡ true = any_more ∙ ap (λ b. b || kinds.writes (kind_of action)) (none_before writes) ∙ writes in
              record {
                done = reporting.done ++ action ∷ [];
                all = all_more;
                held = makes.more;
                made = made_more kinds task trees reporting.done action reporting.held makes.more reporting.made
                    (ap (λ (held : Files). put_result task.outputs held (made_by kinds task action trees)) existed.0 ∙ makes.put);
                few = makes.few;
                before = λ none. absurd (true≢false (sym now ∙ none));
                after = λ _. makes.prints;
              }
          by false writes =
              let did = read fits writes in
              let same : any_writes (reporting.done ++ action ∷ []) ≡ any_writes reporting.done = any_more ∙ ap (λ b. any_writes reporting.done || b) writes ∙ or_none (any_writes reporting.done) in
              record {
                done = reporting.done ++ action ∷ [];
                all = all_more;
                held = reporting.held;
                made = made_more kinds task trees reporting.done action reporting.held reporting.held reporting.made (quiet did.0);
                few = reporting.few;
                before = λ none. let existed = reporting.before (sym same ∙ none) in (existed.0, did.1 ∙ existed.1);
                after = λ some. did.1 ∙ reporting.after (sym same ∙ some);
              }

    -- all have ended
    pub reports_all : (digests : Files) → IsReporting [] digests → (held : Files) × (made_of kinds task.actions task.values trees task.outputs ≡ Ok held) × (digests ≡ digests_of held)
    reports_all digests reporting =
        let same : task.actions ≡ reporting.done = reporting.all ∙ with_none reporting.done in (
          reporting.held,
          ap (λ (actions : List Action). made_of kinds actions task.values trees task.outputs) same ∙ reporting.made,
          reporting.after (ap any_writes (sym same) ∙ some_writes kinds task.actions one.0 [] one.1),
        )
