-- What follows for a task's execution from its case.
use Rattle.std.specs.Prelude.{◌≡◌, ◌++◌, Bool, true, false, List, [], ◌∷◌, if◌then◌else◌, Option, Some, None}
use Rattle.std.proofs.Common.{refl, sym, ap, subst, ◌∙◌, inl, inr}
use mathlib.Core.Bool.{true≢false}
use Rattle.gb_folder.specs.Files.{is_empty}
use Rattle.gb_history.specs.declared.decide.Decision.TheVariants as decisions
use Rattle.gb_label.specs.declared.prepare.Prepared.TheVariants as prepared
use Rattle.gb_label.proofs.Cases.{cased}
use Rattle.gb_semantics.specs.Kinds.{Kinds}
use Rattle.gb_semantics.specs.Label.{AreChanges, Early, HasNoActions, IsCurrent, IsIncremental, IsOutcomeAt, Moment, Skips, changes_from, early_case, has_one_writer, some_outcome}
use Rattle.gb_semantics.specs.Memory.{World}
use Rattle.gb_semantics.specs.Tree.{has_no_source, input_faults, listing_faults, trees_of}
use Rattle.gb_semantics.specs.Execution.{Leaves, Prints, lines_of}
use Rattle.gb_plan.specs.Graph.{Plan, needs_in}
use Rattle.gb_plan.specs.declared.task.Action.{Action}
use Rattle.gb_plan.specs.declared.task.TaskDeclaration.{TaskDeclaration as Task}
use Rattle.gb_report.specs.Outcome.{is_executed, is_failed}
use Rattle.gb_report.specs.declared.fault.Fault.{Fault}
use Rattle.gb_report.specs.declared.report.Options.{Options}
use Rattle.gb_report.specs.declared.report.Outcome.TheVariants as outcomes
use Rattle.gb_task.specs.Executions.{IdleExecutionsAreExecutions, IsIdleExecution, RunsAreOfCase}

-- ---- a task without actions

abbrev is_idle : Option Early → Bool
is_idle (Some HasNoActions) = true
is_idle other = false

idle_if : (runs idle : Bool) (hindrances : List Fault) (dry : Bool) → cased runs idle hindrances dry ≡ Some HasNoActions → idle ≡ true
idle_if runs true hindrances dry e = refl
idle_if false false hindrances dry e = absurd (true≢false (sym (ap is_idle e)))
idle_if true false [] false e = absurd (true≢false (sym (ap is_idle e)))
idle_if true false [] true e = absurd (true≢false (sym (ap is_idle e)))
idle_if true false (f ∷ fs) dry e = absurd (true≢false (sym (ap is_idle e)))

none_left : (actions : List Action) → is_empty actions ≡ true → actions ≡ []
none_left [] e = refl
none_left (a ∷ actions) e = absurd (true≢false (sym e))

module _ (kinds : Kinds) (options : Options) (task : Task) (world : World) (idle : is_empty task.actions ≡ true) where
  never_incremental : ¬ IsIncremental kinds options task world
  never_incremental since = true≢false (sym since.one_writer ∙ ap (has_one_writer kinds) (none_left task.actions idle))

  idle_prints : Prints kinds options task world outcomes.Executed []
  idle_prints = (
    changes_from task [] world.folder.files,
    inr (never_incremental, refl),
    ap (lines_of kinds task (trees_of task world.folder.files) (changes_from task [] world.folder.files)) (sym (none_left task.actions idle)),
  )

module _ (kinds : Kinds) (options : Options) (plan : Plan) (task : Task) (moment : Moment) where
  skipped : early_case task moment.world.folder ≡ Some Skips → IsIdleExecution kinds options plan task moment outcomes.Skipped
  skipped case = record {
    label = subst (λ (early : Option Early). IsOutcomeAt kinds options plan task moment early outcomes.Skipped) (sym case) refl;
    leaves = refl;
    prints = refl;
    no_failure = refl;
  }

  current : early_case task moment.world.folder ≡ None → IsCurrent options task moment.world → IsIdleExecution kinds options plan task moment outcomes.UpToDate
  current case is = record {
    label = subst (λ (early : Option Early). IsOutcomeAt kinds options plan task moment early outcomes.UpToDate) (sym case) (inl (is, refl));
    leaves = refl;
    prints = refl;
    no_failure = refl;
  }

  without_actions : early_case task moment.world.folder ≡ Some HasNoActions
      → IsIdleExecution kinds options plan task moment (if some_outcome is_executed moment (needs_in plan task) then outcomes.Executed else outcomes.UpToDate)
  without_actions case = record {
    label = subst (λ (early : Option Early). IsOutcomeAt kinds options plan task moment early (if some_outcome is_executed moment (needs_in plan task) then outcomes.Executed else outcomes.UpToDate)) (sym case) refl;
    leaves = leaves (some_outcome is_executed moment (needs_in plan task));
    prints = prints (some_outcome is_executed moment (needs_in plan task));
    no_failure = no_failure (some_outcome is_executed moment (needs_in plan task));
  }
    where
      idle : is_empty task.actions ≡ true
      idle = idle_if task.runs (is_empty task.actions) (input_faults task moment.world.folder ++ listing_faults task moment.world.folder) (has_no_source task moment.world.folder.files) case

      leaves : (b : Bool) → Leaves kinds options task moment.world (if b then outcomes.Executed else outcomes.UpToDate) moment.world
      leaves true = inl (idle, refl)
      leaves false = refl

      prints : (b : Bool) → Prints kinds options task moment.world (if b then outcomes.Executed else outcomes.UpToDate) []
      prints true = idle_prints kinds options task moment.world idle
      prints false = refl

      no_failure : (b : Bool) → is_failed (if b then outcomes.Executed else outcomes.UpToDate) ≡ false
      no_failure true = refl
      no_failure false = refl

pub idle_executions_are_executions : IdleExecutionsAreExecutions
idle_executions_are_executions kinds options plan task moment prepared.Skips outcome case answer =
    subst (IsIdleExecution kinds options plan task moment) (sym answer) (skipped kinds options plan task moment case)
idle_executions_are_executions kinds options plan task moment prepared.HasNoActions outcome case answer =
    subst (IsIdleExecution kinds options plan task moment) (sym answer) (without_actions kinds options plan task moment case)
idle_executions_are_executions kinds options plan task moment prepared.HasNoSource outcome case answer = absurd answer
idle_executions_are_executions kinds options plan task moment (prepared.Decided decisions.UpToDate basis observed) outcome case answer =
    subst (IsIdleExecution kinds options plan task moment) (sym answer) (current kinds options plan task moment case.0 case.1)
idle_executions_are_executions kinds options plan task moment (prepared.Decided (decisions.Incremental changes) basis observed) outcome case answer = absurd answer
idle_executions_are_executions kinds options plan task moment (prepared.Decided decisions.Full basis observed) outcome case answer = absurd answer

-- ---- runs

pub runs_are_of_case : RunsAreOfCase
runs_are_of_case kinds options task world decisions.UpToDate runs case = absurd (runs refl)
runs_are_of_case kinds options task world (decisions.Incremental changes) runs case = record {
  not_current = case.0;
  changes = by (has_one_writer kinds task.actions) refl;
  full = λ several since. true≢false (sym since.one_writer ∙ several);
}
  where
    by : (b : Bool) → has_one_writer kinds task.actions ≡ b → AreChanges kinds options task world (if b then changes else changes_from task [] world.folder.files)
    by true one = inl (case.1 one)
    by false several = inr (λ since. true≢false (sym since.one_writer ∙ several), refl)
runs_are_of_case kinds options task world decisions.Full runs case = record {
  not_current = case.0;
  changes = inr (case.1, refl);
  full = λ _. case.1;
}
