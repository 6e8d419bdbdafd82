-- The execution of a task whose run is due, by how it ended.
use Rattle.std.specs.Prelude.{ℕ, ◌≡◌, ◌⊎◌, ◌++◌, Bool, true, false, List, [], ◌∷◌, length, take, Option, Some, None, Result, Ok, Err}
use Rattle.std.proofs.Common.{refl, sym, ap, subst, ◌∙◌, inl, inr}
use Rattle.gb_action.specs.Changes.{Changes}
use Rattle.gb_folder.specs.Files.{Contents, Files, Place, is_empty}
use Rattle.gb_semantics.specs.Events.{Setting, may_occur, rules_in}
use Rattle.gb_semantics.specs.Kinds.{Kinds}
use Rattle.gb_semantics.specs.Label.{AreChanges, Early, EndsWith, IsCurrent, IsOutcomeOf, IsOutcomeAt, Moment, early_case, run_of}
use Rattle.gb_semantics.specs.Memory.{World}
use Rattle.gb_semantics.specs.Tree.{has_no_source, input_faults, listing_faults, trees_of}
use Rattle.gb_semantics.specs.Execution.{ByItself, ByMachine, Cause, FailedRunLeaves, FailedRunPrints, FailureLeaves, FailurePrints, HadBegun, HasEnded, IsGivenUp, IsOfMachine, KeepsRightFiles, WorldState, StartedExecution, cause_of, lines_of}
use Rattle.gb_plan.specs.Graph.{Plan}
use Rattle.gb_plan.specs.Task.{Text, is_output_of}
use Rattle.gb_plan.specs.declared.task.Action.{Action}
use Rattle.gb_plan.specs.declared.task.TaskDeclaration.{TaskDeclaration as Task}
use Rattle.gb_plan.proofs.Tests.{not_false, not_true}
use Rattle.gb_report.specs.declared.fault.Fault.{Fault}
use Rattle.gb_report.specs.declared.fault.Fault.TheVariants as faults
use Rattle.gb_report.specs.declared.report.Options.{Options}
use Rattle.gb_report.specs.declared.report.Outcome.TheVariants as outcomes
use Rattle.gb_semantics.proofs.Common.{none_some}
use Rattle.gb_run.proofs.Placed.{none_after, none_before}
use Rattle.gb_task.specs.Executing.{report_of}
use Rattle.gb_label.proofs.Cases.{cased}

-- ---- the case before any record is read

-- what holds of a task to which no early case applies
pub record Goes (task : Task) (folder : Contents) : Type 0 where
  pub runs : task.runs ≡ true
  pub acts : is_empty task.actions ≡ false
  pub readable : input_faults task folder ≡ []
  pub listed : listing_faults task folder ≡ []
  pub source : has_no_source task folder.files ≡ false

pub goes : (task : Task) (folder : Contents) → early_case task folder ≡ None → Goes task folder
goes task folder none = record {
  runs = runs_if task.runs (is_empty task.actions) faults_there (has_no_source task folder.files) none;
  acts = acts_if task.runs (is_empty task.actions) faults_there (has_no_source task folder.files) none;
  readable = none_before (input_faults task folder) (listing_faults task folder) (free_if task.runs (is_empty task.actions) faults_there (has_no_source task folder.files) none);
  listed = none_after (input_faults task folder) (listing_faults task folder) (free_if task.runs (is_empty task.actions) faults_there (has_no_source task folder.files) none);
  source = source_if task.runs (is_empty task.actions) faults_there (has_no_source task folder.files) none;
}
  where
    faults_there : List Fault
    faults_there = input_faults task folder ++ listing_faults task folder

    runs_if : (runs idle : Bool) (hindrances : List Fault) (dry : Bool) → cased runs idle hindrances dry ≡ None → runs ≡ true
    runs_if false idle hindrances dry e = none_some (sym e)
    runs_if true idle hindrances dry e = refl

    acts_if : (runs idle : Bool) (hindrances : List Fault) (dry : Bool) → cased runs idle hindrances dry ≡ None → idle ≡ false
    acts_if false idle hindrances dry e = none_some (sym e)
    acts_if true true hindrances dry e = none_some (sym e)
    acts_if true false hindrances dry e = refl

    free_if : (runs idle : Bool) (hindrances : List Fault) (dry : Bool) → cased runs idle hindrances dry ≡ None → hindrances ≡ []
    free_if false idle hindrances dry e = none_some (sym e)
    free_if true true hindrances dry e = none_some (sym e)
    free_if true false [] dry e = refl
    free_if true false (f ∷ fs) dry e = none_some (sym e)

    source_if : (runs idle : Bool) (hindrances : List Fault) (dry : Bool) → cased runs idle hindrances dry ≡ None → dry ≡ false
    source_if false idle hindrances dry e = none_some (sym e)
    source_if true true hindrances dry e = none_some (sym e)
    source_if true false [] true e = none_some (sym e)
    source_if true false [] false e = refl
    source_if true false (f ∷ fs) dry e = none_some (sym e)

-- ---- how it ended

pub take_whole : {X : Type 0} (xs : List X) → take (length xs) xs ≡ xs
take_whole [] = refl
take_whole (x ∷ xs) = ap (λ ys. x ∷ ys) (take_whole xs)

pub same_fault : (one other : Fault) → outcomes.Failed one ≡ outcomes.Failed other → one ≡ other
same_fault one other e = cc

-- the lines that these actions print in the run of the task on these files
abbrev pub lines_in : Kinds → Task → List Changes → Files → List Action → List Text
lines_in kinds task reported files actions = lines_of kinds task (trees_of task files) reported actions

-- A run is due, and these are the changes that its actions get.
pub record IsRun (kinds : Kinds) (options : Options) (task : Task) (world : World) (reported : List Changes) : Type 0 where
  pub case : early_case task world.folder ≡ None
  pub not_current : ¬ IsCurrent options task world
  pub are_reported : AreChanges kinds options task world reported

-- Why the run failed, and what it had printed: by itself, or by the machine, after some first actions.
pub data EndsFor (setting : Setting) (own : Files) (options : Options) (task : Task) (reported : List Changes) (moment : Moment) (fault : Fault) (lines : List Text) (new : WorldState) : Type 0 where
  by_itself : (run_of setting.kinds task moment.world.folder.files).fault ≡ Some fault
      → lines ≡ lines_in setting.kinds task reported moment.world.folder.files (run_of setting.kinds task moment.world.folder.files).done
      → EndsFor setting own options task reported moment fault lines new
  by_machine : cause_of fault ≡ ByMachine → may_occur setting own options task moment new fault → (count : ℕ)
      → lines ≡ lines_in setting.kinds task reported moment.world.folder.files (take count (run_of setting.kinds task moment.world.folder.files).done)
      → EndsFor setting own options task reported moment fault lines new

module _ (setting : Setting) (own : Files) (options : Options) (plan : Plan) (task : Task) (reported : List Changes) (moment : Moment)
    (due : IsRun setting.kinds options task moment.world reported) where
  abbrev Execution : Result (Unit {0}) Fault → List Text → WorldState → Type 0
  Execution result lines new = StartedExecution (rules_in setting own options plan) moment task (report_of task result lines) new

  pub unbegun : (fault : Fault) (new : WorldState) → cause_of fault ≡ ByMachine → may_occur setting own options task moment new fault → new.world ≡ moment.world
      → StartedExecution (rules_in setting own options plan) moment task (report_of task (Err fault) []) new
  unbegun fault new machine may same = record {
    label = inr (fault, may, refl);
    leaves =
        subst (λ (early : Option Early). FailureLeaves setting.kinds options task fault moment.world new.world early) (sym due.case)
        (subst (λ (cause : Cause). FailedRunLeaves setting.kinds options task fault moment.world new.world cause) (sym machine) ((λ _. same), inl same));
    prints =
        subst (λ (early : Option Early). FailurePrints setting.kinds options task moment.world [] fault early) (sym due.case)
        (subst (λ (cause : Cause). FailedRunPrints setting.kinds options task moment.world [] cause) (sym machine) (inl refl));
    reading = λ place is out. same;
    begun = λ other is printed. not_false printed;
  }

  pub given_up : (fault : Fault) (lines : List Text) (new : WorldState) → IsGivenUp setting.kinds task fault moment.world new.world
      → KeepsRightFiles setting.kinds options task moment.world new.world → EndsFor setting own options task reported moment fault lines new → ((place : Place) → fault ≡ faults.Device place → is_output_of task place ≡ true)
      → StartedExecution (rules_in setting own options plan) moment task (report_of task (Err fault) lines) new
  given_up fault lines new up keeps ends at = record {
    label = label_for ends;
    leaves = subst (λ (early : Option Early). FailureLeaves setting.kinds options task fault moment.world new.world early) (sym due.case) (leaves_for (cause_of fault));
    prints = subst (λ (early : Option Early). FailurePrints setting.kinds options task moment.world lines fault early) (sym due.case) (prints_for ends);
    reading = λ place is out. not_true (sym out ∙ at place (same_fault fault (faults.Device place) is));
    begun = λ other is printed.
        subst (λ (f : Fault). HadBegun setting.kinds options task f moment.world new.world) (same_fault fault other is) (inl (up, keeps));
  }
    where
      label_for : EndsFor setting own options task reported moment fault lines new → IsOutcomeOf setting.kinds options plan task moment (outcomes.Failed fault) ⊎ IsOfMachine (rules_in setting own options plan) moment task (outcomes.Failed fault) new
      label_for (by_itself faulty printed) = inl
          (subst (λ (early : Option Early). IsOutcomeAt setting.kinds options plan task moment early (outcomes.Failed fault)) (sym due.case)
          (inr (due.not_current, subst (λ (ended : Option Fault). EndsWith ended (outcomes.Failed fault)) (sym faulty) refl)))
      label_for (by_machine machine may count printed) = inr (fault, may, refl)

      leaves_for : (cause : Cause) → FailedRunLeaves setting.kinds options task fault moment.world new.world cause
      leaves_for ByItself = (up, keeps)
      leaves_for ByMachine = ((λ current. absurd (due.not_current current)), inr (inl (up, keeps)))

      itself_prints : (cause : Cause) → lines ≡ lines_in setting.kinds task reported moment.world.folder.files (run_of setting.kinds task moment.world.folder.files).done
          → FailedRunPrints setting.kinds options task moment.world lines cause
      itself_prints ByItself printed = (reported, due.are_reported, printed)
      itself_prints ByMachine printed = inr (
        due.not_current,
        reported,
        length (run_of setting.kinds task moment.world.folder.files).done,
        due.are_reported,
        printed ∙ ap (lines_in setting.kinds task reported moment.world.folder.files) (sym (take_whole (run_of setting.kinds task moment.world.folder.files).done)),
      )

      prints_for : EndsFor setting own options task reported moment fault lines new → FailedRunPrints setting.kinds options task moment.world lines (cause_of fault)
      prints_for (by_itself faulty printed) = itself_prints (cause_of fault) printed
      prints_for (by_machine machine may count printed) =
          subst (λ (cause : Cause). FailedRunPrints setting.kinds options task moment.world lines cause) (sym machine) (inr (due.not_current, reported, count, due.are_reported, printed))

  pub ended : (lines : List Text) (new : WorldState) → HasEnded setting.kinds task moment.world new.world → (run_of setting.kinds task moment.world.folder.files).fault ≡ None
      → lines ≡ lines_in setting.kinds task reported moment.world.folder.files task.actions
      → StartedExecution (rules_in setting own options plan) moment task (report_of task (Ok tt) lines) new
  ended lines new has none printed = record {
    label = inl (subst (λ (early : Option Early). IsOutcomeAt setting.kinds options plan task moment early outcomes.Executed) (sym due.case)
        (inr (due.not_current, subst (λ (e : Option Fault). EndsWith e outcomes.Executed) (sym none) refl)));
    leaves = inr ((goes task moment.world.folder due.case).acts, has);
    prints = (reported, due.are_reported, printed);
    reading = λ place is out. absurd (let e = is in (cc));
    begun = λ fault is printed. absurd (let e = is in (cc));
  }

  pub torn : (lines : List Text) (new : WorldState) (count : ℕ) → HasEnded setting.kinds task moment.world new.world
      → may_occur setting own options task moment new faults.HistoryNotWritten
      → lines ≡ lines_in setting.kinds task reported moment.world.folder.files (take count (run_of setting.kinds task moment.world.folder.files).done)
      → StartedExecution (rules_in setting own options plan) moment task (report_of task (Err faults.HistoryNotWritten) lines) new
  torn lines new count has may printed = record {
    label = inr (faults.HistoryNotWritten, may, refl);
    leaves =
        subst (λ (early : Option Early). FailureLeaves setting.kinds options task faults.HistoryNotWritten moment.world new.world early) (sym due.case)
        ((λ current. absurd (due.not_current current)), inr (inr (refl, has)));
    prints =
        subst (λ (early : Option Early). FailurePrints setting.kinds options task moment.world lines faults.HistoryNotWritten early) (sym due.case)
        (inr (due.not_current, reported, count, due.are_reported, printed));
    reading = λ place is out. absurd (let e = is in (cc));
    begun = λ fault is printed.
        subst (λ (f : Fault). HadBegun setting.kinds options task f moment.world new.world) (same_fault faults.HistoryNotWritten fault is) (inr (refl, has));
  }
