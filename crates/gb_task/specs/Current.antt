-- What an execution is based on, as calls returned it, over any folder.
use Rattle.std.specs.Prelude.{◌≡◌, Bool, true, false, List, map, Option, Some}
use Rattle.gb_action.specs.Files.{Trees}
use Rattle.gb_action.specs.declared.output_files.OutputFiles.{OutputFiles}
use Rattle.gb_folder.specs.Files.{is_empty}
use Rattle.gb_history.specs.Decision.{DecidesFrom}
use Rattle.gb_history.specs.Record.{Record}
use Rattle.gb_history.specs.declared.decide.Decision.TheVariants as decisions
use Rattle.gb_history.specs.declared.decide.Present.{Present}
use Rattle.gb_label.specs.Answered.{WasDecided, WasPrepared, WasSourced, WasSourceless}
use Rattle.gb_label.specs.Deciding.{IsPresentOf}
use Rattle.gb_label.specs.ReadingAnswered.{AreInputsAnswered, AreInputsRead, AreOutputsRead}
use Rattle.gb_label.specs.Reading.{digests_in, prints_observed, records_with}
use Rattle.gb_label.specs.declared.prepare.Prepared.{Prepared}
use Rattle.gb_label.specs.declared.prepare.Prepared.TheVariants as prepared
use Rattle.gb_plan.specs.Task.{given_files, given_outputs}
use Rattle.gb_plan.specs.declared.task.TaskDeclaration.{TaskDeclaration as Task}
use Rattle.gb_report.specs.declared.report.Options.{Options}
use Rattle.gb_report.specs.declared.report.Outcome.{Outcome}
use Rattle.gb_report.specs.declared.report.Outcome.TheVariants as outcomes
use Rattle.gb_task.specs.declared.recheck.Recheck.{Recheck}
use Rattle.gb_task.specs.declared.recheck.Recheck.TheVariants as recheck
use Rattle.gb_task.specs.declared.before_changes.Settled.{Settled}
use Rattle.gb_task.specs.declared.before_changes.Settled.TheVariants as settled
use Rattle.gb_folder.specs.Calls.{Device}

-- The record that was read of the task finds it up to date, on trees and files that calls returned. By what
-- they returned it has a source.
pub record IsCurrentOn {F : Type 0} (device : Device F) (options : Options) (task : Task)
    (last : Option Record) (old new : F) : Type 0 where
  pub run : Record
  pub remembered : last ≡ Some run
  pub trees : Trees
  pub inputs_read : AreInputsRead device old new task trees
  pub named : map (λ tree. tree.0) trees ≡ given_files task.files
  pub sourced : WasSourced device old new task
  pub observed : List OutputFiles
  pub outputs_read : AreOutputsRead device old new task observed
  pub formed : map (λ output. (output.name, output.form)) observed ≡ given_outputs task.outputs
  pub present : Present
  pub has : IsPresentOf options task (digests_in trees)
      (records_with task.outputs (prints_observed observed)) present
  pub decides : DecidesFrom run present decisions.UpToDate

-- where a task that has actions is reported as up to date it was found so
abbrev pub IsReportedCurrent : {F : Type 0} → Device F → Options
    → Task
    → Option Record → F → F → Outcome → Type 0
IsReportedCurrent device options task last old new outcome =
    outcome ≡ outcomes.UpToDate → is_empty task.actions ≡ false
    → IsCurrentOn device options task last old new

-- An execution is prepared on the basis of what calls returned meanwhile. Where it is found that the task is
-- up to date, they may have returned it since an earlier state.
abbrev pub WasPreparedSince : {F : Type 0} → Device F → F → F → F
    → Options → Task → Option Record → Prepared → Type 0
WasPreparedSince device since old new options task last
    (prepared.Decided decisions.UpToDate basis observed) =
    WasPrepared device since new options task last
    (prepared.Decided decisions.UpToDate basis observed)
WasPreparedSince device since old new options task last found =
    WasPrepared device old new options task last found

-- it was found that the task is up to date
abbrev pub is_current : Prepared → Bool
is_current (prepared.Decided decisions.UpToDate basis observed) = true
is_current found = false

-- what is decided is based on what calls returned, and so are reports
abbrev pub WasSettled : {F : Type 0} → Device F → F → F → F → Options
    → Task → Option Record → Settled → Type 0
WasSettled device since old new options task last (settled.Reported report) =
    IsReportedCurrent device options task last since new report.outcome
WasSettled device since old new options task last (settled.Sourceless path) =
    WasSourceless device old new task
WasSettled device since old new options task last (settled.Due path decision observed) =
    AreInputsAnswered device old new task observed.inputs.items
    × WasDecided device old new options task last observed.inputs.items decision
    observed.outputs.items

-- and so is the result of the recheck
abbrev pub WasReadRecheck : {F : Type 0} → Device F → F → F → Task
    → Recheck → Type 0
WasReadRecheck device old new task (recheck.ByChanges inputs outputs changes) =
    AreInputsRead device old new task inputs.trees
    × AreOutputsRead device old new task outputs.observed
WasReadRecheck device old new task (recheck.InFull inputs) =
    AreInputsRead device old new task inputs.trees
