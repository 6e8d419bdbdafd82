-- The deletion of a task's record and outputs, by how the calls ended.
use Rattle.std.specs.Prelude.{ℕ, ◌≡◌, ◌≤◌, ◌||◌, Bool, false, not, Result, Ok, Err, OnOk, IfErr}
use Rattle.std.specs.List.{list_any}
use Rattle.std.proofs.Common.{ap, inl, inr}
use Rattle.gb_folder.specs.Files.{Contents, IsFolder, SameTearing, Tearing, is_own}
use Rattle.gb_history.specs.Places.{record_place}
use Rattle.gb_semantics.specs.Made.{rest_of}
use Rattle.gb_semantics.specs.Memory.{Memory, forget}
use Rattle.gb_plan.proofs.Tests.{or_right}
use Rattle.gb_plan.specs.Task.{is_output_of}
use Rattle.gb_plan.specs.declared.task.Output.{Output}
use Rattle.gb_plan.specs.declared.task.TaskDeclaration.{TaskDeclaration as Task}
use Rattle.gb_records.specs.Holding.{HoldsRecords}
use Rattle.gb_records.proofs.Reported.{holds_elsewhere}
use Rattle.gb_report.specs.declared.fault.Fault.{Fault}
use Rattle.gb_run.specs.Emptying.{CannotEmpty}
use Rattle.gb_folder.specs.Changes.{ChangesOnly, is_at, without_all}
use Rattle.gb_folder.proofs.Machine.{machine_before}
use Rattle.gb_folder.proofs.Removing.{hindered_before}
use Rattle.gb_task.specs.Clearing.{HasCleared}
use Rattle.gb_task.specs.Executing.{is_of_execution}
use Rattle.gb_task.proofs.Own.{kept_at}
use Rattle.gb_task.proofs.Parts.{widened}

-- what changes at the record, or at the outputs, changes in the execution
pub record_in_execution : (task : Task) (old new : Contents) → ChangesOnly (is_at (record_place task.path)) old new → ChangesOnly (is_of_execution task) old new
record_in_execution task old new changes = widened (is_at (record_place task.path)) (is_of_execution task) (λ q is. or_right (is_output_of task q) (is_at (record_place task.path) q) is) old new changes

pub outputs_in_execution : (task : Task) (old new : Contents) → ChangesOnly (is_output_of task) old new → ChangesOnly (is_of_execution task) old new
outputs_in_execution task old new changes = widened (is_output_of task) (is_of_execution task) (λ q is. ap (λ b. b || is_at (record_place task.path) q) is) old new changes

-- changes at the outputs leave the records
pub records_stay : (task : Task) → list_any (λ (o : Output). is_own o.place) task.outputs ≡ false → (old new : Contents) (memory : Memory)
    → ChangesOnly (is_output_of task) old new → HoldsRecords old.files memory → HoldsRecords new.files memory
records_stay task out old new memory changes exists =
    holds_elsewhere old.files new.files memory
    (widened (is_output_of task) (λ q. not (is_own q)) (λ q at. kept_at task.outputs out q at) old new changes).elsewhere exists

-- emptying that failed since a later count of failures failed so since an earlier one
pub empty_before : (task : Task) (first second : Tearing) (before between after : ℕ) (old new : Contents) (fault : Fault) → SameTearing first second → before ≤ between → between ≤ after
    → CannotEmpty task second between old fault after new → CannotEmpty task first before old fault after new
empty_before task first second before between after old new fault same le more (inl special) = inl special
empty_before task first second before between after old new fault same le more (inr machine) =
    inr (
      machine_before before between after fault le more machine.0,
      elim machine.1 [
        | inl still ↦ inl still
        | inr cut ↦ inr (record {
          gone = cut.gone;
          place = cut.place;
          left = cut.left;
          all = cut.all;
          hindered = hindered_before first second cut.place _ (without_all old cut.gone) new fault same cut.hindered;
        })
      ],
    )

pub cleared_by : (task : Task) (was_read : Bool) (memory : Memory) (first second : Tearing) (before between after : ℕ) (old taken new : Contents) (result : Result (Unit {0}) Fault)
    → SameTearing first second → before ≤ between → between ≤ after → IsFolder taken.files → ChangesOnly (is_at (record_place task.path)) old taken
    → OnOk result (new.files ≡ rest_of task taken.files) → IfErr result (λ fault. CannotEmpty task second between taken fault after new)
    → HoldsRecords new.files (forget memory task.path) → HasCleared task was_read memory first before old result after new
cleared_by task was_read memory first second before between after old taken new (Ok done) same le more sound out emptied cannot records =
    record { taken = taken; is_folder = sound; out = out; emptied = emptied; records = records }
cleared_by task was_read memory first second before between after old taken new (Err fault) same le more sound out emptied cannot records =
    inr (record { taken = taken; out = out; why = empty_before task first second before between after taken new fault same le more cannot; records = records })
