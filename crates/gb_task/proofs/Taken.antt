-- What holds of a folder after a task's record is deleted from it held before.
use Rattle.std.specs.Prelude.{◌≡◌, ◌⊎◌, true, false, cond, Option, None, Some}
use Rattle.std.specs.List.{list_any}
use Rattle.std.proofs.Common.{sym, ap, subst, ◌∙◌, inl, inr}
use Rattle.gb_folder.specs.Files.{Place, Bytes, Contents, Files, file_at, is_own}
use Rattle.gb_folder.proofs.Changes.{file_at-files_where}
use Rattle.gb_history.specs.Places.{record_place}
use Rattle.gb_semantics.specs.Events.{IsTornInRun, Setting, ExistsInRun}
use Rattle.gb_semantics.specs.Execution.{IsWritten}
use Rattle.gb_plan.specs.Task.{is_output_of}
use Rattle.gb_plan.specs.declared.task.Output.{Output}
use Rattle.gb_plan.specs.declared.task.TaskDeclaration.{TaskDeclaration as Task}
use Rattle.gb_folder.specs.Changes.{ChangesOnly, is_at}
use Rattle.gb_task.proofs.Beside.{exists_outside, torn_outside, written_outside}
use Rattle.gb_task.proofs.Outside.{kept}
use Rattle.gb_task.proofs.Own.{is_kept, kept_at}
use Rattle.gb_task.proofs.Parts.{outside_same}

-- what is found at the outputs is none of the tool's own
pub found_at : (task : Task) → list_any (λ (o : Output). is_own o.place) task.outputs ≡ false → (files : Files) (place : Place) → is_output_of task place ≡ true
    → file_at (kept files) place ≡ file_at files place
found_at task out files place at = file_at-files_where files is_kept place ∙ ap (λ b. cond b (file_at files place) None) (kept_at task.outputs out place at)

pub taken_kept : (task : Task) (old taken : Contents) → ChangesOnly (is_at (record_place task.path)) old taken → kept taken.files ≡ kept old.files
taken_kept task old taken changed = ap (λ (c : Contents). c.files) (outside_same task.path old taken changed)

module _ (setting : Setting) (task : Task) (out : list_any (λ (o : Output). is_own o.place) task.outputs ≡ false) (old taken : Contents) (changed : ChangesOnly (is_at (record_place task.path)) old taken) where
  files_kept : kept taken.files ≡ kept old.files
  files_kept = taken_kept task old taken changed

  -- what was at an output
  pub taken_existed : (place : Place) (bytes : Bytes) → is_output_of task place ≡ true → file_at taken.files place ≡ Some bytes → file_at (kept old.files) place ≡ Some bytes
  taken_existed place bytes at e = ap (λ (fs : Files). file_at fs place) (sym files_kept) ∙ found_at task out taken.files place at ∙ e

  pub taken_written : (place : Place) (bytes : Bytes) → IsWritten setting.kinds task taken.files place bytes → IsWritten setting.kinds task (kept old.files) place bytes
  taken_written place bytes w = subst (λ (fs : Files). IsWritten setting.kinds task fs place bytes) files_kept (written_outside setting.kinds task out taken.files place bytes w)

  pub taken_left : (new : Files) (place : Place) → is_output_of task place ≡ true
      → ExistsInRun setting.kinds task taken.files place (file_at new place) ⊎ IsTornInRun setting task taken.files place (file_at new place)
      → ExistsInRun setting.kinds task (kept old.files) place (file_at (kept new) place) ⊎ IsTornInRun setting task (kept old.files) place (file_at (kept new) place)
  taken_left new place at (inl exists) = inl
      (subst (λ (o : Option Bytes). ExistsInRun setting.kinds task (kept old.files) place o) (sym (found_at task out new place at))
      (subst (λ (fs : Files). ExistsInRun setting.kinds task fs place (file_at new place)) files_kept (exists_outside setting task out taken.files place at (file_at new place) exists)))
  taken_left new place at (inr torn) = inr
      (subst (λ (o : Option Bytes). IsTornInRun setting task (kept old.files) place o) (sym (found_at task out new place at))
      (subst (λ (fs : Files). IsTornInRun setting task fs place (file_at new place)) files_kept (torn_outside setting task out taken.files place at (file_at new place) torn)))
