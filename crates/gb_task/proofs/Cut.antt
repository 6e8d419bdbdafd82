-- A run that ended well, and could not be reported since memory ran out.
use Rattle.std.specs.Prelude.{ℕ, ◌≡◌, [], ◌∷◌, List, if◌then◌else◌}
use Rattle.std.specs.List.{list_any}
use Rattle.std.proofs.Common.{refl, sym, ap, ◌∙◌}
use Rattle.gb_folder.specs.Files.{Files, Tearing}
use Rattle.gb_semantics.specs.Kinds.{Kinds, kind_of}
use Rattle.gb_semantics.specs.Made.{put_over}
use Rattle.gb_plan.specs.Task.{Text}
use Rattle.gb_plan.specs.declared.task.Action.{Action}
use Rattle.gb_report.specs.declared.fault.Fault.TheVariants as faults
use Rattle.gb_run.specs.AskingChanges.{writers}
use Rattle.gb_run.specs.RunInput.{RunInput, EndsWell, whole_run}
use Rattle.gb_run.specs.Failing.{ByChanges, Fails, RunMode, ended_files}
use Rattle.gb_run.proofs.Endings.{with_none}
use Rattle.gb_run.proofs.Further.{some_writes}
use Rattle.gb_run.proofs.RunStates.{fails_between}

pub cut_at_end : (input : RunInput) (mode : RunMode) (may_leave : Tearing) (before after : ℕ) (lines : List Text) (new : Files) → EndsWell input lines new
    → ended_files input mode input.task.actions ≡ put_over input.rest (whole_run input).held → Fails input mode may_leave before faults.OutOfMemory lines after new
cut_at_end input mode may_leave before after lines new well exists =
    fails_between input mode input.task.actions [] (sym (with_none input.task.actions)) well.no_fault may_leave before after faults.OutOfMemory lines new refl well.printed (well.files ∙ sym exists)

-- one action writes, and the files that it found have given way
pub cut_by_changes : (kinds : Kinds) (input : RunInput) (old : Files) (may_leave : Tearing) (before after : ℕ) (lines : List Text) (new : Files) → kinds ≡ input.kinds
    → (writer : Action) → writers kinds input.task.actions ≡ writer ∷ [] → EndsWell input lines new → Fails input (ByChanges old) may_leave before faults.OutOfMemory lines after new
cut_by_changes kinds input old may_leave before after lines new same writer one well =
    cut_at_end input (ByChanges old) may_leave before after lines new well
    (ap (λ b. if b then put_over input.rest (whole_run input).held else old) (ap (λ (k : Kinds). list_any (λ (a : Action). k.writes (kind_of a)) input.task.actions) (sym same)
    ∙ some_writes kinds input.task.actions writer [] one))
