-- A full execution that ends before its first action.
use Rattle.std.proofs.Common.{◌≡◌, ℕ, [], refl}
use Rattle.gb_folder.specs.Files.{Tearing}
use Rattle.gb_report.specs.declared.fault.Fault.{Fault}
use Rattle.gb_report.specs.declared.fault.Fault.TheVariants as faults
use Rattle.gb_run.specs.RunInput.{RunInput}
use Rattle.gb_run.specs.Failing.{Fails, InFull}
use Rattle.gb_run.proofs.RunStates.{fails_between}

-- memory ran out before it began
pub fails_early : (input : RunInput) (may_leave : Tearing) (before : ℕ) (fault : Fault) (after : ℕ) → fault ≡ faults.OutOfMemory → Fails input InFull may_leave before fault [] after input.rest
fails_early input may_leave before fault after is = fails_between input InFull [] input.task.actions refl refl may_leave before after fault [] input.rest is refl refl
