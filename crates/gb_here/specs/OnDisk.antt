-- What a build of a folder on a disk does, whatever the disk returns.
use Rattle.std.specs.Prelude.{◌≡◌, ◌⊎◌, Result, Err, IfOk}
use Rattle.gb_answers.specs.Scratch.{LeavesFromScratch}
use Rattle.gb_build.specs.Invoking.{IsInvocation}
use Rattle.gb_cli.specs.Answered.{Answers, AreRefused, AskFor, Given}
use Rattle.gb_disk.specs.Called.{IsAsSupposed, calls_of, contents_of, disk_device, failures_of, may_leave_of}
use Rattle.gb_disk.specs.Called.{supposed_of}
use Rattle.gb_disk.specs.declared.disk.DiskFolder.{DiskFolder}
use Rattle.gb_folder.specs.Calls.{Requests, no_change}
use Rattle.gb_semantics.specs.declared.events.Invocation.{Invocation}
use Rattle.gb_registry.specs.Tables.{Tables}
use Rattle.gb_report.specs.declared.fault.Fault.{Fault}
use Rattle.gb_report.specs.declared.report.Report.{Report}

-- Whatever was supposed is not changed. If each call so far was answered as it would have been over the
-- supposed contents, the answer and the last contents are as promised of a folder with these contents.
pub record IsBuiltAsSupposed {R M N Z S A : Type 0} (tables : Tables M N Z S A) (given : Given)
    (answer : Result Report Fault) (old new : DiskFolder R) : Type 0 where
  pub supposed : supposed_of new ≡ supposed_of old
  pub promise : IsAsSupposed new → Answers tables (may_leave_of old) given
      (record { contents = contents_of old; failures = failures_of old })
      answer
      (record { contents = contents_of new; failures = failures_of new })

-- A build of a folder on a disk that was asked for no call before, with this answer. A call leads from one
-- state of the folder to the next one, in which the log has it, with what it returned (`is_next`).
-- The arguments are refused, and no change is requested. Or they request an invocation: the calls that it
-- made, and its answer by what they returned, are as they may be; and in any contents that answer these calls
-- and hold true records, a build in which no task failed leaves what a build from scratch makes, if no two
-- contents share a digest.
abbrev pub IsBuiltOnDisk : {R M N Z S A : Type 0} → Tables M N Z S A → Given → Result Report Fault
    → DiskFolder R → DiskFolder R → Type 0
IsBuiltOnDisk tables given answer old new =
    ((fault : Fault) × AreRefused given fault × (answer ≡ Err fault)
    × Requests disk_device no_change old new)
    ⊎ ((asked : Invocation) × AskFor given asked
    × IsInvocation disk_device tables asked answer old new
    × IfOk answer (λ report. LeavesFromScratch tables (may_leave_of old) asked report (calls_of new)))
