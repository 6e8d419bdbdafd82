-- Of any folder that keeps its calls: in contents that answer them, a build in which no task failed leaves
-- what a build from scratch makes.
use Rattle.std.specs.Prelude.{◌≡◌, ◌++◌, false, List, [], Ok}
use Rattle.sha2.specs.Sha256.{sha256}
use Rattle.gb_build.specs.InvocationAsked.{InvocationRequests}
use Rattle.gb_build.specs.Registering.{setting_of}
use Rattle.gb_folder.specs.Calls.{Call, Device}
use Rattle.gb_folder.specs.Files.{Contents, Tearing}
use Rattle.gb_semantics.specs.Events.{Setting, has_failure}
use Rattle.gb_semantics.specs.Every.{IsFromScratch}
use Rattle.gb_semantics.specs.Headline.{Agrees, HoldsMemory, contents_outside}
use Rattle.gb_semantics.specs.Kinds.{Kinds}
use Rattle.gb_semantics.specs.Memory.{Memory}
use Rattle.gb_semantics.specs.TrueRecord.{AreCollisionFree, contents_of}
use Rattle.gb_semantics.specs.declared.events.Invocation.{Invocation}
use Rattle.gb_registry.specs.Tables.{Tables}
use Rattle.gb_report.specs.declared.report.Report.{Report}
use Rattle.std.specs.List.{flat_map}
use Rattle.gb_logged.specs.Logged.{LogsCalls}
use Rattle.gb_answers.specs.Answering.{AnswersSoundly}

-- These contents answer the calls as they were answered, and the calls leave those at the end. The records
-- that the first contents hold are true, and no two contents of these share a digest.
pub record IsAnsweredBy (leaves : Tearing) (setting : Setting) (remembered : Memory) (calls : List Call)
    (start end : Contents) : Type 0 where
  pub answers : AnswersSoundly leaves start calls end
  pub holds : HoldsMemory setting start remembered
  pub separate : AreCollisionFree sha256
      (flat_map (λ entry. contents_of entry.1) remembered ++ contents_outside start ++ contents_outside end)

-- In these contents a build in which no task failed leaves what its unskipped tasks make from scratch on the
-- first ones.
abbrev pub AnsweredSuccessIsFromScratch : {F M N Z S A : Type 0} → Device F → Tables M N Z S A → Type 0
AnsweredSuccessIsFromScratch {F = F} device tables =
    (log : F → List Call) → LogsCalls device.allowed log
    → (kinds : Kinds) → Agrees tables.shapes tables.kinds kinds
    → (invocation : Invocation) (report : Report) (old new : F) (start end : Contents) (remembered : Memory)
    → log old ≡ []
    → IsAnsweredBy (device.may_leave old) (setting_of tables kinds (device.may_leave old)) remembered
    (log new) start end
    → InvocationRequests device tables invocation (Ok report) old new
    → has_failure report ≡ false
    → IsFromScratch (setting_of tables kinds (device.may_leave old)) start invocation report end

-- The same of one invocation on a folder that kept these calls of it, and none before: in any contents that
-- answer them and hold true records, they leave what is made from scratch, if no two contents share a digest.
abbrev pub LeavesFromScratch : {M N Z S A : Type 0} → Tables M N Z S A → Tearing → Invocation → Report
    → List Call → Type 0
LeavesFromScratch tables leaves invocation report calls =
    (kinds : Kinds) → Agrees tables.shapes tables.kinds kinds
    → (start end : Contents) (remembered : Memory)
    → IsAnsweredBy leaves (setting_of tables kinds leaves) remembered calls start end
    → has_failure report ≡ false
    → IsFromScratch (setting_of tables kinds leaves) start invocation report end
