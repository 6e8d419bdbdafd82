-- What one invocation does: over any folder, and where the contents of the folder are known.
use Rattle.std.specs.Prelude.{◌≡◌, List, ◌∷◌, [], true, Result, IfErr, IsTrue, OnErr}
use Rattle.gb_folder.specs.Calls.{Call, Device}
use Rattle.gb_folder.specs.Device.{Leads}
use Rattle.gb_folder.specs.Files.{Place, Tearing}
use Rattle.gb_semantics.specs.Edits.{Shown}
use Rattle.gb_semantics.specs.Events.{IsNotBuilt, is_read_first}
use Rattle.gb_semantics.specs.Every.{PromiseHolds}
use Rattle.gb_semantics.specs.Headline.{EventKeeps, HasFailed, InvocationHolds, answer_of, times_attributed}
use Rattle.gb_semantics.specs.Kinds.{Kinds}
use Rattle.gb_semantics.specs.declared.events.Event.TheVariants as events
use Rattle.gb_semantics.specs.declared.events.Invocation.{Invocation}
use Rattle.gb_records.specs.Assumed.{IsAssumed}
use Rattle.gb_registry.specs.Tables.{Tables}
use Rattle.gb_report.specs.declared.fault.Fault.{Fault}
use Rattle.gb_report.specs.declared.fault.Fault.TheVariants as faults
use Rattle.gb_report.specs.declared.report.Report.{Report}
use Rattle.gb_build.specs.InvocationAsked.{InvocationRequests}
use Rattle.gb_build.specs.Leading.{IsTransition}
use Rattle.gb_build.specs.Registering.{registers_in, setting_of}

-- Over any folder: the calls of an invocation, and what its answer may be.
pub record IsInvocation {F M N Z S A : Type 0} (device : Device F) (tables : Tables M N Z S A)
    (invocation : Invocation) (answer : Result Report Fault) (old new : F) : Type 0 where
  -- The report is that of a plan of what was requested of the scripts that calls returned: which of its tasks
  -- start, and which outcomes each may have, is as `Outlines` says. A write or a removal is requested only at
  -- or under an output of a task of this plan or at the record of one, and the text of such a record is that
  -- of a run of the task. A refused build and a dry run request none.
  pub requests : InvocationRequests device tables invocation answer old new
  -- These are a list of calls, with their answers, which lead from the folder before to the folder after. So
  -- the count of failures does not fall, what a stopped call may leave stays the same, and contents that are
  -- known at the end were known at the beginning (`calls_keep`).
  pub calls : (calls : List Call) × Leads device old calls new
  -- A refusal that is attributed to the device (10) names a place that may be read before the first task:
  -- `settings.gb`, one whose last segment is `build.gb`, or, except in a dry run, one in `.gb`.
  pub places : IfErr answer (λ fault. (place : Place) → fault ≡ faults.Device place
      → IsTrue (is_read_first invocation.options place))
  -- Faults are attributed to the device no more often than it failed, as long as the folder's count of
  -- failures is below 2^64 - 1, the last value that it can have.
  pub blame : HasFailed (times_attributed (answer_of answer)) (device.failures old) (device.failures new)

-- Where contents are known: the promise. Only the last three need an assumption, about the kinds and the
-- device.
pub record KeepsPromise {M F Z S A : Type 0} (tables : Tables M F Z S A) (may_leave : Tearing)
    (invocation : Invocation) (old : Shown) (answer : Result Report Fault) (new : Shown) : Type 0 where
  -- A build is refused only for the first fault of the scripts, the requested names or the plan, for want of
  -- memory (3), or because the device failed while scripts or records were read (10). Then nothing changes.
  pub not_built : IfErr answer (λ fault.
      IsNotBuilt (registers_in tables) old invocation fault new.failures)
  pub refused : OnErr answer (new.contents ≡ old.contents)
  -- a dry run changes nothing
  pub dry : invocation.options.dry_run ≡ true → new.contents ≡ old.contents
  -- nothing changes but `.gb` and the build folders of the projects
  pub keeps : EventKeeps (registers_in tables) (events.Invoke invocation) (answer_of answer) old.contents
      new.contents
  -- it continues any list of events that has led to the old state, whatever is remembered of that
  pub continues : (kinds : Kinds) → IsAssumed tables.shapes tables.kinds kinds may_leave
      → IsTransition (setting_of tables kinds may_leave) old (events.Invoke invocation) (answer_of answer) new
  -- from any true records that the folder holds, it is a run of one event by the definitions
  pub holds : (kinds : Kinds) → IsAssumed tables.shapes tables.kinds kinds may_leave
      → InvocationHolds (setting_of tables kinds may_leave) old invocation answer new
  -- So, if no two contents share a digest, it is a step of the definition, and a build in which no task
  -- failed leaves outside `.gb` what a build from scratch makes, whichever true records it starts from.
  pub promise : (kinds : Kinds) → IsAssumed tables.shapes tables.kinds kinds may_leave
      → PromiseHolds (setting_of tables kinds may_leave) old (events.Invoke invocation ∷ [])
      (answer_of answer ∷ []) new
