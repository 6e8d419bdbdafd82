-- What is remembered of files that were read, when a task's execution is decided.
use Rattle.std.specs.Prelude.{◌≡◌, ◌++◌, Bool, false, [], List, Result, Ok}
use Rattle.gb_folder.specs.Calls.{Requests, no_change, Device}
use Rattle.gb_history.specs.declared.decide.Decision.TheVariants as decisions
use Rattle.gb_label.specs.declared.prepare.Prepared.{Prepared}
use Rattle.gb_label.specs.declared.prepare.Prepared.TheVariants as prepared
use Rattle.gb_report.specs.declared.fault.Fault.{Fault}
use Rattle.gb_tree.specs.DigestCache.{AreCached, CachedFile, seen_in}
use Rattle.gb_task.specs.ByOutcome.{since_after}
use Rattle.gb_task.specs.declared.before_changes.Settled.{Settled}
use Rattle.gb_task.specs.declared.before_changes.Settled.TheVariants as settled

-- What is remembered after an execution was prepared: what was before, where no change follows, with the
-- outputs of what is up to date; or else nothing.
abbrev pub cached_by : Result Prepared Fault → Bool → List CachedFile → List CachedFile
cached_by (Ok prepared.Skips) need seen = seen
cached_by (Ok prepared.HasNoActions) false seen = seen
cached_by (Ok (prepared.Decided decisions.UpToDate basis observed)) need seen =
    seen ++ seen_in observed.outputs.items
cached_by found need seen = []

-- What is remembered after a report was read since the last change, as before the execution. Where the
-- execution goes on, nothing is remembered.
abbrev pub Remembers : {F : Type 0} → Device F → F → F
    → List CachedFile → List CachedFile → Settled → Type 0
Remembers device old new before seen (settled.Reported report) =
    (since : _) → Requests device no_change since old
    → AreCached device since old before
    → AreCached device (since_after report.outcome since new) new seen
Remembers device old new before seen result = seen ≡ []
