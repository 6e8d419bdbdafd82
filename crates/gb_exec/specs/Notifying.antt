-- How a call changes the notifications that listeners have got.
use Rattle.std.specs.Prelude.{ℕ, ◌≡◌, ◌↔◌, Bool, true, not, ◌&&◌, List, ◌++◌, Option, None, Some}
use Rattle.std.specs.List.{AllZip}
use Rattle.std.specs.Borrow.{Bor}
use Rattle.gb_semantics.specs.Execution.{heard_of}
use Rattle.gb_semantics.specs.Headline.{Ear, HaveHeard, HearsAll, HearsSome, counted}
use Rattle.gb_report.specs.declared.report.Heard.{Heard}
use Rattle.gb_report.specs.declared.report.Heard.TheVariants as heard
use Rattle.gb_report.specs.declared.report.Report.{Report}
use Rattle.gb_report.specs.declared.report.Outcome.{Outcome}

-- the notification of a task: that its execution begins, or with which outcome it ended
abbrev pub reported_of : List ℕ → Option (Bor Outcome) → Heard
reported_of task None = heard.Start task
reported_of task (Some outcome) = heard.End task outcome.now

-- the listener has refused the notification: it counts one refusal more, and has got no further notification
abbrev pub Refuses : Ear → Ear → Type 0
Refuses old new = new ≡ (old.0, counted old.1 1)

-- All listeners were notified; and the result is whether each has accepted all of it.
pub record AllReported (reported : List Heard) (all_heard : Bool) (old new : List Ear) : Type 0 where
  pub each : AllZip (HearsSome reported) old new
  pub whole : (all_heard ≡ true) ↔ AllZip (HearsAll reported) old new

-- ---- The result of many notifications

-- If listeners were notified of some things and then of others, they were notified of all of them.
abbrev pub ReportedMore : Type 0
ReportedMore =
    (first later : List Heard) (all_first all_later : Bool) (old mid new : List Ear)
    → AllReported first all_first old mid
    → AllReported later all_later mid new → AllReported (first ++ later) (all_first && all_later) old new

-- Listeners that were notified of each started task of a report were notified of the build.
abbrev pub ReportedIsHeard : Type 0
ReportedIsHeard =
    (report : Report) (all_heard : Bool) (old new : List Ear) → report.listener_refused ≡ not all_heard
    → AllReported (heard_of report.dry_run report.tasks) all_heard old new → HaveHeard report old new
