-- The calls of a build, over any folder, and what it reports by the answers: task after task.
use Rattle.std.specs.Prelude.{◌≡◌, List, [], ◌∷◌, Option}
use Rattle.gb_action.specs.Meanings.{Meanings}
use Rattle.gb_history.specs.Record.{Record}
use Rattle.gb_plan.specs.Ready.{Rows}
use Rattle.gb_plan.specs.declared.plan.Planned.{Planned}
use Rattle.gb_report.specs.declared.report.Options.{Options}
use Rattle.gb_report.specs.declared.report.TaskReport.{TaskReport}
use Rattle.gb_task.specs.ByOutcome.{ExecutionRequests, since_after}
use Rattle.gb_folder.specs.Calls.{Device}

module _ {F S : Type 0} (device : Device F)
    (meanings : Meanings S) (rows : Rows S) (options : Options) where
  -- The executions of the tasks of a plan, one after another, each from the state in which the one before it
  -- ended: for each task the record that was read of it, and its report. The first of the three states is
  -- that of the last change: what is up to date was found so on what calls returned since then.
  abbrev pub ExecutionsRequest : List Planned → List (Option Record) → List TaskReport → F → F → F → Type 0
  ExecutionsRequest [] [] [] since old new = new ≡ old
  ExecutionsRequest (planned ∷ plan) (last ∷ records) (report ∷ reports) since old new =
      (mid : F)
      × ExecutionRequests device meanings rows options planned.task last report.outcome
      report.lines since old mid
      × ExecutionsRequest plan records reports (since_after report.outcome since mid) mid new
  ExecutionsRequest plan records reports since old new = ⊥
