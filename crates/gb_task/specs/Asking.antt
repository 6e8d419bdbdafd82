-- What an execution reads before it changes anything, over any folder.
use Rattle.std.specs.Prelude.{◌≡◌, ◌⊎◌, List, map, Option}
use Rattle.gb_action.specs.Files.{Trees}
use Rattle.gb_action.specs.Meanings.{Meanings}
use Rattle.gb_folder.specs.Calls.{Requests, no_change, Device}
use Rattle.gb_history.specs.Record.{Record}
use Rattle.gb_label.specs.Answered.{WasSourceless}
use Rattle.gb_label.specs.ReadingAnswered.{AreInputsRead}
use Rattle.gb_plan.specs.Ready.{Rows}
use Rattle.gb_plan.specs.Task.{Text, given_files}
use Rattle.gb_plan.specs.declared.task.TaskDeclaration.{TaskDeclaration as Task}
use Rattle.gb_report.specs.declared.report.Options.{Options}
use Rattle.gb_report.specs.declared.report.Outcome.{Outcome}
use Rattle.gb_task.specs.ByOutcome.{ExecutionRequests}

-- Calls returned what the execution is based on, on the way from a state of the folder, without a change: the
-- whole trees of its inputs; or that it has no source.
abbrev pub HasRead : {F : Type 0} → Device F → F → Task → Type 0
HasRead {F = F} device old task =
    ((trees : Trees) × (read : F) × AreInputsRead device old read task trees
    × (map (λ tree. tree.0) trees ≡ given_files task.files))
    ⊎ ((read : F) × WasSourceless device old read task)

-- an execution for which calls did not return what it is based on requests no change
abbrev pub UnreadExecutionsKeep : {F S : Type 0} → Device F
    → Meanings S → Type 0
UnreadExecutionsKeep {F = F} {S = S} device meanings =
    (rows : Rows S) (options : Options) (task : Task) (last : Option Record) (outcome : Outcome)
    (lines : List Text) (since old new : F) → ¬ HasRead device old task
    → ExecutionRequests device meanings rows options task last outcome lines since old new
    → Requests device no_change old new
