-- The run of a task's actions, one after another, in the rest of the folder.
use Rattle.std.specs.Prelude.{◌≡◌, ◌++◌, false, List, [], ◌∷◌, map, Option, Some, None, Result, Ok, Err}
use Rattle.std.specs.List.{fold, list_any}
use Rattle.gb_report.specs.declared.fault.Fault.{Fault}
use Rattle.gb_report.specs.declared.fault.Fault.TheVariants as faults
use Rattle.gb_folder.specs.Files.{Place, Bytes, Files, is_blocked}
use Rattle.gb_plan.specs.Task.{Text}
use Rattle.gb_action.specs.Meanings.{Values}
use Rattle.gb_plan.specs.declared.task.Action.{Action}
use Rattle.gb_plan.specs.declared.task.Output.{Output}
use Rattle.gb_action.specs.Files.{Trees}
use Rattle.gb_semantics.specs.Kinds.{Kinds, kind_of}
use Rattle.gb_action.specs.declared.reply.Written.{Written}
use Rattle.gb_semantics.specs.Made.{act, blocked_in, placed, put_over, step_faults}

-- How far the actions went: the task's files so far, the actions that ended, and what ended the run before
-- its end.
pub record Ended : Type 0 where
  pub held : Files
  pub done : List Action
  pub fault : Option Fault

-- the faults of an action's files: among the task's own, then in the folder
abbrev pub hindrances : List Output → Files → Files → List (Place × Bytes) → List Fault
hindrances outputs rest held files =
    step_faults outputs held files ++ map faults.Blocked (blocked_in rest (put_over [] files))

abbrev pub unless_hindered : List Fault → Files → Result Files Fault
unless_hindered [] files = Ok files
unless_hindered (fault ∷ more) files = Err fault

abbrev pub step_by : List Output → Files → Files → Result (List Written) Text → Result Files Fault
step_by outputs rest held (Err text) = Err (faults.ActionFailed text)
step_by outputs rest held (Ok written) =
    unless_hindered (hindrances outputs rest held (placed outputs written))
    (put_over held (placed outputs written))

abbrev pub with_done : Action → Ended → Ended
with_done action ended = record { held = ended.held; done = action ∷ ended.done; fault = ended.fault }

abbrev pub or_end : Action → Files → Result Files Fault → (Files → Ended) → Ended
or_end action held (Ok more) next = with_done action (next more)
or_end action held (Err fault) next = record { held = held; done = []; fault = Some fault }

abbrev pub ends : Kinds → List Output → Values → Trees → Files → Files → List Action → Ended
ends kinds outputs values trees rest held [] = record { held = held; done = []; fault = None }
ends kinds outputs values trees rest held (action ∷ actions) =
    or_end action held (step_by outputs rest held (kinds.makes (kind_of action) action.args values trees))
    (λ more. ends kinds outputs values trees rest more actions)

-- no file of these is blocked by the rest of the folder
abbrev pub has_room : Files → Files → Type 0
has_room rest files = list_any (λ file. is_blocked rest file.0) files ≡ false

-- a run that reached its end made what the actions make by themselves, and the folder has room for it
abbrev pub EndedIsMade : Type 0
EndedIsMade =
    (kinds : Kinds) (outputs : List Output) (values : Values) (trees : Trees) (rest held : Files)
    (actions : List Action)
    → has_room rest held → (ends kinds outputs values trees rest held actions).fault ≡ None
    → (fold (act kinds outputs values trees) (Ok held) actions
    ≡ Ok (ends kinds outputs values trees rest held actions).held)
    × has_room rest (ends kinds outputs values trees rest held actions).held
    × ((ends kinds outputs values trees rest held actions).done ≡ actions)
