-- A run in progress, full or incremental, and how it fails.
use Rattle.std.specs.Prelude.{ℕ, ◌≡◌, ◌⊎◌, ◌++◌, true, List, [], ◌∷◌, None, Some, if◌then◌else◌}
use Rattle.std.specs.List.{list_any}
use Rattle.gb_folder.specs.Files.{Files, Tearing}
use Rattle.gb_report.specs.declared.fault.Fault.{Fault}
use Rattle.gb_plan.specs.Task.{Text}
use Rattle.gb_plan.specs.declared.task.Action.{Action}
use Rattle.gb_semantics.specs.Kinds.{kind_of}
use Rattle.gb_semantics.specs.Made.{put_over}
use Rattle.gb_run.specs.RunInput.{RunInput, files_at_hand, lines_by, run_along, whole_run}
use Rattle.gb_run.specs.Named.{put}
use Rattle.gb_run.specs.Stepping.{FailsByMachine}
use Rattle.gb_run.specs.Steps.{LeadTo, Step, after_steps}

-- the mode of a run: in full, from outputs without a file; or incremental, from these files
pub data RunMode : Type 0 where
  InFull : RunMode
  ByChanges : Files → RunMode

-- the folder after these actions have ended: the rest with what they made put over it; in an incremental
-- execution it is as it was, until one that writes has ended
abbrev pub ended_files : RunInput → RunMode → List Action → Files
ended_files input InFull done = put_over input.rest (run_along input done).held
ended_files input (ByChanges old) done =
    if list_any (λ action. input.kinds.writes (kind_of action)) done
    then put_over input.rest (run_along input done).held else old

-- The steps of the action at hand. In a full execution they put its files. In an incremental one they lead to
-- the folder with its files, if it writes and these have no fault within the task; else there are none.
abbrev pub AreAtHand : RunInput → RunMode → List Action → List Action → List Step → Type 0
AreAtHand input InFull done left steps =
    steps ≡ put (files_at_hand input (run_along input done).held left)
AreAtHand input (ByChanges old) done [] steps = steps ≡ []
AreAtHand input (ByChanges old) done (action ∷ later) steps =
    (steps ≡ [])
    ⊎ ((input.kinds.writes (kind_of action) ≡ true)
    × LeadTo (ended_files input (ByChanges old) done)
    (put_over input.rest
    (put_over (run_along input done).held
    (files_at_hand input (run_along input done).held (action ∷ later)))) steps)

-- A state of the run: these actions have ended, and some first steps of the next one are done.
pub record RunState (input : RunInput) (mode : RunMode) : Type 0 where
  pub done : List Action
  pub left : List Action
  pub all : input.task.actions ≡ done ++ left
  pub no_fault : (run_along input done).fault ≡ None
  pub prefix : List Step
  pub following : List Step
  pub at_hand : AreAtHand input mode done left (prefix ++ following)

-- the files of the folder at that state
abbrev pub files_then : (input : RunInput) (mode : RunMode) → RunState input mode → Files
files_then input mode state = after_steps (ended_files input mode state.done) state.prefix

-- The run itself ends here, with this fault.
pub record FailsByItself (input : RunInput) (mode : RunMode) (state : RunState input mode) (fault : Fault)
    (new : Files) : Type 0 where
  pub faulty : (whole_run input).fault ≡ Some fault
  pub done : (whole_run input).done ≡ state.done
  pub files : new ≡ files_then input mode state

-- The run failed at some state, by itself or by the machine: the lines are those of the actions that had
-- ended.
pub record Fails (input : RunInput) (mode : RunMode) (may_leave : Tearing) (before : ℕ) (fault : Fault)
    (lines : List Text) (after : ℕ) (new : Files) : Type 0 where
  pub state : RunState input mode
  pub printed : lines ≡ lines_by input state.done
  pub why : FailsByItself input mode state fault new
      ⊎ FailsByMachine may_leave before (files_then input mode state) state.following fault after new
