-- One action of a run, and how it stops.
use Rattle.std.specs.Prelude.{ℕ, ◌≡◌, List, Result, IsTrue}
use Rattle.std.specs.FinMap.Entries.{is_sorted}
use Rattle.gb_core.specs.Lists.{byte_order}
use Rattle.gb_folder.specs.Files.{Files, Tearing}
use Rattle.gb_report.specs.declared.fault.Fault.{Fault}
use Rattle.gb_action.specs.declared.reply.Written.{Written}
use Rattle.gb_tree.specs.Prints.{digests_of}
use Rattle.gb_plan.specs.Task.{Text}
use Rattle.gb_plan.specs.declared.task.Output.{Output}
use Rattle.gb_semantics.specs.Made.{put_over}
use Rattle.gb_semantics.specs.Run.{step_by}
use Rattle.gb_run.specs.RunInput.{free_files}
use Rattle.gb_run.specs.Named.{put}
use Rattle.gb_run.specs.Placing.{blank}
use Rattle.gb_run.specs.Stepping.{StopsAt}

-- The folder is the rest with the task's files put over it, and the places of these are taken.
pub record IsHeld (rest held taken folder : Files) : Type 0 where
  pub rest_in_order : IsTrue (is_sorted byte_order rest)
  pub in_order : IsTrue (is_sorted byte_order held)
  pub places : taken ≡ blank held
  pub files : folder ≡ put_over rest held

-- The places of the task's files are taken, and these are their digests.
pub record IsKept (held taken digests : Files) : Type 0 where
  pub in_order : IsTrue (is_sorted byte_order held)
  pub places : taken ≡ blank held
  pub prints : digests ≡ digests_of held

-- An action stops, by itself or by the machine. Of its files by place a prefix exists.
abbrev pub StopsIn : List Output → Files → Files → Result (List Written) Text → Tearing → ℕ → Fault → ℕ
    → Files → Type 0
StopsIn outputs rest held made may_leave before fault after new =
    StopsAt (λ steps. steps ≡ put (free_files outputs held made)) (step_by outputs rest held made) may_leave
    before (put_over rest held) fault after new
