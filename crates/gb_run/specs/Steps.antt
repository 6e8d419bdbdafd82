-- Changes of places, one after another: a file is put somewhere, or removed.
use Rattle.std.specs.Prelude.{◌≡◌, ◌≢◌, ◌⊎◌, ◌++◌, ◌&&◌, not, List, Option, None, is_some}
use Rattle.std.specs.List.{AllByRecursion, filter, fold}
use Rattle.std.specs.FinMap.Entries.{put}
use Rattle.gb_core.specs.Lists.{byte_order}
use Rattle.gb_core.specs.Place.{is_place}
use Rattle.gb_folder.specs.Files.{Place, Bytes, Contents, Files, file_at, with_left}

-- a place, with what is to be there: a file, or none
abbrev pub Step : Type 0
Step = Place × Option Bytes

-- the files once these steps are done, one after another
abbrev pub after_steps : Files → List Step → Files
after_steps files steps = fold (λ m step. with_left m step.0 step.1) files steps

-- the folder then
abbrev pub folder_after : Contents → List Step → Contents
folder_after folder steps = record folder { files = after_steps folder.files steps }

-- steps put over others: of two at one place the later counts
abbrev pub put_steps : List Step → List Step → List Step
put_steps held steps = fold (λ m step. put byte_order step.0 step.1 m) held steps

-- The order in which steps are done: removals before writes. A path that is no place has no file to remove.
abbrev pub in_step_order : List Step → List Step
in_step_order steps =
    filter (λ step. is_place step.0 && not (is_some step.1)) steps
    ++ filter (λ step. is_place step.0 && is_some step.1) steps

-- Each step is at a place where the two differ. It removes a file, or puts the one that is to be there. All
-- of them lead from the old files to the new ones.
pub record LeadTo (old new : Files) (steps : List Step) : Type 0 where
  pub needed : AllByRecursion (λ step. file_at old step.0 ≢ file_at new step.0) steps
  pub meant : AllByRecursion (λ step. (step.1 ≡ None) ⊎ (step.1 ≡ file_at new step.0)) steps
  pub reached : after_steps old steps ≡ new
