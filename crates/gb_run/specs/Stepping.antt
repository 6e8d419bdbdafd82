-- Steps done one after another, and what is left if that is cut short.
use Rattle.std.specs.Prelude.{ℕ, ◌≡◌, ◌≤◌, ◌⊎◌, ◌++◌, true, false, List, [], ◌∷◌, Option, Some, None, Result}
use Rattle.std.specs.Prelude.{Err, is_some, length, ⊤}
use Rattle.gb_folder.specs.Files.{Bytes, Contents, Files, HasRisen, Tearing, file_at, is_blocked, with_left}
use Rattle.gb_folder.specs.Limits.{max_file}
use Rattle.gb_report.specs.declared.fault.Fault.{Fault}
use Rattle.gb_report.specs.declared.fault.Fault.TheVariants as faults
use Rattle.gb_folder.specs.Changes.{IsHindered}
use Rattle.gb_run.specs.Steps.{Step, after_steps, folder_after}

-- a file that is put is not too large
abbrev pub IsSmall : Step → Type 0
IsSmall (place, None) = ⊤
IsSmall (place, Some bytes) = length bytes ≤ max_file

-- no file is in the way of one that is put
abbrev pub IsFree : Files → Step → Type 0
IsFree files (place, None) = ⊤
IsFree files (place, Some bytes) = is_blocked files place ≡ false

-- the same at each step, after those before it are done
abbrev pub HasRoom : Files → List Step → Type 0
HasRoom files [] = ⊤
HasRoom files (step ∷ steps) = IsFree files step × HasRoom (with_left files step.0 step.1) steps

-- Another file is in the way of the one that is put, and nothing changed.
pub record IsShutOut (step : Step) (old : Contents) (fault : Fault) (new : Contents) : Type 0 where
  pub comes : is_some step.1 ≡ true
  pub blocked : is_blocked old.files step.0 ≡ true
  pub reported : fault ≡ faults.Blocked step.0
  pub same : new ≡ old

-- The steps were cut short: some first ones are done, and the next was shut out, or stopped by the machine.
pub record IsCutShort (may_leave : Tearing) (steps : List Step) (old : Contents) (fault : Fault)
    (new : Contents) : Type 0 where
  pub prefix : List Step
  pub step : Step
  pub following : List Step
  pub all : steps ≡ prefix ++ step ∷ following
  pub room : HasRoom old.files prefix
  pub stopped : IsShutOut step (folder_after old prefix) fault new
      ⊎ IsHindered may_leave step.0 step.1 (folder_after old prefix) fault new

-- ---- Where a run fails

-- The device stopped the first of these steps. At its place is what the device may leave.
pub record IsStopped (may_leave : Tearing) (before : ℕ) (old : Files) (following : List Step) (fault : Fault)
    (after : ℕ) (new : Files) : Type 0 where
  pub step : Step
  pub later : List Step
  pub next : following ≡ step ∷ later
  pub device : fault ≡ faults.Device step.0
  pub risen : HasRisen before after
  pub left : Option Bytes
  pub may : may_leave step.0 (file_at old step.0) step.1 left
  pub files : new ≡ with_left old step.0 left

-- The machine ends a run before these steps: memory ran out, or the device stopped the first of them.
abbrev pub FailsByMachine : Tearing → ℕ → Files → List Step → Fault → ℕ → Files → Type 0
FailsByMachine may_leave before old following fault after new =
    ((fault ≡ faults.OutOfMemory) × (new ≡ old)) ⊎ IsStopped may_leave before old following fault after new

-- An action stops over these files, by itself, if this is its result, or by the machine: some first steps of
-- it are done.
pub record StopsAt (AreSteps : List Step → Type 0) (comes_to : Result Files Fault) (may_leave : Tearing)
    (before : ℕ) (old : Files) (fault : Fault) (after : ℕ) (new : Files) : Type 0 where
  pub prefix : List Step
  pub following : List Step
  pub at_hand : AreSteps (prefix ++ following)
  pub why : ((comes_to ≡ Err fault) × (new ≡ after_steps old prefix))
      ⊎ FailsByMachine may_leave before (after_steps old prefix) following fault after new
