-- Calls of a folder, and what a type of folders declares about itself.
use Rattle.std.specs.Prelude.{ℕ, List, Option, Result, Ok, Err}
use Rattle.std.specs.Global.{Global}
use Rattle.std.specs.Result.{result_err}
use Rattle.std.specs.declared.vec.Vec.{Vec}
use Rattle.gb_folder.specs.Files.{Place, Bytes, Contents, Tearing}
use Rattle.gb_folder.specs.declared.folder.FolderFault.{FolderFault}

-- a call of a folder, with its answer
pub data Call : Type 0 where
  Lists : (root : Place) (answer : Result (List Place) FolderFault) → Call
  Reads : (place : Place) (limit : ℕ) (answer : Result Bytes FolderFault) → Call
  ReadsPart : (place : Place) (at len : ℕ) (answer : Result Bytes FolderFault) → Call
  Writes : (place : Place) (bytes : Bytes) (limit : ℕ) (answer : Result (Unit {0}) FolderFault) → Call
  Removes : (place : Place) (answer : Result (Unit {0}) FolderFault) → Call

-- the answer of a call that returns a vector, as a list
abbrev pub answered : {T : Type 0} → Result (Vec T Global) FolderFault → Result (List T) FolderFault
answered (Ok row) = Ok row.items
answered (Err fault) = Err fault

-- the returned fault, if there is one
abbrev pub fault_of : Call → Option FolderFault
fault_of (Lists root answer) = result_err answer
fault_of (Reads place limit answer) = result_err answer
fault_of (ReadsPart place at len answer) = result_err answer
fault_of (Writes place bytes limit answer) = result_err answer
fault_of (Removes place answer) = result_err answer

-- What a type of folders declares about itself: how often the device failed, what a stopped call may leave,
-- which call may lead from one state to another, in which states the contents are known, and these contents.
pub record Device (F : Type 0) : Type 1 where
  pub failures : F → ℕ
  pub may_leave : F → Tearing
  pub allowed : F → Call → F → Type 0
  pub faithful : F → Type 0
  pub contents : F → Contents
