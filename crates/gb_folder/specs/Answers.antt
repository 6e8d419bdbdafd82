-- Answers of calls that were made between two states of a folder, over any folder.
use Rattle.std.specs.Prelude.{List, Ok}
use Rattle.gb_folder.specs.Calls.{Device, Requests, Call, Lists, Reads, no_change}
use Rattle.gb_folder.specs.Device.{IsCalled}
use Rattle.gb_folder.specs.Files.{Bytes, Place}
use Rattle.gb_folder.specs.Limits.{max_file}

-- The call was made between the two states of the folder, and no change was requested between them.
pub record IsOnWay {F : Type 0} (device : Device F) (call : Call) (old new : F) : Type 0 where
  pub before : F
  pub after : F
  pub first : Requests device no_change old before
  pub is : IsCalled device before call after
  pub rest : Requests device no_change after new

-- the bytes were returned as those of the file at the place, in one call that reads any file
abbrev pub WereRead : {F : Type 0} → Device F → F → F → Place → Bytes → Type 0
WereRead device old new place bytes = IsOnWay device (Reads place max_file (Ok bytes)) old new

-- these places were returned as all those at or under the root
abbrev pub WereListed : {F : Type 0} → Device F → F → F → Place → List Place → Type 0
WereListed device old new root places = IsOnWay device (Lists root (Ok places)) old new
