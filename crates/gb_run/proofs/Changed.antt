-- Calls that change files only where a test holds change nothing elsewhere.
use Rattle.std.specs.Prelude.{Bool, List, [], ◌∷◌, Ok, Err}
use Rattle.std.specs.List.{AllByRecursion}
use Rattle.gb_folder.specs.Calls.{Call, IsPermitted, Lists, Reads, ReadsPart, Removes, Writes, changes_at}
use Rattle.gb_folder.specs.Files.{Contents, Place, Tearing}
use Rattle.gb_folder.specs.Semantics.{Answers, AnswersAll}
use Rattle.gb_folder.specs.declared.folder.FolderFault.TheVariants as folders
use Rattle.gb_folder.specs.Changes.{ChangesOnly}
use Rattle.gb_folder.proofs.Machine.{changes_chain, changes_left, changes_none, changes_with, changes_without}

module _ (test : Place → Bool) (may_leave : Tearing) where
  changes_once : (old new : Contents) (call : Call) → IsPermitted (changes_at test) call → Answers may_leave old call new → ChangesOnly test old new
  unfolding changes_at
  changes_once old new (Lists root answer) may is = changes_none test old new is.1
  changes_once old new (Reads place limit answer) may is = changes_none test old new is.1
  changes_once old new (ReadsPart place at len answer) may is = changes_none test old new is.1
  changes_once old new (Writes place bytes limit (Ok done)) may is = changes_with test old new place bytes is.2 may
  changes_once old new (Writes place bytes limit (Err folders.OutOfMemory)) may is = changes_none test old new is
  changes_once old new (Writes place bytes limit (Err folders.Device)) may is = changes_left test old new place is.0 is.2 may
  changes_once old new (Writes place bytes limit (Err folders.Missing)) may is = absurd is
  changes_once old new (Writes place bytes limit (Err folders.Blocked)) may is = changes_none test old new is.1
  changes_once old new (Writes place bytes limit (Err folders.TooLarge)) may is = changes_none test old new is.1
  changes_once old new (Writes place bytes limit (Err folders.BadFileName)) may is = absurd is
  changes_once old new (Removes place (Ok done)) may is = changes_without test old new place is.1 may
  changes_once old new (Removes place (Err folders.OutOfMemory)) may is = changes_none test old new is
  changes_once old new (Removes place (Err folders.Device)) may is = changes_left test old new place is.0 is.2 may
  changes_once old new (Removes place (Err folders.Missing)) may is = changes_none test old new is.2
  changes_once old new (Removes place (Err folders.Blocked)) may is = changes_none test old new is.1
  changes_once old new (Removes place (Err folders.TooLarge)) may is = absurd is
  changes_once old new (Removes place (Err folders.BadFileName)) may is = absurd is

  pub changes_of : (old new : Contents) (calls : List Call) → AllByRecursion (IsPermitted (changes_at test)) calls → AnswersAll may_leave old calls new → ChangesOnly test old new
  changes_of old new [] may same = changes_none test old new same
  changes_of old new (call ∷ calls) may all =
      changes_chain test old all.1.0 new (changes_once old all.1.0 call may.0 all.1.1) (changes_of all.1.0 new calls may.1 all.1.2)
