-- What requested changes leave as it was.
use Rattle.std.proofs.Common.{◌≡◌, Bool, true, List, ℕ, Option, Some, None, Ok, Err, refl}
use Rattle.std.specs.Cmp.Lexicographic.{bytes_decides}
use Rattle.gb_folder.specs.Calls.{Call, Lists, Reads, ReadsPart, Writes, Removes, Device, IsPermitted, IsReachedBy, Permit, Requests, WhereKnown, changes_at, none, put_at, taken_at, takes_at, then}
use Rattle.gb_folder.specs.Changes.{ChangesOnly, is_at}
use Rattle.gb_folder.specs.Files.{Contents, Place, Tearing}
use Rattle.gb_folder.specs.Semantics.{Answers}
use Rattle.gb_folder.specs.declared.folder.FolderFault.TheVariants as folders
use Rattle.gb_folder.proofs.Machine.{changes_chain, changes_left, changes_none, changes_with, changes_without}

module _ (permit : Permit) (test : Place → Bool) (holds : (place : Place) (next : Option (List ℕ)) → permit place next → test place ≡ true) where
  -- one call
  answered_elsewhere : (leaves : Tearing) (old new : Contents) (call : Call) → IsPermitted permit call → Answers leaves old call new → ChangesOnly test old new
  answered_elsewhere leaves old new (Lists root answer) may is = changes_none test old new is.1
  answered_elsewhere leaves old new (Reads place limit answer) may is = changes_none test old new is.1
  answered_elsewhere leaves old new (ReadsPart place at len answer) may is = changes_none test old new is.1
  answered_elsewhere leaves old new (Writes place bytes limit (Ok done)) may is = changes_with test old new place bytes is.2 (holds place (Some bytes) may)
  answered_elsewhere leaves old new (Writes place bytes limit (Err folders.OutOfMemory)) may is = changes_none test old new is
  answered_elsewhere leaves old new (Writes place bytes limit (Err folders.Device)) may is = changes_left test old new place is.0 is.2 (holds place (Some bytes) may)
  answered_elsewhere leaves old new (Writes place bytes limit (Err folders.Blocked)) may is = changes_none test old new is.1
  answered_elsewhere leaves old new (Writes place bytes limit (Err folders.TooLarge)) may is = changes_none test old new is.1
  answered_elsewhere leaves old new (Writes place bytes limit (Err folders.Missing)) may is = absurd is
  answered_elsewhere leaves old new (Writes place bytes limit (Err folders.BadFileName)) may is = absurd is
  answered_elsewhere leaves old new (Removes place (Ok done)) may is = changes_without test old new place is.1 (holds place None may)
  answered_elsewhere leaves old new (Removes place (Err folders.OutOfMemory)) may is = changes_none test old new is
  answered_elsewhere leaves old new (Removes place (Err folders.Device)) may is = changes_left test old new place is.0 is.2 (holds place None may)
  answered_elsewhere leaves old new (Removes place (Err folders.Missing)) may is = changes_none test old new is.2
  answered_elsewhere leaves old new (Removes place (Err folders.Blocked)) may is = changes_none test old new is.1
  answered_elsewhere leaves old new (Removes place (Err folders.TooLarge)) may is = absurd is
  answered_elsewhere leaves old new (Removes place (Err folders.BadFileName)) may is = absurd is

  -- calls, one after another
  reached_elsewhere : {F : Type 0} (device : Device F) (old : F) {new : F} → IsReachedBy device permit old new → WhereKnown device old new (ChangesOnly test)
  reached_elsewhere device old none known = changes_none test (device.contents old) (device.contents old) refl
  reached_elsewhere device old (then {mid = mid} call new led may is) known =
      changes_chain test (device.contents old) (device.contents mid) (device.contents new)
      (reached_elsewhere device old led (is.back known))
      (answered_elsewhere (device.may_leave mid) (device.contents mid) (device.contents new) call may (is.exact known))

  pub changes_where : {F : Type 0} {device : Device F} {old new : F} → Requests device permit old new → WhereKnown device old new (ChangesOnly test)
  changes_where {device = device} {old = old} requests = reached_elsewhere device old (requests.calls none)

module _ {F : Type 0} {device : Device F} {old new : F} where
  -- changes where a test holds
  pub changed_there : {test : Place → Bool} → Requests device (changes_at test) old new → WhereKnown device old new (ChangesOnly test)
  unfolding changes_at
  changed_there {test = test} requests = changes_where (changes_at test) test (λ place next may. may) requests

  -- removals where a test holds
  pub taken_there : {test : Place → Bool} → Requests device (takes_at test) old new → WhereKnown device old new (ChangesOnly test)
  unfolding takes_at
  taken_there {test = test} requests = changes_where (takes_at test) test (λ place next may. may.0) requests

  -- one write
  pub written_there : {place : Place} (bytes : List ℕ) → Requests device (put_at place bytes) old new → WhereKnown device old new (ChangesOnly (is_at place))
  unfolding put_at
  written_there {place = place} bytes requests = changes_where (put_at place bytes) (is_at place) (λ at next may. (bytes_decides at place).1 may.0) requests

  -- one removal
  pub removed_there : {place : Place} → Requests device (taken_at place) old new → WhereKnown device old new (ChangesOnly (is_at place))
  unfolding taken_at
  removed_there {place = place} requests = changes_where (taken_at place) (is_at place) (λ at next may. (bytes_decides at place).1 may.0) requests
