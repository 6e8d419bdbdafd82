-- What a call says, fact by fact.
use Rattle.std.specs.Prelude.{ℕ, ◌≡◌, ◌≢◌, ◌<◌, ◌≤◌, false, Option, Some, Result, Ok, Err, IfErr, IfOk, IsSome, IsSomeAnd, OnOk, length, take, drop}
use Rattle.std.specs.Global.{Global}
use Rattle.std.specs.List.{AllPass}
use Rattle.std.specs.List.Sorted.{IsStrictlySortedBy}
use Rattle.std.specs.Result.{result_err}
use Rattle.std.specs.declared.vec.Vec.{Vec}
use Rattle.std.proofs.Common.{ap, refl, subst, sym}
use Rattle.gb_core.specs.Lists.{byte_order}
use Rattle.gb_core.specs.Place.{is_under}
use Rattle.gb_folder.specs.Call.{answered}
use Rattle.gb_folder.specs.Device.{ListsWell, ReadsPartWell, ReadsWell, RemovesWell, WritesWell}
use Rattle.gb_folder.specs.Files.{Bytes, Contents, Place, Tearing, file_at, is_blocked, is_special_under, places_under, with_file, without}
use Rattle.gb_folder.specs.Semantics.{Answer, Listed, Read, ReadPart, Removed, Wrote}
use Rattle.gb_folder.specs.declared.folder.FolderFault.{FolderFault}
use Rattle.gb_folder.specs.declared.folder.FolderFault.TheVariants as folders

-- ---- a fault of the device

pub row_fails : {T : Type 0} (row : Result (Vec T Global) FolderFault) → row ≡ Err folders.Device → result_err (answered row) ≡ Some folders.Device
row_fails row is = ap (λ r. result_err (answered r)) is

pub change_fails : (answer : Answer) → answer ≡ Err folders.Device → result_err answer ≡ Some folders.Device
change_fails answer is = ap (λ (r : Answer). result_err r) is

-- ---- answers of any folder

module _ (root : Place) where
  pub are_under : (row : Result (Vec Place Global) FolderFault) → ListsWell root (answered row) → IfOk row (λ places. AllPass (λ place. is_under place root) places.items)
  are_under (Ok places) well = well.0
  are_under (Err fault) well = tt

  pub are_ordered : (row : Result (Vec Place Global) FolderFault) → ListsWell root (answered row) → IfOk row (λ places. IsStrictlySortedBy byte_order places.items)
  are_ordered (Ok places) well = well.1
  are_ordered (Err fault) well = tt

  pub lists_fit : (row : Result (Vec Place Global) FolderFault) → ListsWell root (answered row) → row ≢ Err folders.TooLarge
  lists_fit (Ok places) well = λ e. cc
  lists_fit (Err fault) well = λ e. well (let f = e in (cc))

pub reads_within : (limit : ℕ) (row : Result (Vec ℕ Global) FolderFault) → ReadsWell limit (answered row) → IfOk row (λ bytes. length bytes.items ≤ limit)
reads_within limit (Ok bytes) well = well
reads_within limit (Err fault) well = tt

pub reads_named : (limit : ℕ) (row : Result (Vec ℕ Global) FolderFault) → ReadsWell limit (answered row) → row ≢ Err folders.BadFileName
reads_named limit (Ok bytes) well = λ e. cc
reads_named limit (Err fault) well = λ e. well (let f = e in (cc))

pub part_within : (len : ℕ) (row : Result (Vec ℕ Global) FolderFault) → ReadsPartWell len (answered row) → IfOk row (λ part. length part.items ≤ len)
part_within len (Ok part) well = well
part_within len (Err fault) well = tt

pub part_fits : (len : ℕ) (row : Result (Vec ℕ Global) FolderFault) → ReadsPartWell len (answered row) → row ≢ Err folders.TooLarge
part_fits len (Ok part) well = λ e. cc
part_fits len (Err fault) well = λ e. well.0 (let f = e in (cc))

pub part_named : (len : ℕ) (row : Result (Vec ℕ Global) FolderFault) → ReadsPartWell len (answered row) → row ≢ Err folders.BadFileName
part_named len (Ok part) well = λ e. cc
part_named len (Err fault) well = λ e. well.1 (let f = e in (cc))

module _ (bytes : Bytes) (limit : ℕ) where
  pub writes_within : (answer : Answer) → WritesWell bytes limit answer → OnOk answer (length bytes ≤ limit)
  writes_within (Ok done) well = well
  writes_within (Err fault) well = tt

  pub writes_large : (answer : Answer) → WritesWell bytes limit answer → answer ≡ Err folders.TooLarge → limit < length bytes
  writes_large (Ok done) well is = absurd (let e = is in (cc))
  writes_large (Err fault) well is = well.0 (let e = is in (cc))

  pub writes_there : (answer : Answer) → WritesWell bytes limit answer → answer ≢ Err folders.Missing
  writes_there (Ok done) well = λ e. cc
  writes_there (Err fault) well = λ e. well.1 (let f = e in (cc))

  pub writes_named : (answer : Answer) → WritesWell bytes limit answer → answer ≢ Err folders.BadFileName
  writes_named (Ok done) well = λ e. cc
  writes_named (Err fault) well = λ e. well.2 (let f = e in (cc))

pub removes_fit : (answer : Answer) → RemovesWell answer → answer ≢ Err folders.TooLarge
removes_fit (Ok done) well = λ e. cc
removes_fit (Err fault) well = λ e. well.0 (let f = e in (cc))

pub removes_named : (answer : Answer) → RemovesWell answer → answer ≢ Err folders.BadFileName
removes_named (Ok done) well = λ e. cc
removes_named (Err fault) well = λ e. well.1 (let f = e in (cc))

-- ---- answers over known contents

module _ (old : Contents) (root : Place) (row : Result (Vec Place Global) FolderFault) (exact : Listed old root (answered row)) where
  pub if_listed : (fault : FolderFault) → row ≡ Err fault → Listed old root (Err fault)
  if_listed fault is = subst (λ r. Listed old root (answered r)) is exact

module _ (old : Contents) (root : Place) where
  pub listed : (row : Result (Vec Place Global) FolderFault) → Listed old root (answered row) → IfOk row (λ places. places.items ≡ places_under old.files root)
  listed (Ok places) is = is.0
  listed (Err fault) is = tt

  pub none_special : (row : Result (Vec Place Global) FolderFault) → Listed old root (answered row) → OnOk row (is_special_under old root ≡ false)
  none_special (Ok places) is = is.1
  none_special (Err fault) is = tt

module _ (old : Contents) (place : Place) where
  pub found : (limit : ℕ) (row : Result (Vec ℕ Global) FolderFault) → Read old place limit (answered row) → IfOk row (λ bytes. file_at old.files place ≡ Some bytes.items)
  found limit (Ok bytes) is = is.0
  found limit (Err fault) is = tt

  pub is_larger : (limit : ℕ) (file : Option Bytes) → (bytes : Bytes) × (file ≡ Some bytes) × (limit < length bytes) → IsSomeAnd file (λ bytes. limit < length bytes)
  is_larger limit file is = subst (λ (f : Option Bytes). IsSomeAnd f (λ bytes. limit < length bytes)) (sym is.1) is.2

  pub part_found : (at len : ℕ) (row : Result (Vec ℕ Global) FolderFault) → ReadPart old place at len (answered row)
      → IfOk row (λ part. IsSomeAnd (file_at old.files place) (λ bytes. part.items ≡ take len (drop at bytes)))
  part_found at len (Ok part) is = subst (λ (f : Option Bytes). IsSomeAnd f (λ bytes. part.items ≡ take len (drop at bytes))) (sym is.1) is.2
  part_found at len (Err fault) is = tt

  pub if_read : (limit : ℕ) (row : Result (Vec ℕ Global) FolderFault) → Read old place limit (answered row) → (fault : FolderFault) → row ≡ Err fault → Read old place limit (Err fault)
  if_read limit row exact fault is = subst (λ r. Read old place limit (answered r)) is exact

  pub if_part_read : (at len : ℕ) (row : Result (Vec ℕ Global) FolderFault) → ReadPart old place at len (answered row) → (fault : FolderFault) → row ≡ Err fault → ReadPart old place at len (Err fault)
  if_part_read at len row exact fault is = subst (λ r. ReadPart old place at len (answered r)) is exact

module _ (may_leave : Tearing) (old : Contents) (place : Place) (new : Contents) where
  module _ (bytes : Bytes) (limit : ℕ) where
    pub written : (answer : Answer) → Wrote may_leave old place bytes limit answer new → OnOk answer (new ≡ record old { files = with_file old.files place bytes })
    written (Ok done) is = is.2
    written (Err fault) is = tt

    pub free : (answer : Answer) → Wrote may_leave old place bytes limit answer new → OnOk answer (is_blocked old.files place ≡ false)
    free (Ok done) is = is.0
    free (Err fault) is = tt

    pub unwritten : (answer : Answer) → Wrote may_leave old place bytes limit answer new → IfErr answer (λ fault. fault ≢ folders.Device → new ≡ old)
    unwritten (Ok done) is = tt
    unwritten (Err folders.OutOfMemory) is = λ other. is
    unwritten (Err folders.Device) is = λ other. absurd (other refl)
    unwritten (Err folders.Blocked) is = λ other. is.1
    unwritten (Err folders.TooLarge) is = λ other. is.1
    unwritten (Err folders.Missing) is = absurd is
    unwritten (Err folders.BadFileName) is = absurd is

    pub if_wrote : (answer : Answer) → Wrote may_leave old place bytes limit answer new → (fault : FolderFault) → answer ≡ Err fault → Wrote may_leave old place bytes limit (Err fault) new
    if_wrote answer exact fault is = subst (λ (r : Answer). Wrote may_leave old place bytes limit r new) is exact

  pub removed : (answer : Answer) → Removed may_leave old place answer new → OnOk answer (new ≡ record old { files = without old.files place })
  removed (Ok done) is = is.1
  removed (Err fault) is = tt

  pub existed : (answer : Answer) → Removed may_leave old place answer new → OnOk answer (IsSome (file_at old.files place))
  existed (Ok done) is = is.0
  existed (Err fault) is = tt

  pub unremoved : (answer : Answer) → Removed may_leave old place answer new → IfErr answer (λ fault. fault ≢ folders.Device → new ≡ old)
  unremoved (Ok done) is = tt
  unremoved (Err folders.OutOfMemory) is = λ other. is
  unremoved (Err folders.Device) is = λ other. absurd (other refl)
  unremoved (Err folders.Missing) is = λ other. is.2
  unremoved (Err folders.Blocked) is = λ other. is.1
  unremoved (Err folders.TooLarge) is = absurd is
  unremoved (Err folders.BadFileName) is = absurd is

  pub if_removed : (answer : Answer) → Removed may_leave old place answer new → (fault : FolderFault) → answer ≡ Err fault → Removed may_leave old place (Err fault) new
  if_removed answer exact fault is = subst (λ (r : Answer). Removed may_leave old place r new) is exact
