-- What was answered on a part of the way was answered on all of it, and what is read of it as a record.
use Rattle.std.specs.Prelude.{◌≡◌, List, [], ◌∷◌, Option, Some, None, Result, Ok, Err, IfOk}
use Rattle.std.proofs.Common.{◌++◌, ◌||◌, Bool, true, refl, ap, subst, sym, ◌∙◌}
use Rattle.std.specs.List.{AllZip, list_any}
use Rattle.std.proofs.lemmas.List.Folds.{list_any-append}
use Rattle.gb_core.specs.declared.place.PlaceFault.{PlaceFault}
use Rattle.gb_core.specs.declared.place.PlaceFault.TheVariants as places
use Rattle.gb_folder.specs.Calls.{Requests, no_change}
use Rattle.gb_folder.proofs.Answering.{on_longer_way}
use Rattle.gb_folder.specs.Files.{Bytes, Files, Place}
use Rattle.gb_folder.specs.declared.folder.FolderFault.{FolderFault}
use Rattle.gb_folder.specs.declared.folder.FolderFault.TheVariants as folders
use Rattle.gb_history.specs.Record.{Record}
use Rattle.gb_plan.specs.Task.{Path}
use Rattle.gb_report.specs.declared.fault.Fault.{Fault}
use Rattle.gb_report.specs.declared.fault.Fault.TheVariants as faults
use Rattle.gb_records.specs.Answered.{WasAnswered}
use Rattle.gb_records.specs.Faults.{none_for}
use Rattle.gb_records.specs.Said.{IsReadAs, IsReadAt, IsText}
use Rattle.gb_records.specs.Texts.{IsRecordOf, IsStoredAt, WasStoredAt, WasTextAnswered}
use Rattle.gb_records.proofs.Calls.{or_true}
use Rattle.gb_folder.specs.Calls.{Device}

-- what passes in a part of a list, passes in the list
pub any_part : {X : Type 0} (p : X → Bool) (xs ys zs : List X) → list_any p ys ≡ true → list_any p (xs ++ (ys ++ zs)) ≡ true
any_part p [] ys zs found = list_any-append p ys zs ∙ ap (λ b. b || list_any p zs) found
any_part p (x ∷ xs) ys zs found = ap (λ b. p x || b) (any_part p xs ys zs found) ∙ or_true (p x)

some_same : {X : Type 0} {a b : X} → Some a ≡ Some b → a ≡ b
some_same is = cc

-- if there is no place for a record, none was answered
pub none_placed : {F : Type 0} (device : Device F) (old new : F) (path : Path) (fault : PlaceFault) (result : Result (Option Bytes) Fault) → (fault ≡ places.BadPlace → result ≡ Ok None)
    → (fault ≡ places.OutOfMemory → result ≡ Err faults.OutOfMemory) → IfOk result (WasTextAnswered device old new path)
none_placed device old new path places.BadPlace result bad out = subst (λ (r : Result (Option Bytes) Fault). IfOk r (WasTextAnswered device old new path)) (sym (bad refl)) tt
none_placed device old new path places.OutOfMemory result bad out = subst (λ (r : Result (Option Bytes) Fault). IfOk r (WasTextAnswered device old new path)) (sym (out refl)) tt

-- nor if there is none
pub none_existed : {F : Type 0} (device : Device F) (old new : F) (path : Path) (place : Place) (fault : FolderFault) → IfOk (none_for place fault) (WasTextAnswered device old new path)
none_existed device old new path place folders.OutOfMemory = tt
none_existed device old new path place folders.Device = tt
none_existed device old new path place folders.Missing = tt
none_existed device old new path place folders.Blocked = tt
none_existed device old new path place folders.TooLarge = tt
none_existed device old new path place folders.BadFileName = tt

module _ {F : Type 0} {device : Device F} where
  pub answered_longer : (first old new last : F) → Requests device no_change first old → Requests device no_change new last
      → (path : Path) (read : Option Record) → WasAnswered device old new path read → WasAnswered device first last path read
  answered_longer first old new last before following path None was = was
  answered_longer first old new last before following path (Some run) was = (was.0, was.1, on_longer_way before following was.2)

  pub all_answered_longer : (first old new last : F) → Requests device no_change first old → Requests device no_change new last
      → (paths : List Path) (read : List (Option Record)) → AllZip (WasAnswered device old new) paths read → AllZip (WasAnswered device first last) paths read
  all_answered_longer first old new last before following [] [] all = all
  all_answered_longer first old new last before following [] (x ∷ xs) all = all
  all_answered_longer first old new last before following (path ∷ paths) [] all = all
  all_answered_longer first old new last before following (path ∷ paths) (x ∷ xs) all =
      (answered_longer first old new last before following path x all.0, all_answered_longer first old new last before following paths xs all.1)

  pub text_answered_longer : (first old new last : F) → Requests device no_change first old → Requests device no_change new last
      → (path : Path) (text : Path × Option Bytes) → WasStoredAt device old new path text → WasStoredAt device first last path text
  text_answered_longer first old new last before following path text was = (was.0, longer text.1 was.1)
    where
      longer : (bytes : Option Bytes) → WasTextAnswered device old new path bytes → WasTextAnswered device first last path bytes
      longer None h = tt
      longer (Some bytes) h = (h.0, on_longer_way before following h.1)

-- a record that is read as a text that was answered, was answered
pub record_answered : {F : Type 0} (device : Device F) (old new : F) (path : Path) (text : Path × Option Bytes) (read : Option Record)
    → WasStoredAt device old new path text → IsRecordOf text read → WasAnswered device old new path read
record_answered device old new path (other, None) read was is =
    subst (WasAnswered device old new path) (sym is) tt
record_answered device old new path (other, Some bytes) None was is = tt
record_answered device old new path (other, Some bytes) (Some run) was is =
    let read = is was.1.0 in (
      bytes,
      subst (λ (p : Path). IsText p run bytes) was.0 (subst (λ (b : Bytes). IsText other run b) (sym (some_same read.1)) read.2),
      was.1.1,
    )

-- the record that is read as the text at a place, is that of the place
pub record_read : (files : Files) (path : Path) (text : Path × Option Bytes) (read : Option Record) → IsStoredAt files path text
    → IsRecordOf text read → IsReadAt files path read
record_read files path (other, None) read at is = subst (IsReadAt files path) (sym is) at.1
record_read files path (other, Some bytes) read at is =
    subst (λ (left : Option Bytes). IsReadAs path left read) (sym at.1.0)
    (subst (λ (p : Path). IsReadAs p (Some bytes) read) at.0 (is at.1.1))
