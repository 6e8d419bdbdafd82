-- Edits, by the folder's answers.
use Rattle.std.proofs.Common.{◌≡◌, ◌≢◌, ◌≤◌, ◌<◌, ◌⊎◌, ℕ, true, false, List, None, Some, Ok, Err, OnOk, IfErr, IsTrue, length, refl, ap, subst, ◌∙◌, inl, inr}
use Rattle.std.specs.Cmp.Lexicographic.{bytes_decides}
use Rattle.gb_folder.specs.Files.{Place, Contents, IsFolder, HasRisen, SameTearing, Tearing, file_at, is_blocked, is_special_under, is_own, places_under, IsTorn}
use Rattle.gb_folder.specs.declared.folder.FolderFault.{FolderFault}
use Rattle.gb_folder.specs.declared.folder.FolderFault.TheVariants as folders
use Rattle.gb_folder.specs.Limits.{max_file}
use Rattle.gb_report.specs.declared.fault.Fault.{Fault}
use Rattle.gb_report.specs.declared.fault.Fault.TheVariants as faults
use Rattle.gb_folder.specs.Changes.{IsCutShort, is_at, without_all}
use Rattle.gb_folder.specs.Faults.{IsOfMachine, reported_at}
use Rattle.gb_folder.proofs.Emptied.{emptied_place}
use Rattle.gb_folder.proofs.Machine.{machine_before}
use Rattle.gb_folder.proofs.Removing.{hindered_before}
use Rattle.gb_semantics.specs.Edits.{IsNoListing, LossStep, PutStep, RemoveStep, Shown, own_place}
use Rattle.gb_build.specs.Answers.{Edit, edit_answer}

-- a place is at itself
pub at_itself : (place : Place) → is_at place place ≡ true
at_itself place = (bytes_decides place place).1 refl

-- what a folder shows with these contents and this count of failures
abbrev pub shows : Contents → ℕ → Shown
shows contents failures = record { contents = contents; failures = failures }

-- ---- Edits that are refused

-- a write that was refused
pub put_failed : (may_leave : Tearing) (place bytes : List ℕ) (before after : ℕ) (old new : Contents) (fault : FolderFault) (reported : Fault) → is_own place ≡ false → reported ≡ reported_at place fault
    → (fault ≡ folders.Device → HasRisen before after) → (fault ≢ folders.Device → new ≡ old) → (fault ≡ folders.Blocked → IsTrue (is_blocked old.files place))
    → (fault ≡ folders.TooLarge → max_file < length bytes) → (fault ≢ folders.Missing) → (fault ≢ folders.BadFileName)
    → (fault ≡ folders.Device → IsTorn may_leave place (Some bytes) old new) → PutStep may_leave place bytes (shows old before) (edit_answer (Err reported)) (shows new after)
put_failed may_leave place bytes before after old new folders.OutOfMemory reported out is rose same blocked large a b torn = inl (inl (same (λ e. cc), is))
put_failed may_leave place bytes before after old new folders.Device reported out is rose same blocked large a b torn = inl (inr (record { outside = out; rose = rose refl; reported = is; torn = torn refl }))
put_failed may_leave place bytes before after old new folders.Missing reported out is rose same blocked large a b torn = absurd (a refl)
put_failed may_leave place bytes before after old new folders.Blocked reported out is rose same blocked large a b torn = inr (inl (same (λ e. cc), inr (out, blocked refl, is)))
put_failed may_leave place bytes before after old new folders.TooLarge reported out is rose same blocked large a b torn = inr (inr (same (λ e. cc), out, large refl, is))
put_failed may_leave place bytes before after old new folders.BadFileName reported out is rose same blocked large a b torn = absurd (b refl)

-- a removal that was refused
pub remove_failed : (may_leave : Tearing) (place : Place) (before after : ℕ) (old new : Contents) (fault : FolderFault) (reported : Fault) → is_own place ≡ false → reported ≡ reported_at place fault
    → (fault ≡ folders.Device → HasRisen before after) → (fault ≢ folders.Device → new ≡ old) → (fault ≡ folders.Blocked → IsTrue (is_blocked old.files place))
    → (fault ≡ folders.Missing → file_at old.files place ≡ None) → (fault ≡ folders.Missing → is_blocked old.files place ≡ false)
    → (fault ≢ folders.TooLarge) → (fault ≢ folders.BadFileName) → (fault ≡ folders.Device → IsTorn may_leave place None old new) → RemoveStep may_leave place (shows old before) (edit_answer (Err reported)) (shows new after)
remove_failed may_leave place before after old new folders.OutOfMemory reported out is rose same blocked gone free a b torn = inl (inl (same (λ e. cc), is))
remove_failed may_leave place before after old new folders.Device reported out is rose same blocked gone free a b torn = inl (inr (record { outside = out; rose = rose refl; reported = is; torn = torn refl }))
remove_failed may_leave place before after old new folders.Missing reported out is rose same blocked gone free a b torn = inr (inr (same (λ e. cc), out, free refl, gone refl, is))
remove_failed may_leave place before after old new folders.Blocked reported out is rose same blocked gone free a b torn = inr (inl (same (λ e. cc), inr (out, blocked refl, is)))
remove_failed may_leave place before after old new folders.TooLarge reported out is rose same blocked gone free a b torn = absurd (a refl)
remove_failed may_leave place before after old new folders.BadFileName reported out is rose same blocked gone free a b torn = absurd (b refl)

-- ---- The loss of the tool's own

-- the files of `.gb` could not be listed
pub not_listed : (before after : ℕ) (old : Contents) (own : Place) (fault : Fault) → own ≡ own_place → ((place : Place) → fault ≡ faults.Device place → IsTrue (is_at own place))
    → IsOfMachine before after fault ⊎ (IsTrue (is_special_under old own) × (fault ≡ faults.BadFileName own)) → IsNoListing (shows old before) fault after
not_listed before after old own fault at blamed (inl (inl memory)) = inl memory
not_listed before after old own fault at blamed (inl (inr device)) = inr (inl (device.1 ∙ ap faults.Device ((bytes_decides device.0 own).0 (blamed device.0 device.1) ∙ at), device.2))
not_listed before after old own fault at blamed (inr special) = inr (inr (subst (λ place. IsTrue (is_special_under old place)) at special.0, special.1 ∙ ap faults.BadFileName at))

pub cut_before : (first second : Tearing) (places : List Place) (old new : Contents) (fault : Fault) → SameTearing first second → IsCutShort second places old fault new → IsCutShort first places old fault new
cut_before first second places old new fault same cut = record {
  gone = cut.gone;
  place = cut.place;
  left = cut.left;
  all = cut.all;
  hindered = hindered_before first second cut.place None (without_all old cut.gone) new fault same cut.hindered;
}

-- the files of the tool's own are taken away
pub lost_from : (first second : Tearing) (result : Edit) (places : List Place) (before mid after : ℕ) (old now new : Contents) → IsFolder old.files → places ≡ places_under old.files own_place → now ≡ old
    → SameTearing first second → before ≤ mid → mid ≤ after → OnOk result (new ≡ without_all now places) → IfErr result (IsOfMachine mid after)
    → IfErr result (λ fault. IsCutShort second places now fault new) → LossStep first (shows old before) (edit_answer result) (shows new after)
lost_from first second (Ok done) places before mid after old now new sound listed here same le more ok err cut =
    ok ∙ ap (λ folder. without_all folder places) here ∙ ap (without_all old) listed ∙ ap (λ files. record old { files = files }) (emptied_place own_place old.files sound)
lost_from first second (Err fault) places before mid after old now new sound listed here same le more ok err cut =
    inr (
      machine_before before mid after fault le more err,
      subst (λ (all : List Place). IsCutShort first all old fault new) listed (cut_before first second places old new fault same (subst (λ (folder : Contents). IsCutShort second places folder fault new) here cut)),
    )
