-- What a stopped write or removal leaves at its place.
use Rattle.std.proofs.Common.{◌≡◌, ℕ, true, false, cond, T, List, Option, Some, None, refl, sym, ◌∙◌, ap, subst, inl, inr, not}
use Rattle.std.specs.Prelude.{◌⊎◌, ◌≢◌, Result, Ok, Err, OnOk, IfErr, IsErrOf, bytes_eq}
use Rattle.std.specs.Cmp.Lexicographic.{nat_list_cmp_total, bytes_decides}
use Rattle.std.specs.FinMap.Entries.{is_sorted, is_sorted-put, is_sorted-where_key, same_entries}
use Rattle.gb_core.specs.Lists.{byte_order}
use Rattle.gb_folder.specs.Files.{Contents, Files, IsFolder, Tearing, file_at, with_file, with_left, without}
use Rattle.gb_folder.specs.Faulty.{may_leave_by}
use Rattle.gb_folder.specs.declared.faulty.FaultMode.{FaultMode}
use Rattle.gb_folder.specs.declared.faulty.FaultMode.TheVariants.{FailOnce, Stop, StopTorn}
use Rattle.gb_folder.specs.declared.folder.FolderFault.{FolderFault}
use Rattle.gb_folder.specs.declared.folder.FolderFault.TheVariants.{OutOfMemory, Device, Missing, Blocked, TooLarge, BadFileName}
use Rattle.gb_folder.proofs.Changes.{file_at-with_file, file_at-without}
use Rattle.gb_folder.proofs.Sound.{same_from}

put_same : (files : Files) (place bytes other : List ℕ) → file_at files place ≡ Some bytes → file_at (with_file files place bytes) other ≡ file_at files other
put_same files place bytes other exists =
    file_at-with_file files place bytes other ∙ (elim (bytes_eq other place) as (λ b. bytes_eq other place ≡ b → cond b (Some bytes) (file_at files other) ≡ file_at files other) [
      | true ↦ λ is. sym exists ∙ ap (file_at files) (sym ((bytes_decides other place).0 is))
      | false ↦ λ _. refl
    ] refl)

taken_same : (files : Files) (place other : List ℕ) → file_at files place ≡ None → file_at (without files place) other ≡ file_at files other
taken_same files place other exists =
    file_at-without files place other ∙ (elim (bytes_eq other place) as (λ b. bytes_eq other place ≡ b → cond (not b) (file_at files other) None ≡ file_at files other) [
      | true ↦ λ is. sym exists ∙ ap (file_at files) (sym ((bytes_decides other place).0 is))
      | false ↦ λ _. refl
    ] refl)

-- leaving at a place what was there changes nothing
left_as_it_was : (files : Files) (place : List ℕ) → IsFolder files → files ≡ with_left files place (file_at files place)
left_as_it_was files place sound =
    elim (file_at files place) as (λ o. file_at files place ≡ o → files ≡ with_left files place o) [
      | None ↦ λ exists. sym (same_entries byte_order nat_list_cmp_total same_from (without files place) files
          (is_sorted-where_key byte_order _ files sorted) sorted (λ other. taken_same files place other exists))
      | Some bytes ↦ λ exists. sym (same_entries byte_order nat_list_cmp_total same_from (with_file files place bytes) files
          (is_sorted-put byte_order nat_list_cmp_total place bytes files sorted) sorted (λ other. put_same files place bytes other exists))
    ] refl
  where
    sorted : T (is_sorted byte_order files)
    sorted = subst T (sym sound.in_order) tt

-- the files are the old ones, except at one place, which has what may be left there
abbrev pub Left : FaultMode → Tearing → Contents → Contents → List ℕ → Option (List ℕ) → Type 0
Left mode inner old new place next =
    (left : Option (List ℕ)) × may_leave_by mode inner place (file_at old.files place) next left × (new ≡ record old { files = with_left old.files place left })

may_exist : (mode : FaultMode) (inner : Tearing) (place : List ℕ) (existed next : Option (List ℕ)) → may_leave_by mode inner place existed next existed
may_exist FailOnce inner place existed next = inl refl
may_exist Stop inner place existed next = inl refl
may_exist (StopTorn bytes) inner place existed None = inl refl
may_exist (StopTorn bytes) inner place existed (Some next) = inl refl

-- a call that does not reach the inner folder leaves what was there
pub nothing_touched : (mode : FaultMode) (inner : Tearing) (folder : Contents) (place : List ℕ) (next : Option (List ℕ)) → IsFolder folder.files
    → Left mode inner folder folder place next
nothing_touched mode inner folder place next sound = (
  file_at folder.files place,
  may_exist mode inner place (file_at folder.files place) next,
  ap (λ files. record folder { files = files }) (left_as_it_was folder.files place sound),
)

device_or_not : (fault : FolderFault) → (fault ≡ Device) ⊎ (fault ≢ Device)
device_or_not OutOfMemory = inr (λ e. cc)
device_or_not Device = inl refl
device_or_not Missing = inr (λ e. cc)
device_or_not Blocked = inr (λ e. cc)
device_or_not TooLarge = inr (λ e. cc)
device_or_not BadFileName = inr (λ e. cc)

-- a write of the given bytes to the inner folder leaves what may be left, whatever it answers
pub torn_write : (mode : FaultMode) (bytes : _) (inner : Tearing) (old new : Contents) (place next : List ℕ) (result : Result (Unit {0}) FolderFault)
    → IsFolder old.files → mode ≡ StopTorn bytes
    → OnOk result (new ≡ record old { files = with_file old.files place bytes.items })
    → IfErr result (λ fault. fault ≢ Device → new ≡ old)
    → (IsErrOf result Device → (left : Option (List ℕ)) × inner place (file_at old.files place) (Some bytes.items) left × (new ≡ record old { files = with_left old.files place left }))
    → Left mode inner old new place (Some next)
torn_write mode bytes inner old new place next (Ok done) sound is written same torn =
    subst (λ m. Left m inner old new place (Some next)) (sym is) (Some bytes.items, inr (inl refl), written)
torn_write mode bytes inner old new place next (Err fault) sound is written same torn = elim (device_or_not fault) [
  | inl e ↦ let found = torn (ap Err e) in subst (λ m. Left m inner old new place (Some next)) (sym is) (found.0, inr (inr (inr found.1)), found.2)
  | inr other ↦ subst (λ folder. Left mode inner old folder place (Some next)) (sym (same other)) (nothing_touched mode inner old place (Some next) sound)
]
