-- What calls returned on the way to a state is what its known contents have.
use Rattle.std.specs.Prelude.{◌≡◌, ◌≤◌, false, length, List, Some}
use Rattle.std.proofs.Common.{refl, sym, ap, ◌∙◌}
use Rattle.gb_folder.specs.Answers.{WereListed, WereRead}
use Rattle.gb_folder.specs.Calls.{Call, Lists, Reads, ReadsPart, Writes, Removes, Device, IsPermitted, IsReachedBy, Requests, no_change, none, then}
use Rattle.gb_folder.specs.Files.{Bytes, Contents, Place, Tearing, file_at, is_special_under, places_under}
use Rattle.gb_folder.specs.Limits.{max_file}
use Rattle.gb_folder.specs.Semantics.{Answers}

-- a call that requests no change leaves the contents as they are
pub reading_keeps : (leaves : Tearing) (before after : Contents) (call : Call) → IsPermitted no_change call → Answers leaves before call after → after ≡ before
unfolding no_change
reading_keeps leaves before after (Lists root answer) permitted answers = answers.1
reading_keeps leaves before after (Reads place limit answer) permitted answers = answers.1
reading_keeps leaves before after (ReadsPart place at len answer) permitted answers = answers.1
reading_keeps leaves before after (Writes place bytes limit answer) permitted answers = absurd permitted
reading_keeps leaves before after (Removes place answer) permitted answers = absurd permitted

unchanged : {F : Type 0} {device : Device F} {old last : F} → IsReachedBy device no_change old last → device.faithful last → device.contents last ≡ device.contents old
unchanged none known = refl
unchanged {device = device} (then {mid = mid} call last led permitted is) known =
    reading_keeps (device.may_leave mid) (device.contents mid) (device.contents last) call permitted (is.exact known) ∙ unchanged led (is.back known)

-- calls that request no change leave known contents as they are
pub nothing_changed : {F : Type 0} {device : Device F} {old new : F} → Requests device no_change old new → device.faithful new → device.contents new ≡ device.contents old
nothing_changed requests known = unchanged (requests.calls none) known

module _ {F : Type 0} {device : Device F} {old new : F} (known : device.faithful new) where
  -- what was read
  pub read_there : (place : Place) (bytes : Bytes) → WereRead device old new place bytes → (file_at (device.contents new).files place ≡ Some bytes) × (length bytes ≤ max_file)
  read_there place bytes way =
      let exact = way.is.exact (way.rest.back known) in
      let same = nothing_changed way.rest known ∙ exact.1 in
      (ap (λ (c : Contents). file_at c.files place) same ∙ exact.0.0, exact.0.1)

  -- what was listed
  pub listed_there : (root : Place) (places : List Place) → WereListed device old new root places → (places ≡ places_under (device.contents new).files root) × (is_special_under (device.contents new) root ≡ false)
  listed_there root places way =
      let exact = way.is.exact (way.rest.back known) in
      let same = nothing_changed way.rest known ∙ exact.1 in
      (exact.0.0 ∙ ap (λ (c : Contents). places_under c.files root) (sym same), ap (λ (c : Contents). is_special_under c root) same ∙ exact.0.1)
