-- What calls change in a folder.
use Rattle.std.specs.Prelude.{◌≡◌, ◌⊎◌, ◌++◌, Bool, List, ◌∷◌, map, Option, None, bytes_eq, fold}
use Rattle.std.specs.Borrow.{Bor}
use Rattle.std.specs.List.{list_any}
use Rattle.gb_folder.specs.Files.{Place, Bytes, Contents, DiffersOnlyAt, IsTorn, Tearing, without}
use Rattle.gb_report.specs.declared.fault.Fault.{Fault}
use Rattle.gb_report.specs.declared.fault.Fault.TheVariants as faults

-- the place itself
abbrev pub is_at : Place → Place → Bool
is_at place other = bytes_eq other place

-- one of these places
abbrev pub is_among : List Place → Place → Bool
is_among places place = list_any (λ other. is_at other place) places

-- Files differ only where the test holds; special entries stay the same.
pub record ChangesOnly (test : Place → Bool) (old new : Contents) : Type 0 where
  pub elsewhere : DiffersOnlyAt test old.files new.files
  pub special : new.special ≡ old.special

-- the folder without the files at these places
abbrev pub without_all : Contents → List Place → Contents
without_all folder places = record folder { files = fold without folder.files places }

-- A write or a removal at a place failed: memory ran out and nothing changed, or the device stopped it.
abbrev pub IsHindered : Tearing → Place → Option Bytes → Contents → Fault → Contents → Type 0
IsHindered may_leave place next old fault new =
    ((fault ≡ faults.OutOfMemory) × (new ≡ old))
    ⊎ ((fault ≡ faults.Device place) × IsTorn may_leave place next old new)

-- The removal of these places was cut short: the files at some first places are gone, and it failed at the
-- next.
pub record IsCutShort (may_leave : Tearing) (places : List Place) (old : Contents) (fault : Fault)
    (new : Contents) : Type 0 where
  pub gone : List Place
  pub place : Place
  pub left : List Place
  pub all : places ≡ gone ++ place ∷ left
  pub hindered : IsHindered may_leave place None (without_all old gone) fault new

-- files whose bytes are borrowed
abbrev pub shown : List (Place × Bor Bytes) → List (Place × Bytes)
shown files = map (λ file. (file.0, file.1.now)) files
