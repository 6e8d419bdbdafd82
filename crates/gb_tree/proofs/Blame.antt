-- Which place a fault of the device names.
use Rattle.std.proofs.Common.{◌≡◌, ◌⊎◌, ◌≤◌, ◌<◌, Result, Ok, Err, arith, inl, inr, ℕ, zero, suc, Bool, true, false, ◌||◌, IsTrue, List, [], ◌∷◌, get_or, length, refl, sym, ◌∙◌, ap, subst}
use Rattle.std.specs.Cmp.Lexicographic.{bytes_decides}
use Rattle.std.specs.List.{AllByRecursion}
use Rattle.std.specs.Prelude.{bytes_eq}
use Rattle.gb_folder.specs.Files.{Place, HasRisen}
use Rattle.gb_folder.proofs.Changes.{HasRisen-before}
use Rattle.gb_folder.specs.declared.folder.FolderFault.{FolderFault}
use Rattle.gb_folder.specs.declared.folder.FolderFault.TheVariants as folders
use Rattle.gb_tree.specs.declared.fault.TreeFault.{TreeFault}
use Rattle.gb_tree.specs.declared.fault.TreeFault.TheVariants as faults
use Rattle.gb_tree.specs.Tree.{Blames, Entries, is_among, tree_fault_at}

-- the place of a device fault
abbrev device_place : TreeFault → Place → Place
device_place faults.OutOfMemory other = other
device_place (faults.Device place) other = place
device_place (faults.Missing place) other = other
device_place (faults.Blocked place) other = other
device_place (faults.TooLarge place) other = other
device_place (faults.BadFileName place) other = other
device_place (faults.TooManyFiles name) other = other
device_place (faults.DuplicateInput name path) other = other

-- a fault that occurs at one place names that place
pub blamed_here : (before after : ℕ) (place : Place) (fault : FolderFault) (reported : TreeFault) → (reported ≡ faults.OutOfMemory) ⊎ (reported ≡ tree_fault_at place fault)
    → (fault ≡ folders.Device → HasRisen before after) → (at : Place) → reported ≡ faults.Device at → (at ≡ place) × HasRisen before after
blamed_here before after place fault reported (inl none) rose at is = absurd (let e : faults.OutOfMemory ≡ faults.Device at = sym none ∙ is in cc)
blamed_here before after place folders.OutOfMemory reported (inr by) rose at is = absurd (let e : faults.OutOfMemory ≡ faults.Device at = sym by ∙ is in cc)
blamed_here before after place folders.Device reported (inr by) rose at is = (ap (λ fault. device_place fault place) (sym is ∙ by), rose refl)
blamed_here before after place folders.Missing reported (inr by) rose at is = absurd (let e : faults.Missing place ≡ faults.Device at = sym by ∙ is in cc)
blamed_here before after place folders.Blocked reported (inr by) rose at is = absurd (let e : faults.Blocked place ≡ faults.Device at = sym by ∙ is in cc)
blamed_here before after place folders.TooLarge reported (inr by) rose at is = absurd (let e : faults.TooLarge place ≡ faults.Device at = sym by ∙ is in cc)
blamed_here before after place folders.BadFileName reported (inr by) rose at is = absurd (let e : faults.BadFileName place ≡ faults.Device at = sym by ∙ is in cc)

-- what a part of a call blames, the whole blames
pub blamed_before : {A B : Type 0} (IsSuch IsMore : Place → Type 0) (first second third : ℕ) (whole : Result B TreeFault) (fault found : TreeFault)
    → first ≤ second → second ≤ third → whole ≡ Err found → found ≡ fault → ((at : Place) → IsSuch at → IsMore at) → Blames {A = A} IsSuch second third (Err fault) → Blames IsMore first third whole
blamed_before {A} {B} IsSuch IsMore first second third whole fault found le more is same wider blames at reported =
    let device : fault ≡ faults.Device at = sym same ∙ ap (λ (r : Result B TreeFault). fault_in r found) (sym is ∙ reported) in
    let parts = blames at (ap Err device) in
    (wider at parts.0, HasRisen-before first second third le more parts.1)
  where
    fault_in : {B : Type 0} → Result B TreeFault → TreeFault → TreeFault
    fault_in (Err fault) other = fault
    fault_in (Ok value) other = other

-- ---- Places at or under roots

under_here : (place at : Place) → bytes_eq place at ≡ true → (IsSuch : Place → Type 0) → IsSuch place → IsSuch at
under_here place at same IsSuch holds = subst IsSuch ((bytes_decides place at).0 same) holds

-- one of the entries, where each place is such
pub among_such : (IsSuch : Place → Type 0) (entries : Entries) → AllByRecursion (λ entry. IsSuch entry.1) entries → (at : Place) → IsTrue (is_among entries at) → IsSuch at
among_such IsSuch [] all at h = absurd (cc)
among_such IsSuch (entry ∷ entries) all at h =
    elim (bytes_eq entry.1 at) as (λ b. bytes_eq entry.1 at ≡ b → IsTrue (b || is_among entries at) → IsSuch at) [
      | true ↦ λ same _. under_here entry.1 at same IsSuch all.0
      | false ↦ λ _ later. among_such IsSuch entries all.1 at later
    ] refl h

pub among_read : (IsSuch : Place → Type 0) (entries read : Entries) → read ≡ entries → AllByRecursion (λ entry. IsSuch entry.1) entries → (at : Place) → IsTrue (is_among read at) → IsSuch at
among_read IsSuch entries read same all at h = among_such IsSuch entries all at (subst (λ (es : Entries). IsTrue (is_among es at)) same h)

-- an entry that is read is among them
pub entry_among : (entries : Entries) (i : ℕ) (entry : List ℕ × Place) → i < length entries → entry ≡ get_or entries i entry → IsTrue (is_among entries entry.1)
entry_among [] i entry within is = absurd (omega (arith, within))
entry_among (other ∷ entries) zero entry within is = ap (λ b. b || is_among entries entry.1) ((bytes_decides other.1 entry.1).1 (ap (λ (e : List ℕ × Place). e.1) (sym is)))
entry_among (other ∷ entries) (suc i) entry within is = any_way (bytes_eq other.1 entry.1) (is_among entries entry.1) (entry_among entries i entry (omega (arith, within)) is)
  where
    any_way : (a b : Bool) → IsTrue b → IsTrue (a || b)
    any_way true b h = refl
    any_way false b h = h

-- each of several places is such where a statement about an entry holds of its place
pub at_entry : (entries : Entries) (i : ℕ) (entry : List ℕ × Place) → i < length entries → entry ≡ get_or entries i entry → (at : Place) → at ≡ entry.1 → IsTrue (is_among entries at)
at_entry entries i entry within is at same = subst (λ (place : Place). IsTrue (is_among entries place)) (sym same) (entry_among entries i entry within is)
