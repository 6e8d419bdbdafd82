-- Faults of the machine, and where they count.
use Rattle.std.proofs.Common.{◌≡◌, ◌≢◌, ◌≤◌, ◌⊎◌, ◌||◌, ◌∷◌, [], true≢false, ℕ, Bool, true, false, List, Option, not, refl, sym, ◌∙◌, ap, subst, inl, inr, Result, Err}
use Rattle.std.specs.Cmp.Lexicographic.{bytes_decides}
use Rattle.std.specs.List.{AllByRecursion, list_all, list_any}
use Rattle.std.proofs.lemmas.Bool.{and_parts}
use Rattle.std.specs.Prelude.{bytes_eq}
use Rattle.gb_folder.specs.Files.{Place, Contents, DiffersOnlyAt, HasRisen, files_where, without, with_file, with_left}
use Rattle.gb_folder.proofs.Changes.{HasRisen-after, HasRisen-before, DiffersOnlyAt-chain, DiffersOnlyAt-without, DiffersOnlyAt-with_file, DiffersOnlyAt-with_left}
use Rattle.gb_folder.specs.declared.folder.FolderFault.{FolderFault}
use Rattle.gb_folder.specs.declared.folder.FolderFault.TheVariants as folders
use Rattle.gb_report.specs.declared.fault.Fault.{Fault}
use Rattle.gb_report.specs.declared.fault.Fault.TheVariants as faults
use Rattle.gb_folder.specs.Faults.{reported_at}
use Rattle.gb_folder.specs.Changes.{ChangesOnly, is_at}
use Rattle.gb_folder.specs.Faults.{IsOfMachine}

-- the count continues to rise after a call
pub machine_after : (first second third : ℕ) (fault : Fault) → second ≤ third → IsOfMachine first second fault → IsOfMachine first third fault
machine_after first second third fault le (inl is) = inl is
machine_after first second third fault le (inr device) = inr (device.0, device.1, HasRisen-after first second third device.2 le)

-- it began to rise before the call
pub machine_before : (first second third : ℕ) (fault : Fault) → first ≤ second → second ≤ third → IsOfMachine second third fault → IsOfMachine first third fault
machine_before first second third fault le more (inl is) = inl is
machine_before first second third fault le more (inr device) = inr (device.0, device.1, HasRisen-before first second third le more device.2)

-- a device fault is reported only if the fault of the folder was one
pub blames_device : (place : Place) (fault : FolderFault) (reported : Fault) → (reported ≡ faults.OutOfMemory) ⊎ (reported ≡ reported_at place fault) → (at : Place) → reported ≡ faults.Device at → fault ≡ folders.Device
blames_device place fault reported (inl is) at device = absurd (no_device (sym is ∙ device))
  where
    no_device : faults.OutOfMemory ≡ faults.Device at → ⊥
    no_device e = cc
blames_device place folders.OutOfMemory reported (inr is) at device = absurd (let e = sym is ∙ device in (cc))
blames_device place folders.Device reported (inr is) at device = refl
blames_device place folders.Missing reported (inr is) at device = absurd (let e = sym is ∙ device in (cc))
blames_device place folders.Blocked reported (inr is) at device = absurd (let e = sym is ∙ device in (cc))
blames_device place folders.TooLarge reported (inr is) at device = absurd (let e = sym is ∙ device in (cc))
blames_device place folders.BadFileName reported (inr is) at device = absurd (let e = sym is ∙ device in (cc))

-- out-of-memory faults and device faults are faults of the machine
pub of_machine : (before after : ℕ) (place : Place) (fault : FolderFault) (reported : Fault) → (reported ≡ faults.OutOfMemory) ⊎ (reported ≡ reported_at place fault)
    → (fault ≡ folders.Device → HasRisen before after) → (fault ≢ folders.OutOfMemory → fault ≢ folders.Device → ⊥) → IsOfMachine before after reported
of_machine before after place fault reported (inl is) rose other = inl is
of_machine before after place folders.OutOfMemory reported (inr is) rose other = inl is
of_machine before after place folders.Device reported (inr is) rose other = inr (place, is, rose refl)
of_machine before after place folders.Missing reported (inr is) rose other = absurd (other (λ e. cc) (λ e. cc))
of_machine before after place folders.Blocked reported (inr is) rose other = absurd (other (λ e. cc) (λ e. cc))
of_machine before after place folders.TooLarge reported (inr is) rose other = absurd (other (λ e. cc) (λ e. cc))
of_machine before after place folders.BadFileName reported (inr is) rose other = absurd (other (λ e. cc) (λ e. cc))

-- one change after another
pub changes_chain : (test : Place → Bool) (first second third : Contents) → ChangesOnly test first second → ChangesOnly test second third → ChangesOnly test first third
changes_chain test first second third a b = record {
  elsewhere = DiffersOnlyAt-chain test first.files second.files third.files a.elsewhere b.elsewhere;
  special = b.special ∙ a.special;
}

-- nothing has changed
pub changes_none : (test : Place → Bool) (old new : Contents) → new ≡ old → ChangesOnly test old new
changes_none test old new same = record { elsewhere = ap (λ (c : Contents). files_where (λ place. not (test place)) c.files) same; special = ap (λ (c : Contents). c.special) same }

changes_to : (test : Place → Bool) (old new : Contents) (files : List (Place × List ℕ)) → new ≡ record old { files = files } → DiffersOnlyAt test old.files files → ChangesOnly test old new
changes_to test old new files is differs = record {
  elsewhere = ap (λ (c : Contents). files_where (λ place. not (test place)) c.files) is ∙ differs;
  special = ap (λ (c : Contents). c.special) is;
}

-- a file was removed
pub changes_without : (test : Place → Bool) (old new : Contents) (place : Place) → new ≡ record old { files = without old.files place } → test place ≡ true → ChangesOnly test old new
changes_without test old new place is holds = changes_to test old new _ is (DiffersOnlyAt-without test old.files place holds)

-- a file was written
pub changes_with : (test : Place → Bool) (old new : Contents) (place : Place) (bytes : List ℕ) → new ≡ record old { files = with_file old.files place bytes } → test place ≡ true → ChangesOnly test old new
changes_with test old new place bytes is holds = changes_to test old new _ is (DiffersOnlyAt-with_file test old.files place bytes holds)

-- a call was stopped
pub changes_left : (test : Place → Bool) (old new : Contents) (place : Place) (left : Option (List ℕ)) → new ≡ record old { files = with_left old.files place left } → test place ≡ true → ChangesOnly test old new
changes_left test old new place left is holds = changes_to test old new _ is (DiffersOnlyAt-with_left test old.files place left holds)

-- a property of an error result holds of each result equal to it
pub at_err : {T E : Type 0} (P : Result T E → Type 0) (r : Result T E) (y z : E) → r ≡ Err y → y ≡ z → P (Err z) → P r
at_err P r y z is same holds = subst P (sym (is ∙ ap Err same)) holds

-- errors of one result are one
err_is : {T E : Type 0} (r : Result T E) (y w : E) → r ≡ Err y → r ≡ Err w → y ≡ w
err_is r y w a b = cc

-- if a fault that is passed on is a device fault at a place, so is the fault of the call
pub handed_on : {T U : Type 0} (r : Result T Fault) (call : Result U Fault) (y z : Fault) (place : Place) → r ≡ Err y → y ≡ z → call ≡ Err z → r ≡ Err (faults.Device place) → call ≡ Err (faults.Device place)
handed_on r call y z place reported same is device = is ∙ ap Err (sym same ∙ err_is r y (faults.Device place) reported device)

-- a test that holds for the places of all elements holds for each place among them
pub among_passes : {X : Type 0} (at : X → Place) (test : Place → Bool) (xs : List X) (place : Place) → AllByRecursion (λ x. test (at x) ≡ true) xs
    → list_any (λ x. is_at (at x) place) xs ≡ true → test place ≡ true
among_passes at test [] place all any = absurd (true≢false (sym any))
among_passes at test (x ∷ xs) place all any =
    elim (bytes_eq place (at x)) as (λ b. bytes_eq place (at x) ≡ b → (b || list_any (λ y. is_at (at y) place) xs) ≡ true → test place ≡ true) [
      | true ↦ λ is _. ap test ((bytes_decides place (at x)).0 is) ∙ all.0
      | false ↦ λ _ more. among_passes at test xs place all.1 more
    ] refl any

-- the same of a test of places alone
pub among_all : (test : Place → Bool) (places : List Place) (place : Place) → list_all test places ≡ true → list_any (λ other. is_at other place) places ≡ true → test place ≡ true
among_all test [] place all any = absurd (true≢false (sym any))
among_all test (other ∷ places) place all any =
    let parts = and_parts (test other) (list_all test places) all in
    elim (bytes_eq place other) as (λ b. bytes_eq place other ≡ b → (b || list_any (λ at. is_at at place) places) ≡ true → test place ≡ true) [
      | true ↦ λ is _. ap test ((bytes_decides place other).0 is) ∙ parts.0
      | false ↦ λ _ more. among_all test places place parts.1 more
    ] refl any
