-- Why an existing file is not read.
use Rattle.std.proofs.Common.{◌≡◌, ◌⊎◌, ◌<◌, ◌≤◌, ◌++◌, Result, Err, arith, inl, inr, ℕ, Bool, true, List, [], ◌∷◌, length, Option, Some, None, refl, sym, ◌∙◌, ap, subst}
use Rattle.std.proofs.lemmas.Bool.Decides.{nat_tests}
use Rattle.std.proofs.lemmas.Bool.{false≢true}
use Rattle.std.specs.Prelude.{IsSome, IsSomeAnd, nat_lt, unwrap_or}
use Rattle.gb_core.specs.Lists.{first_of}
use Rattle.gb_folder.specs.Files.{Place, Files, IsFolder, HasRisen, file_at, is_blocked}
use Rattle.gb_folder.proofs.Changes.{HasRisen-before}
use Rattle.gb_folder.specs.declared.folder.FolderFault.{FolderFault}
use Rattle.gb_folder.specs.declared.folder.FolderFault.TheVariants as folders
use Rattle.gb_tree.specs.declared.fault.TreeFault.{TreeFault}
use Rattle.gb_tree.specs.declared.fault.TreeFault.TheVariants as faults
use Rattle.gb_folder.specs.Limits.{max_file}
use Rattle.gb_folder.proofs.Free.{free_at}
use Rattle.gb_tree.specs.Tree.{IsTreeFaultOfMachine, tree_fault_at, is_large}

-- no file exists where another is in the way
pub not_blocked : (files : Files) (place : Place) → IsFolder files → IsSome (file_at files place) → is_blocked files place ≡ true → ⊥
not_blocked files place sound exists blocked = by (file_at files place) refl exists
  where
    by : (o : Option (List ℕ)) → file_at files place ≡ o → IsSome o → ⊥
    by None is h = cc
    by (Some bytes) is h = false≢true (sym (free_at files place bytes sound is) ∙ blocked)

pub large_from : (files : Files) (place : Place) → IsSomeAnd (file_at files place) (λ bytes. max_file < length bytes) → is_large files place ≡ true
large_from files place h = by (file_at files place) h
  where
    by : (o : Option (List ℕ)) → IsSomeAnd o (λ bytes. max_file < length bytes) → nat_lt max_file (length (unwrap_or o [])) ≡ true
    by None h = absurd h
    by (Some bytes) h = grind (arith, nat_tests)

pub read_refused : (before after : ℕ) (place : Place) (fault : FolderFault) (reported : TreeFault) (large : Bool) → (reported ≡ faults.OutOfMemory) ⊎ (reported ≡ tree_fault_at place fault)
    → (fault ≡ folders.Device → HasRisen before after) → (fault ≡ folders.Missing → ⊥) → (fault ≡ folders.Blocked → ⊥) → (fault ≡ folders.BadFileName → ⊥) → (fault ≡ folders.TooLarge → large ≡ true)
    → IsTreeFaultOfMachine before after reported ⊎ ((large ≡ true) × (reported ≡ faults.TooLarge place))
read_refused before after place fault reported large (inl is) rose missing blocked special over = inl (inl is)
read_refused before after place folders.OutOfMemory reported large (inr is) rose missing blocked special over = inl (inl is)
read_refused before after place folders.Device reported large (inr is) rose missing blocked special over = inl (inr (place, is, rose refl))
read_refused before after place folders.Missing reported large (inr is) rose missing blocked special over = absurd (missing refl)
read_refused before after place folders.Blocked reported large (inr is) rose missing blocked special over = absurd (blocked refl)
read_refused before after place folders.TooLarge reported large (inr is) rose missing blocked special over = inr (over refl, is)
read_refused before after place folders.BadFileName reported large (inr is) rose missing blocked special over = absurd (special refl)

-- it began to rise before the call
pub machine_before : (first second third : ℕ) (fault : TreeFault) → first ≤ second → second ≤ third → IsTreeFaultOfMachine second third fault → IsTreeFaultOfMachine first third fault
machine_before first second third fault le more (inl is) = inl is
machine_before first second third fault le more (inr device) = inr (device.0, device.1, HasRisen-before first second third le more device.2)

-- what holds of an error holds of the result that is it
pub at_err : {A E : Type 0} (P : Result A E → Type 0) (r : Result A E) (y z : E) → r ≡ Err y → y ≡ z → P (Err z) → P r
at_err P r y z is same holds = subst P (sym (is ∙ ap Err same)) holds

-- nothing is first of nothing alone
pub none_first : {X : Type 0} (xs : List X) → first_of xs ≡ None → xs ≡ []
none_first [] e = refl
none_first (x ∷ xs) e = absurd (cc)

-- the first of two lists, one after the other
pub prefix_first : {X : Type 0} (xs ys : List X) (x : X) → first_of xs ≡ Some x → first_of (xs ++ ys) ≡ Some x
prefix_first [] ys x e = absurd (cc)
prefix_first (y ∷ xs) ys x e = e

pub back_first : {X : Type 0} (xs ys : List X) → xs ≡ [] → first_of (xs ++ ys) ≡ first_of ys
back_first xs ys none = ap (λ zs. first_of (zs ++ ys)) none
