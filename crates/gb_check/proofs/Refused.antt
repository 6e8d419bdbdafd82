-- Why scripts have no lines.
use Rattle.std.proofs.Common.{◌≡◌, ◌≢◌, ◌<◌, ◌≤◌, ◌⊎◌, ℕ, false, List, Option, None, Some, Result, Ok, Err, IsSomeAnd, IsTrue, length, refl, sym, subst, inl, inr}
use Rattle.std.specs.Prelude.{Contains, IfErr, codes}
use Rattle.std.specs.Result.{IsErrAnd}
use Rattle.gb_core.specs.Place.{is_place}
use Rattle.gb_folder.specs.Files.{Bytes, Files, HasRisen, Place, file_at, is_blocked}
use Rattle.gb_folder.specs.declared.folder.FolderFault.{FolderFault}
use Rattle.gb_folder.specs.declared.folder.FolderFault.TheVariants as folders
use Rattle.gb_registry.specs.Projects.{Path}
use Rattle.gb_report.specs.declared.fault.Fault.{Fault}
use Rattle.gb_report.specs.declared.fault.Fault.TheVariants as faults
use Rattle.gb_script.specs.Script.{HasMeaning}
use Rattle.gb_script.specs.declared.fault.ScriptFault.{ScriptFault}
use Rattle.gb_script.specs.declared.fault.ScriptFault.TheVariants as texts
use Rattle.gb_script.specs.declared.script.Statement.{Statement}
use Rattle.gb_folder.proofs.Machine.{machine_before}
use Rattle.gb_folder.specs.Faults.{IsOfMachine}
use Rattle.gb_check.specs.Sites.{HasTextFault, IsUnread, blocked, in_file, no_place, no_script, script_of_project, unread_at}

-- what holds of a fault that is returned holds of the result
pub handed : {T : Type 0} (Bad : Fault → Type 0) (result : Result T Fault) (fault : Fault) → IsErrAnd result (λ f. f ≡ fault) → Bad fault → IfErr result Bad
handed Bad (Ok x) fault is bad = absurd is
handed Bad (Err f) fault is bad = subst Bad (sym is) bad

module _ (files : Files) (place : Place) where
  -- the folder refused, but not because the file is missing
  pub unread_there : (before after : ℕ) (fault : FolderFault) (reported : Fault) → (reported ≡ faults.OutOfMemory) ⊎ (reported ≡ unread_at place fault)
      → (fault ≡ folders.Device → HasRisen before after) → fault ≢ folders.Missing → (fault ≡ folders.Blocked → IsTrue (is_blocked files place))
      → (fault ≡ folders.TooLarge → IsSomeAnd (file_at files place) (λ bytes. 1048576 < length bytes)) → fault ≢ folders.BadFileName
      → IsOfMachine before after reported ⊎ HasTextFault files place reported
  unread_there before after fault reported (inl memory) rose missing in_way large named = inl (inl memory)
  unread_there before after folders.OutOfMemory reported (inr is) rose missing in_way large named = inl (inl is)
  unread_there before after folders.Device reported (inr is) rose missing in_way large named = inl (inr (place, is, rose refl))
  unread_there before after folders.Missing reported (inr is) rose missing in_way large named = absurd (missing refl)
  unread_there before after folders.Blocked reported (inr is) rose missing in_way large named = inr (blocked (in_way refl) is)
  unread_there before after folders.TooLarge reported (inr is) rose missing in_way large named = long (file_at files place) refl (large refl)
    where
      long : (o : Option Bytes) → file_at files place ≡ o → IsSomeAnd o (λ bytes. 1048576 < length bytes) → IsOfMachine before after reported ⊎ HasTextFault files place reported
      long None at h = absurd h
      long (Some bytes) at h = inr (no_script bytes texts.TooLong at h is)
  unread_there before after folders.BadFileName reported (inr is) rose missing in_way large named = absurd (named refl)

  -- the bytes of the file are no script
  pub no_script_there : (before after : ℕ) (bytes : Bytes) (reported : Fault) → file_at files place ≡ Some bytes
      → (reported ≡ faults.OutOfMemory) ⊎ ((of : ScriptFault) × HasMeaning bytes (Err of) × (reported ≡ in_file place of)) → IsOfMachine before after reported ⊎ HasTextFault files place reported
  no_script_there before after bytes reported at (inl memory) = inl (inl memory)
  no_script_there before after bytes reported at (inr (of, says, is)) = inr (no_script bytes of at says is)

  -- there is no such place
  pub nowhere : (before after : ℕ) (reported : Fault) → (reported ≡ faults.OutOfMemory) ⊎ ((is_place place ≡ false) × (reported ≡ faults.BadPlace (codes "build.gb")))
      → IsOfMachine before after reported ⊎ HasTextFault files place reported
  nowhere before after reported (inl memory) = inl (inl memory)
  nowhere before after reported (inr (bad, is)) = inr (no_place bad is)

-- one of the scripts has no lines, after some calls
pub unread_one : (files : Files) (scripts : List (Path × List Statement)) (script : Path × List Statement) (before mid after : ℕ) (fault : Fault) → Contains scripts script
    → before ≤ mid → mid ≤ after → IsOfMachine mid after fault ⊎ HasTextFault files (script_of_project script.0) fault → IsOfMachine before after fault ⊎ IsUnread files scripts fault
unread_one files scripts script before mid after fault there first then (inl machine) = inl (machine_before before mid after fault first then machine)
unread_one files scripts script before mid after fault there first then (inr has) = inr (record { script = script; is_one = there; has = has })
