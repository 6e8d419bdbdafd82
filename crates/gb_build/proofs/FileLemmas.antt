-- What the file at a place declares, by the folder's answers.
use Rattle.std.proofs.Common.{◌≡◌, ◌≢◌, ◌<◌, ◌⊎◌, ℕ, true, false, List, [], Option, None, Some, Result, Ok, Err, IsSomeAnd, length, refl, sym, ap, subst, inl, inr}
use Rattle.std.specs.Prelude.{MatchResult}
use Rattle.gb_folder.specs.Files.{Place, Bytes, Files, HasRisen, IsFolder, file_at, is_blocked}
use Rattle.gb_folder.specs.declared.folder.FolderFault.{FolderFault}
use Rattle.gb_folder.specs.declared.folder.FolderFault.TheVariants as folders
use Rattle.gb_report.specs.declared.fault.Fault.{Fault}
use Rattle.gb_report.specs.declared.fault.Fault.TheVariants as faults
use Rattle.gb_script.specs.declared.fault.ScriptFault.{ScriptFault}
use Rattle.gb_script.specs.declared.fault.ScriptFault.TheVariants as scripts
use Rattle.gb_folder.specs.Faults.{IsOfMachine}
use Rattle.gb_folder.proofs.Free.{free_at}
use Rattle.gb_build.specs.Texts.{FileMeans, Reports, TextMeans, unread_at}

module _ {X : Type 0} (MeansAs : Bytes → Result (List X) ScriptFault → Type 0) (files : Files) (place : Place) where
  -- the file exists, and its bytes declare this
  said_there : (bytes : Bytes) (said : Result (List X) Fault) → IsFolder files → file_at files place ≡ Some bytes → FileMeans MeansAs place (Some bytes) said
      → TextMeans MeansAs files place said
  said_there bytes said sound exists says =
      inr (free_at files place bytes sound exists, subst (λ o. FileMeans MeansAs place o said) (sym exists) says)

  -- the file exists, and what its bytes declare is returned
  pub reported_there : (before after : ℕ) (bytes : Bytes) (result : Result (List X) Fault) → IsFolder files → file_at files place ≡ Some bytes
      → MatchResult result (λ said. MeansAs bytes (Ok said)) (λ fault. (fault ≡ faults.OutOfMemory) ⊎ FileMeans MeansAs place (Some bytes) (Err fault))
      → Reports (TextMeans MeansAs files place) before after result
  reported_there before after bytes (Ok said) sound exists says = said_there bytes (Ok said) sound exists says
  reported_there before after bytes (Err fault) sound exists (inl memory) = inl (inl memory)
  reported_there before after bytes (Err fault) sound exists (inr reported) = inr (said_there bytes (Err fault) sound exists reported)

  -- no file exists there, and none is in the way of one
  pub nothing_there : (said : List X) → said ≡ [] → file_at files place ≡ None → is_blocked files place ≡ false → TextMeans MeansAs files place (Ok said)
  nothing_there said empty none free = inr (free, subst (λ o. FileMeans MeansAs place o (Ok said)) (sym none) (ap Ok empty))

  long_there : IsFolder files → ((bytes : Bytes) → 1048576 < length bytes → MeansAs bytes (Err scripts.TooLong)) → (o : Option Bytes) → file_at files place ≡ o
      → IsSomeAnd o (λ bytes. 1048576 < length bytes) → TextMeans MeansAs files place (Err (faults.TooLong place))
  long_there sound says None is h = absurd h
  long_there sound says (Some bytes) is h = said_there bytes (Err (faults.TooLong place)) sound is (scripts.TooLong, says bytes h, refl)

  -- the folder refused, but not for want of a file
  pub unread_there : (before after : ℕ) (fault : FolderFault) (reported : Fault) → IsFolder files → ((bytes : Bytes) → 1048576 < length bytes → MeansAs bytes (Err scripts.TooLong))
      → (fault ≡ folders.Device → HasRisen before after) → fault ≢ folders.Missing → (fault ≡ folders.Blocked → is_blocked files place ≡ true)
      → (fault ≡ folders.TooLarge → IsSomeAnd (file_at files place) (λ bytes. 1048576 < length bytes)) → fault ≢ folders.BadFileName → reported ≡ unread_at place fault
      → IsOfMachine before after reported ⊎ TextMeans MeansAs files place (Err reported)
  unread_there before after folders.OutOfMemory reported sound says rose missing blocked large named is = inl (inl is)
  unread_there before after folders.Device reported sound says rose missing blocked large named is = inl (inr (place, is, rose refl))
  unread_there before after folders.Missing reported sound says rose missing blocked large named is = absurd (missing refl)
  unread_there before after folders.Blocked reported sound says rose missing blocked large named is = inr (inl (blocked refl, ap Err is))
  unread_there before after folders.TooLarge reported sound says rose missing blocked large named is =
      inr (subst (λ f. TextMeans MeansAs files place (Err f)) (sym is) (long_there sound says (file_at files place) refl (large refl)))
  unread_there before after folders.BadFileName reported sound says rose missing blocked large named is = absurd (named refl)
