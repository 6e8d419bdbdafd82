-- What the text of a file parses as in a notation: that of scripts or that of settings.
use Rattle.std.specs.Prelude.{ℕ, ◌≡◌, ◌⊎◌, true, false, List, [], Option, None, Some, Result}
use Rattle.std.specs.Prelude.{Ok, Err, MatchResult}
use Rattle.gb_folder.specs.Files.{Place, Bytes, Files, file_at, is_blocked}
use Rattle.gb_folder.specs.declared.folder.FolderFault.{FolderFault}
use Rattle.gb_folder.specs.declared.folder.FolderFault.TheVariants as folders
use Rattle.gb_report.specs.declared.fault.Fault.{Fault}
use Rattle.gb_report.specs.declared.fault.Fault.TheVariants as faults
use Rattle.gb_script.specs.declared.fault.ScriptFault.{ScriptFault}
use Rattle.gb_script.specs.declared.fault.ScriptFault.TheVariants as scripts
use Rattle.gb_folder.specs.Faults.{IsOfMachine, reported_at}

-- a fault of a text, with the place of its file
abbrev pub in_file : Place → ScriptFault → Fault
in_file place scripts.OutOfMemory = faults.OutOfMemory
in_file place (scripts.Syntax line) = faults.Syntax place line
in_file place scripts.TooLong = faults.TooLong place
in_file place (scripts.TooDeep line) = faults.TooDeep place line
in_file place scripts.NotUtf8 = faults.NotUtf8 place

-- a folder's fault where a text is read: a file that is too large is a text that is too long
abbrev pub unread_at : Place → FolderFault → Fault
unread_at place folders.TooLarge = faults.TooLong place
unread_at place other = reported_at place other

-- the notation: what bytes parse as, or their fault
module _ {X : Type 0} (MeansAs : Bytes → Result (List X) ScriptFault → Type 0) where
  -- what a file at the place declares; where there is none, nothing is declared
  abbrev pub FileMeans : Place → Option Bytes → Result (List X) Fault → Type 0
  FileMeans place None said = said ≡ Ok []
  FileMeans place (Some bytes) (Ok said) = MeansAs bytes (Ok said)
  FileMeans place (Some bytes) (Err fault) =
      (reported : ScriptFault) × MeansAs bytes (Err reported) × (fault ≡ in_file place reported)

  -- what the file at the place declares, or that another file is in its way
  abbrev pub TextMeans : Files → Place → Result (List X) Fault → Type 0
  TextMeans files place said =
      ((is_blocked files place ≡ true) × (said ≡ Err (faults.Blocked place)))
      ⊎ ((is_blocked files place ≡ false) × FileMeans place (file_at files place) said)

-- A call returns what is declared, or its fault; or the fault of the machine that prevented it, between these
-- counts.
abbrev pub Reports : {X : Type 0} → (Result X Fault → Type 0) → ℕ → ℕ → Result X Fault → Type 0
Reports Means before after result =
    MatchResult result (λ said. Means (Ok said)) (λ fault. IsOfMachine before after fault ⊎ Means (Err fault))
