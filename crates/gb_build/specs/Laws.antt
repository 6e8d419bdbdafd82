-- Laws of what folders declare.
use Rattle.std.specs.Prelude.{ℕ, ◌≡◌, ◌↔◌, not, List, Result}
use Rattle.gb_folder.specs.Files.{Files, files_where, is_own}
use Rattle.gb_registry.specs.Source.{Source}
use Rattle.gb_registry.specs.Tables.{Tables}
use Rattle.gb_report.specs.declared.fault.Fault.{Fault}
use Rattle.gb_build.specs.Scripts.{FolderDeclares}

-- a folder declares no two things
abbrev pub FoldersDeclareOneThing : {M F Z S A : Type 0} → Tables M F Z S A → Type 0
FoldersDeclareOneThing tables =
    (files : Files) (given : List (List ℕ × List ℕ)) (a b : Result Source Fault)
    → FolderDeclares tables files given a → FolderDeclares tables files given b → a ≡ b

-- what a folder declares it declares without the tool's own files
abbrev pub OwnFilesDeclareNothing : {M F Z S A : Type 0} → Tables M F Z S A → Type 0
OwnFilesDeclareNothing tables =
    (files : Files) (given : List (List ℕ × List ℕ)) (said : Result Source Fault)
    → FolderDeclares tables (files_where (λ place. not (is_own place)) files) given said
    ↔ FolderDeclares tables files given said
