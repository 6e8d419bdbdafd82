-- Worked folders, by computation.
use Rattle.std.proofs.Common.{◌≡◌, [], ◌∷◌, Ok, Err, refl, inl, inr}
use Rattle.std.specs.Prelude.{codes}
use Rattle.gb_report.specs.declared.fault.Fault.{Fault}
use Rattle.gb_report.specs.declared.fault.Fault.TheVariants as faults
use Rattle.gb_registry.specs.Projects.{projects_of}
use Rattle.gb_registry.specs.Source.{source_of}
use Rattle.gb_registry.specs.Tables.{Tables}
use Rattle.gb_build.proofs.OneLemmas.{folders_one}
use Rattle.gb_build.specs.Scripts.{FolderDeclares, script_places}

-- the scripts of two projects and of one in a project
places : script_places (projects_of ((codes "lib:a" ∷ codes "b" ∷ []) ∷ []))
    ≡ codes "build.gb" ∷ codes "lib/build.gb" ∷ codes "lib/a/build.gb" ∷ codes "b/build.gb" ∷ []
places = refl

module _ {M F Z S A : Type 0} (tables : Tables M F Z S A) where
  -- a folder without a file declares that the root declares nothing
  nothing : FolderDeclares tables [] [] (Ok (source_of [] ([] ∷ []) []))
  nothing = ([], ([], inr (refl, refl), (refl, refl)), ([] ∷ [], (inr (refl, refl), tt), (refl, refl)))

  -- and has no fault
  no_fault : (fault : Fault) → FolderDeclares tables [] [] (Err fault) → ⊥
  no_fault fault says = let e = folders_one tables [] [] (Err fault) (Ok (source_of [] ([] ∷ []) [])) says nothing in cc

  -- a folder is where the script of the root would be
  blocked : FolderDeclares tables ((codes "build.gb/x", []) ∷ []) [] (Err (faults.Blocked (codes "build.gb")))
  blocked =
      inr (
        [],
        ([], inr (refl, refl), (refl, refl)),
        inl (record {
          prefix = [];
          place = codes "build.gb";
          back = [];
          texts = [];
          all = refl;
          before = tt;
          here = inl (refl, refl);
        }),
      )

  -- one is where settings would be, which comes first
  blocked_settings : FolderDeclares tables ((codes "build.gb/x", []) ∷ (codes "settings.gb/x", []) ∷ []) [] (Err (faults.Blocked (codes "settings.gb")))
  blocked_settings = inl (inl (inl (refl, refl)))
