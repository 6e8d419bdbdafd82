-- Why the scripts of a folder could not be read is why an invocation is not built.
use Rattle.std.specs.Prelude.{ℕ, ◌≡◌, ◌⊎◌, ◌||◌, ◌&&◌, IsTrue, not, List, Err, Ok, Result, bytes_eq, codes}
use Rattle.std.proofs.Common.{refl, sym, ap, subst, ◌∙◌, inl, inr}
use Rattle.gb_folder.specs.Files.{Contents, HasRisen, Place, is_own}
use Rattle.gb_semantics.specs.declared.events.Invocation.{Invocation}
use Rattle.gb_semantics.specs.Events.{IsNotBuilt, is_read_first}
use Rattle.gb_semantics.specs.Edits.{Shown}
use Rattle.gb_semantics.specs.TrueRecord.{outside}
use Rattle.gb_plan.proofs.Tests.{or_right}
use Rattle.gb_report.specs.declared.fault.Fault.{Fault}
use Rattle.gb_report.specs.declared.fault.Fault.TheVariants as faults
use Rattle.gb_tree.specs.Property.{last_segment}
use Rattle.gb_registry.specs.Source.{Source}
use Rattle.gb_registry.specs.Tables.{Tables}
use Rattle.gb_build.proofs.OwnLemmas.{own_say_nothing}
use Rattle.gb_build.specs.Scripts.{FolderDeclares, is_script_place}
use Rattle.gb_folder.specs.Faults.{BlamesOnly, IsOfMachine}
use Rattle.gb_declare.specs.Registered.{registry_said}
use Rattle.gb_build.specs.Registering.{registers_in}

module _ {M F Z S A : Type 0} (tables : Tables M F Z S A) (contents : Contents) where
  -- what the whole folder declares with these values, it declares without the tool's own files
  says_outside : (given other : List (List ℕ × List ℕ)) → given ≡ other → (said : Result Source Fault) → FolderDeclares tables contents.files given said
      → FolderDeclares tables (outside contents).files other said
  says_outside given other same said says =
      subst (λ (values : List (List ℕ × List ℕ)). FolderDeclares tables (outside contents).files values said) same ((own_say_nothing tables contents.files given said).1 says)

  -- the tasks that it declares are registered
  pub registered : (given other : List (List ℕ × List ℕ)) → given ≡ other → (source : Source) → FolderDeclares tables contents.files given (Ok source)
      → registers_in tables (outside contents).files other (Ok (registry_said tables source))
  registered given other same source says = (source, says_outside given other same (Ok source) says, refl)

  -- a fault of the scripts or of the machine ends the invocation
  pub not_read : {X : Type 0} (invocation : Invocation) (given : List (List ℕ × List ℕ)) → given ≡ invocation.properties
      → (read : Result X Fault) (fault reported : Fault) (before after : ℕ) → read ≡ Err fault → reported ≡ fault → BlamesOnly is_script_place read
      → IsOfMachine before after fault ⊎ FolderDeclares tables contents.files given (Err fault)
      → (old : Shown) → old.contents ≡ contents → old.failures ≡ before → IsNotBuilt (registers_in tables) old invocation reported after
  not_read invocation given same read fault reported before after was is blamed (inl (inl out)) old here now = inr (inr (inl (is ∙ out)))
  not_read invocation given same read fault reported before after was is blamed (inl (inr (place, device, risen))) old here now =
      inr (inr (inr (
        place,
        ap (λ b. b || (is_own place && not invocation.options.dry_run)) (blamed place (was ∙ ap Err device)),
        (subst (λ (n : ℕ). HasRisen n after) (sym now) risen, is ∙ device),
      )))
  not_read invocation given same read fault reported before after was is blamed (inr says) old here now =
      inl (subst (λ (c : Contents). FolderDeclares tables (outside c).files invocation.properties (Err reported)) (sym here)
      (subst (λ (f : Fault). FolderDeclares tables (outside contents).files invocation.properties (Err f)) (sym is) (says_outside given invocation.properties same (Err fault) says)))

-- a script is read first
pub read_first : {X : Type 0} (invocation : Invocation) (read : Result X Fault) (fault reported : Fault) → read ≡ Err fault → reported ≡ fault → BlamesOnly is_script_place read
    → (place : Place) → reported ≡ faults.Device place → IsTrue (is_read_first invocation.options place)
read_first invocation read fault reported was is blamed place device =
    ap (λ b. b || (is_own place && not invocation.options.dry_run)) (blamed place (was ∙ ap Err (sym is ∙ device)))

-- so is the tool's own, except in a dry run
pub own_is_read_first : (invocation : Invocation) (place : Place) → IsTrue (is_own place && not invocation.options.dry_run) → IsTrue (is_read_first invocation.options place)
own_is_read_first invocation place own =
    or_right (bytes_eq place (codes "settings.gb") || bytes_eq (last_segment place) (codes "build.gb")) _ own
