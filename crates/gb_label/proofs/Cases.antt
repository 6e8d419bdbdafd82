-- The case of a task, by the faults of reading it and by its source.
use Rattle.std.specs.Prelude.{ℕ, ◌≡◌, ◌≤◌, ◌++◌, not, Bool, true, false, List, [], ◌∷◌, Option, None, Some, if◌then◌else◌}
use Rattle.std.proofs.Common.{refl, sym, ap, ◌∙◌, inl, inr}
use Rattle.gb_core.specs.Lists.{first_of}
use Rattle.gb_folder.specs.Files.{Contents, is_empty}
use Rattle.gb_semantics.specs.Label.{Early, HasNoActions, HasNoSource, Skips, early_case}
use Rattle.gb_semantics.specs.Label as label
use Rattle.gb_semantics.specs.Tree.{has_no_source, input_faults, listing_faults}
use Rattle.gb_semantics.proofs.Common.{none_some}
use Rattle.gb_plan.specs.declared.task.TaskDeclaration.{TaskDeclaration as Task}
use Rattle.gb_report.specs.declared.fault.Fault.{Fault}
use Rattle.gb_folder.proofs.Machine.{machine_before}
use Rattle.gb_label.specs.Reading.{CannotRead}
use Rattle.gb_label.specs.Looking.{IsHindered}
use Rattle.gb_run.proofs.Placed.{none_after}

abbrev pub cased : Bool → Bool → List Fault → Bool → Option Early
cased runs idle hindrances dry =
    if not runs then Some Skips
    else if idle then Some HasNoActions
    else if not (is_empty hindrances) then Some (label.CannotRead hindrances)
    else if dry then Some HasNoSource
    else None

goes : (runs idle : Bool) (hindrances : List Fault) (dry : Bool) → runs ≡ true → idle ≡ false → cased runs idle hindrances dry ≡ cased true false hindrances dry
goes runs idle hindrances dry is acts = ap (λ b. cased b idle hindrances dry) is ∙ ap (λ b. cased true b hindrances dry) acts

some_hindrance : (hindrances : List Fault) (dry : Bool) (fault : Fault) → first_of hindrances ≡ Some fault → cased true false hindrances dry ≡ Some (label.CannotRead hindrances)
some_hindrance [] dry fault is = none_some is
some_hindrance (first ∷ hindrances) dry fault is = refl

pub hindered : (task : Task) (folder : Contents) (fault : Fault) → task.runs ≡ true → is_empty task.actions ≡ false
    → first_of (input_faults task folder ++ listing_faults task folder) ≡ Some fault
    → (hindrances : List Fault) × (early_case task folder ≡ Some (label.CannotRead hindrances)) × (first_of hindrances ≡ Some fault)
hindered task folder fault runs acts first =
    let hindrances = input_faults task folder ++ listing_faults task folder in (
      hindrances,
      goes task.runs (is_empty task.actions) hindrances (has_no_source task folder.files) runs acts
          ∙ some_hindrance hindrances (has_no_source task folder.files) fault first,
      first,
    )

-- a task whose inputs can be read has only the faults of listing its outputs
pub hindered_at_outputs : (task : Task) (folder : Contents) (before after : ℕ) (fault : Fault) → task.runs ≡ true → is_empty task.actions ≡ false
    → input_faults task folder ≡ [] → CannotRead before after (listing_faults task folder) fault → IsHindered task folder before after fault
hindered_at_outputs task folder before after fault runs acts inputs (inl machine) = inl machine
hindered_at_outputs task folder before after fault runs acts inputs (inr first) =
    inr (hindered task folder fault runs acts (ap (λ faults. first_of (faults ++ listing_faults task folder)) inputs ∙ first))

-- a fault after other calls, which changed nothing, is a fault before them
pub cannot_before : (task : Task) (old now : Contents) (first second third : ℕ) (fault : Fault) → now ≡ old → first ≤ second → second ≤ third
    → CannotRead second third (listing_faults task now) fault → CannotRead first third (listing_faults task old) fault
cannot_before task old now first second third fault same le more (inl machine) = inl (machine_before first second third fault le more machine)
cannot_before task old now first second third fault same le more (inr special) =
    inr (ap (λ folder. first_of (listing_faults task folder)) (sym same) ∙ special)

-- the first of a prefix is the first of all
pub first_in_prefix : {X : Type 0} (xs ys : List X) (x : X) → first_of xs ≡ Some x → first_of (xs ++ ys) ≡ Some x
first_in_prefix [] ys x is = none_some is
first_in_prefix (z ∷ xs) ys x is = is

-- if it has no fault, its source decides
pub by_source : (task : Task) (folder : Contents) (dry : Bool) → task.runs ≡ true → is_empty task.actions ≡ false → input_faults task folder ≡ []
    → listing_faults task folder ≡ [] → has_no_source task folder.files ≡ dry → early_case task folder ≡ cased true false [] dry
by_source task folder dry runs acts inputs outputs source =
    goes task.runs (is_empty task.actions) _ (has_no_source task folder.files) runs acts
    ∙ ap (λ faults. cased true false (faults ++ listing_faults task folder) (has_no_source task folder.files)) inputs
    ∙ ap (λ faults. cased true false faults (has_no_source task folder.files)) outputs
    ∙ ap (cased true false []) source

-- a task of no case has no unsupported entry at its outputs
pub listed_if_none : (task : Task) (folder : Contents) → early_case task folder ≡ None → listing_faults task folder ≡ []
listed_if_none task folder none =
    none_after (input_faults task folder) (listing_faults task folder)
    (unhindered task.runs (is_empty task.actions) (input_faults task folder ++ listing_faults task folder) (has_no_source task folder.files) none)
  where
    unhindered : (runs idle : Bool) (hindrances : List Fault) (dry : Bool) → cased runs idle hindrances dry ≡ None → hindrances ≡ []
    unhindered false idle hindrances dry e = none_some (sym e)
    unhindered true true hindrances dry e = none_some (sym e)
    unhindered true false [] dry e = refl
    unhindered true false (f ∷ fs) dry e = none_some (sym e)
