-- Digests with the outputs that they are of.
use Rattle.std.specs.Prelude.{◌≡◌, ℕ, List, [], ◌∷◌, map}
use Rattle.std.proofs.Common.{refl, sym, ap, subst, ◌∙◌}
use Rattle.gb_folder.specs.Files.{Files}
use Rattle.gb_history.specs.Record.{Prints, prints_in}
use Rattle.gb_history.specs.declared.decide.Decision.{Decision}
use Rattle.gb_history.specs.declared.decide.Decision.TheVariants as decisions
use Rattle.gb_history.specs.declared.record.OutputRecord.{OutputRecord}
use Rattle.gb_plan.specs.declared.task.Output.{Output}
use Rattle.gb_plan.specs.declared.task.TaskDeclaration.{TaskDeclaration as Task}
use Rattle.gb_label.specs.Reading.{AreOutputs, AreOutputsObserved, Read, prints_read, recorded_of, records_with}
use Rattle.gb_label.specs.Deciding.{AreOutputsFor, AreOutputsObservedFor}

-- as many digests as outputs are in as many records
pub prints_with : (outputs : List Output) (prints : List Prints) → map (λ (found : Prints). found.0) prints ≡ map (λ (output : Output). output.name) outputs
    → prints_in (records_with outputs prints) ≡ prints
prints_with [] [] same = refl
prints_with [] (found ∷ prints) same = absurd (cc)
prints_with (output ∷ outputs) [] same = absurd (cc)
prints_with (output ∷ outputs) (found ∷ prints) same = ap (λ (l : List Prints). found ∷ l) (prints_with outputs prints (rest same))
  where
    rest : found.0 ∷ map (λ (f : Prints). f.0) prints ≡ output.name ∷ map (λ (o : Output). o.name) outputs
        → map (λ (f : Prints). f.0) prints ≡ map (λ (o : Output). o.name) outputs
    rest e = cc

-- the digests of the current files make the records of them
pub with_existing : (files : Files) (outputs : List Output) → records_with outputs (prints_in (map (recorded_of files) outputs)) ≡ map (recorded_of files) outputs
with_existing files [] = refl
with_existing files (output ∷ outputs) = ap (λ (l : List OutputRecord). recorded_of files output ∷ l) (with_existing files outputs)

pub names_with : (outputs : List Output) (prints : List Prints) → map (λ (found : Prints). found.0) prints ≡ map (λ (output : Output). output.name) outputs
    → map (λ (found : Prints). found.0) (prints_in (records_with outputs prints)) ≡ map (λ (output : Output). output.name) outputs
names_with outputs prints same = ap (map (λ (found : Prints). found.0)) (prints_with outputs prints same) ∙ same

pub names_read : (readings : List Read) → map (λ (found : Prints). found.0) (prints_read readings) ≡ map (λ (reading : Read). reading.0) readings
names_read [] = refl
names_read (reading ∷ readings) = ap (λ (names : List (List ℕ)). reading.0 ∷ names) (names_read readings)

-- ---- what was read for a decision

pub read_for : (task : Task) (decision : Decision) (outputs : List Read) → AreOutputs task outputs → AreOutputsFor task decision outputs
read_for task decisions.UpToDate outputs are = tt
read_for task (decisions.Incremental changes) outputs are = are
read_for task decisions.Full outputs are = tt

pub observed_for : (task : Task) (files : Files) (decision : Decision) (outputs : List Read) → AreOutputsObserved task files outputs → AreOutputsObservedFor task files decision outputs
observed_for task files decisions.UpToDate outputs are = are
observed_for task files (decisions.Incremental changes) outputs are = are
observed_for task files decisions.Full outputs are = tt

-- for a full execution nothing has to be read
pub none_for : (task : Task) (decision : Decision) (outputs : List Read) → decision ≡ decisions.Full → AreOutputsFor task decision outputs
none_for task decision outputs full = subst (λ (d : Decision). AreOutputsFor task d outputs) (sym full) tt

pub none_observed_for : (task : Task) (files : Files) (decision : Decision) (outputs : List Read) → decision ≡ decisions.Full → AreOutputsObservedFor task files decision outputs
none_observed_for task files decision outputs full = subst (λ (d : Decision). AreOutputsObservedFor task files d outputs) (sym full) tt
