-- What was decided and read in an execution, as calls returned it.
use Rattle.std.specs.Prelude.{ℕ, ◌≡◌, Bool, List, [], ◌∷◌, map, Option, Result, Ok, Err, IfOk, false}
use Rattle.std.specs.List.{AllZip}
use Rattle.std.proofs.Common.{refl, sym, ap, ap₂, subst, ◌∙◌}
use mathlib.Core.Bool.{true≢false}
use Rattle.gb_action.specs.Changes.{Changes}
use Rattle.gb_action.specs.Files.{Tree, Trees}
use Rattle.gb_action.specs.declared.output_files.Form.{Form}
use Rattle.gb_action.specs.declared.output_files.OutputFiles.{OutputFiles}
use Rattle.gb_history.specs.Record.{Prints, Record}
use Rattle.gb_history.specs.declared.decide.Decision.{Decision}
use Rattle.gb_history.specs.declared.decide.Decision.TheVariants as decisions
use Rattle.gb_label.specs.Answered.{IsFoundCurrent, WasDecided}
use Rattle.gb_label.specs.Deciding.{IsPresentOf}
use Rattle.gb_label.specs.Looking.{lacks_source}
use Rattle.gb_label.specs.Preparing.{MayPrepare}
use Rattle.gb_label.specs.declared.prepare.Prepared.{Prepared}
use Rattle.gb_label.specs.declared.prepare.Prepared.TheVariants as prepared
use Rattle.gb_plan.specs.Task.{Path, given_outputs}
use Rattle.gb_plan.specs.declared.task.FileProperty.{FileProperty}
use Rattle.gb_plan.specs.declared.task.Output.{Output}
use Rattle.gb_plan.specs.declared.task.TaskDeclaration.{TaskDeclaration as Task}
use Rattle.gb_report.specs.declared.fault.Fault.{Fault}
use Rattle.gb_report.specs.declared.report.Options.{Options}
use Rattle.gb_report.specs.declared.report.Outcome.TheVariants as outcomes
use Rattle.gb_tree.specs.Answered.{IsTreeRead, WereObserved}
use Rattle.gb_tree.specs.Prints.{digests_of}
use Rattle.gb_tree.specs.Reading.{digests_observed, entries_observed}
use Rattle.gb_tree.specs.declared.kept.ScannedFile.{ScannedFile}
use Rattle.gb_label.specs.ReadingAnswered.{AreInputsAnswered, AreInputsRead, AreOutputsAnswered, AreOutputsRead, IsInputAnswered, IsInputRead, IsOutputAnswered, IsOutputRead}
use Rattle.gb_label.specs.Reading.{AreInputs, AreOutputs, Read, digests_in, prints_read, prints_observed, records_with}
use Rattle.gb_task.specs.Recheck.{recheck_by}
use Rattle.gb_task.specs.Current.{IsCurrentOn, WasPreparedSince, WasReadRecheck, WasSettled}
use Rattle.gb_task.specs.Settled.{settled_as}
use Rattle.gb_task.specs.Executing.{cleared_outcome, outcome_of}
use Rattle.gb_label.specs.declared.inputs.Inputs.{Inputs}
use Rattle.gb_label.specs.declared.outputs.Outputs.{Outputs}
use Rattle.gb_folder.specs.Calls.{Device}

first_name : (a b : List ℕ) (l m : List (List ℕ)) → a ∷ l ≡ b ∷ m → a ≡ b
first_name a b l m e = cc

other_names : (a b : List ℕ) (l m : List (List ℕ)) → a ∷ l ≡ b ∷ m → l ≡ m
other_names a b l m e = cc

module _ {F : Type 0} (device : Device F) (old new : F) where
  -- ---- the contents whose digests were taken

  abbrev tree_of_observed : (files : List ScannedFile) → WereObserved device old new files → Tree
  tree_of_observed [] were = []
  tree_of_observed (observed ∷ files) were = (observed.path, were.0.0) ∷ tree_of_observed files were.1

  tree_was_read : (files : List ScannedFile) (were : WereObserved device old new files)
      → IsTreeRead device old new (entries_observed files) (tree_of_observed files were)
  tree_was_read [] were = tt
  tree_was_read (observed ∷ files) were = ((refl, were.0.1), tree_was_read files were.1)

  tree_digests : (files : List ScannedFile) (were : WereObserved device old new files) → digests_of (tree_of_observed files were) ≡ digests_observed files
  tree_digests [] were = refl
  tree_digests (observed ∷ files) were =
      ap₂ (λ (digest : List ℕ) (tree : Tree). (observed.path, digest) ∷ tree) (sym were.0.2) (tree_digests files were.1)

  abbrev trees_observed : (properties : List FileProperty) (readings : List Read) → AllZip (IsInputAnswered device old new) properties readings → Trees
  trees_observed [] [] were = []
  trees_observed [] (reading ∷ readings) were = []
  trees_observed (property ∷ properties) [] were = []
  trees_observed (property ∷ properties) (reading ∷ readings) were =
      (reading.0, tree_of_observed reading.1 were.0.1) ∷ trees_observed properties readings were.1

  trees_were_read : (properties : List FileProperty) (readings : List Read) (were : AllZip (IsInputAnswered device old new) properties readings)
      → AllZip (IsInputRead device old new) properties (trees_observed properties readings were)
  trees_were_read [] [] were = tt
  trees_were_read [] (reading ∷ readings) were = absurd were
  trees_were_read (property ∷ properties) [] were = absurd were
  trees_were_read (property ∷ properties) (reading ∷ readings) were =
      ((entries_observed reading.1, were.0.0, tree_was_read reading.1 were.0.1), trees_were_read properties readings were.1)

  trees_digests : (properties : List FileProperty) (readings : List Read) (were : AllZip (IsInputAnswered device old new) properties readings)
      → digests_in (trees_observed properties readings were) ≡ prints_read readings
  trees_digests [] [] were = refl
  trees_digests [] (reading ∷ readings) were = absurd were
  trees_digests (property ∷ properties) [] were = absurd were
  trees_digests (property ∷ properties) (reading ∷ readings) were =
      ap₂ (λ (tree : Tree) (trees : List Prints). (reading.0, tree) ∷ trees) (tree_digests reading.1 were.0.1) (trees_digests properties readings were.1)

  trees_named : (properties : List FileProperty) (readings : List Read) (were : AllZip (IsInputAnswered device old new) properties readings)
      → map (λ (tree : List ℕ × Tree). tree.0) (trees_observed properties readings were) ≡ map (λ (reading : Read). reading.0) readings
  trees_named [] [] were = refl
  trees_named [] (reading ∷ readings) were = absurd were
  trees_named (property ∷ properties) [] were = absurd were
  trees_named (property ∷ properties) (reading ∷ readings) were = ap (λ (names : List (List ℕ)). reading.0 ∷ names) (trees_named properties readings were.1)

  abbrev files_observed : (outputs : List Output) (readings : List Read) → AllZip (IsOutputAnswered device old new) outputs readings → List OutputFiles
  files_observed [] [] were = []
  files_observed [] (reading ∷ readings) were = []
  files_observed (output ∷ outputs) [] were = []
  files_observed (output ∷ outputs) (reading ∷ readings) were =
      record { name = reading.0; form = output.form; files = tree_of_observed reading.1 were.0.1 } ∷ files_observed outputs readings were.1

  files_were_read : (outputs : List Output) (readings : List Read) (were : AllZip (IsOutputAnswered device old new) outputs readings)
      → AllZip (IsOutputRead device old new) outputs (files_observed outputs readings were)
  files_were_read [] [] were = tt
  files_were_read [] (reading ∷ readings) were = absurd were
  files_were_read (output ∷ outputs) [] were = absurd were
  files_were_read (output ∷ outputs) (reading ∷ readings) were =
      ((entries_observed reading.1, were.0.0, tree_was_read reading.1 were.0.1), files_were_read outputs readings were.1)

  files_digests : (outputs : List Output) (readings : List Read) (were : AllZip (IsOutputAnswered device old new) outputs readings)
      → prints_observed (files_observed outputs readings were) ≡ prints_read readings
  files_digests [] [] were = refl
  files_digests [] (reading ∷ readings) were = absurd were
  files_digests (output ∷ outputs) [] were = absurd were
  files_digests (output ∷ outputs) (reading ∷ readings) were =
      ap₂ (λ (tree : Tree) (trees : List Prints). (reading.0, tree) ∷ trees) (tree_digests reading.1 were.0.1) (files_digests outputs readings were.1)

  files_formed : (outputs : List Output) (readings : List Read) (were : AllZip (IsOutputAnswered device old new) outputs readings)
      → map (λ (reading : Read). reading.0) readings ≡ map (λ (output : Output). output.name) outputs
      → map (λ (output : OutputFiles). let form : List ℕ × Form = (output.name, output.form) in form) (files_observed outputs readings were) ≡ given_outputs outputs
  files_formed [] [] were named = refl
  files_formed [] (reading ∷ readings) were named = absurd were
  files_formed (output ∷ outputs) [] were named = absurd were
  files_formed (output ∷ outputs) (reading ∷ readings) were named =
      ap₂ (λ (name : List ℕ) (forms : List (List ℕ × Form)). (name, output.form) ∷ forms) (first_name _ _ _ _ named)
      (files_formed outputs readings were.1 (other_names _ _ _ _ named))

  -- ---- what is decided

  current_on : (options : Options) (task : Task) (last : Option Record) (inputs outputs : List Read) → AreInputs task inputs → lacks_source task.files inputs ≡ false
      → AreInputsAnswered device old new task inputs
      → AreOutputs task outputs → AreOutputsAnswered device old new task outputs
      → IsFoundCurrent options task last (prints_read inputs) (prints_read outputs) → IsCurrentOn device options task last old new
  current_on options task last inputs outputs of source read are existed found = record {
    run = found.run;
    remembered = found.read;
    trees = trees_observed task.files inputs read;
    inputs_read = trees_were_read task.files inputs read;
    named = trees_named task.files inputs read ∙ of.named;
    sourced = (inputs, read, source);
    observed = files_observed task.outputs outputs existed;
    outputs_read = files_were_read task.outputs outputs existed;
    formed = files_formed task.outputs outputs existed are.named;
    present = found.present;
    has = subst (λ (ins : List Prints). IsPresentOf options task ins (records_with task.outputs (prints_observed (files_observed task.outputs outputs existed))) found.present)
        (sym (trees_digests task.files inputs read))
        (subst (λ (outs : List Prints). IsPresentOf options task (prints_read inputs) (records_with task.outputs outs) found.present)
        (sym (files_digests task.outputs outputs existed)) found.has);
    decides = found.decides;
  }

  -- where an incremental run was decided, calls returned the outputs that the decision is based on
  pub outputs_answered : (options : Options) (task : Task) (last : Option Record) (inputs : List Read) (decision : Decision) (changes : List Changes) (outputs : List Read)
      → decision ≡ decisions.Incremental changes → WasDecided device old new options task last inputs decision outputs
      → AreOutputsAnswered device old new task outputs
  outputs_answered options task last inputs decision changes outputs is was =
      by (subst (λ (d : Decision). WasDecided device old new options task last inputs d outputs) is was)
    where
      by : WasDecided device old new options task last inputs (decisions.Incremental changes) outputs → AreOutputsAnswered device old new task outputs
      by so = so

  pub read_recheck : (task : Task) (decision : Decision) (inputs : Inputs) (outputs : Outputs) → AreInputsRead device old new task inputs.trees
      → AreOutputsRead device old new task outputs.observed → WasReadRecheck device old new task (recheck_by decision inputs outputs)
  read_recheck task decisions.UpToDate inputs outputs read existed = read
  read_recheck task (decisions.Incremental changes) inputs outputs read existed = (read, existed)
  read_recheck task decisions.Full inputs outputs read existed = read

-- ---- what is reported, or due

module _ {F : Type 0} (device : Device F) (since old new : F) (options : Options) (task : Task) (last : Option Record) where
  pub was_settled : (path : Path) (need : Bool) (result : Result Prepared Fault) → IfOk result (MayPrepare task)
      → IfOk result (WasPreparedSince device since old new options task last)
      → WasSettled device since old new options task last (settled_as task path result need)
  was_settled path need (Err fault) may was = λ reported acts. absurd (let e = reported in (cc))
  was_settled path need (Ok prepared.Skips) may was = λ reported acts. absurd (let e = reported in (cc))
  was_settled path need (Ok prepared.HasNoActions) may was = λ reported acts. absurd (true≢false (sym may.1 ∙ acts))
  was_settled path need (Ok prepared.HasNoSource) may was = was
  was_settled path need (Ok (prepared.Decided decisions.UpToDate basis observed)) may was =
      λ reported acts. current_on device since new options task last observed.inputs.items observed.outputs.items was.0 may.2 was.1 was.2.0 was.2.1 was.2.2
  was_settled path need (Ok (prepared.Decided (decisions.Incremental changes) basis observed)) may was = (was.1, was.2)
  was_settled path need (Ok (prepared.Decided decisions.Full basis observed)) may was = (was.1, was.2)

-- the outcome of a run, or of deleted outputs, is never that the task is up to date
pub run_not_current : (ended : Result (Unit {0}) Fault) → ¬ (outcome_of ended ≡ outcomes.UpToDate)
run_not_current (Ok done) e = absurd (cc)
run_not_current (Err fault) e = absurd (cc)

pub cleared_not_current : (ended : Result (Unit {0}) Fault) → ¬ (cleared_outcome ended ≡ outcomes.UpToDate)
cleared_not_current (Ok done) e = absurd (cc)
cleared_not_current (Err fault) e = absurd (cc)
