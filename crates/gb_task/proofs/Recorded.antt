-- A stored record: what it has, and what exists then.
use Rattle.std.specs.Prelude.{◌≡◌, false, List, [], ◌∷◌, Ok, map, if◌then◌else◌}
use Rattle.std.proofs.Common.{refl, sym, ap, ap₂, subst, ◌∙◌}
use Rattle.gb_action.specs.Files.{Trees}
use Rattle.gb_action.specs.Meanings.{Meanings}
use Rattle.gb_folder.specs.Files.{Files, SameTearing, Tearing, is_empty}
use Rattle.gb_history.specs.Places.{record_place}
use Rattle.gb_history.specs.Record.{Prints, Record}
use Rattle.gb_history.specs.declared.record.OutputRecord.{OutputRecord}
use Rattle.gb_semantics.specs.Headline.{TornWritesAreDetected}
use Rattle.gb_semantics.specs.Kinds.{Kinds}
use Rattle.gb_semantics.specs.Made.{made_of}
use Rattle.gb_semantics.specs.Memory.{Entry, Memory, remember}
use Rattle.gb_plan.specs.Ready.{Rows}
use Rattle.gb_plan.specs.declared.task.Output.{Output}
use Rattle.gb_plan.specs.declared.task.TaskDeclaration.{TaskDeclaration as Task}
use Rattle.gb_records.specs.Said.{IsText}
use Rattle.gb_records.specs.Holding.{HoldsRecords}
use Rattle.gb_run.specs.Digests.{prints_at}
use Rattle.gb_label.specs.Reading.{digests_in, recorded_of, records_with}
use Rattle.gb_records.specs.Assumed.{IsAssumed}
use Rattle.gb_task.specs.Keeping.{IsRecordOf, run_now}

-- torn writes that are detected before a call are detected after it
pub observed_later : (first second : Tearing) → SameTearing first second → TornWritesAreDetected IsText record_place first → TornWritesAreDetected IsText record_place second
observed_later first second same observed path old new left good of_tool may = observed path old new left good of_tool ((same (record_place path) old new left).0 may)

-- and what is assumed before the call holds after it
pub assumed_later : {S : Type 0} {meanings : Meanings S} {rows : Rows S} {kinds : Kinds} (first second : Tearing) → SameTearing first second
    → IsAssumed meanings rows kinds first → IsAssumed meanings rows kinds second
assumed_later first second same given = record { agrees = given.agrees; tears = observed_later first second same given.tears }

-- the digests of what exists make the records of it
records_at : (files : Files) (outputs : List Output) → records_with outputs (prints_at outputs files) ≡ map (recorded_of files) outputs
records_at files [] = refl
records_at files (output ∷ outputs) = ap (λ (l : List OutputRecord). recorded_of files output ∷ l) (records_at files outputs)

-- the record of a run by what it made
pub record_is : (kinds : Kinds) (task : Task) (trees : Trees) (inputs made : List Prints) (outputs : List OutputRecord) (run : Record)
    → run ≡ record { actions = task.actions; values = task.values; inputs = inputs; outputs = outputs } → inputs ≡ digests_in trees → outputs ≡ records_with task.outputs made
    → (held : Files) → made_of kinds task.actions task.values trees task.outputs ≡ Ok held → made ≡ prints_at task.outputs held → IsRecordOf kinds task trees run
record_is kinds task trees inputs made outputs run is are with held makes exists = (
  held,
  makes,
  is ∙ ap₂ (λ (ins : List Prints) (os : List OutputRecord). let r : Record = record { actions = task.actions; values = task.values; inputs = ins; outputs = os } in r) are
      (with ∙ ap (records_with task.outputs) exists ∙ records_at held task.outputs),
)

-- it is that of what exists, where what was made exists
pub record_exists : (kinds : Kinds) (task : Task) (trees : Trees) (inputs : List Prints) (new : Files) (run : Record) → (of : IsRecordOf kinds task trees run) → inputs ≡ digests_in trees
    → ((held : Files) → made_of kinds task.actions task.values trees task.outputs ≡ Ok held → prints_at task.outputs new ≡ prints_at task.outputs held)
    → run ≡ run_now task inputs new
record_exists kinds task trees inputs new run of are exist =
    of.2 ∙ ap₂ (run_with task) (sym are)
    (sym (records_at of.0 task.outputs) ∙ ap (records_with task.outputs) (sym (exist of.0 of.1)) ∙ records_at new task.outputs)
  where
    run_with : Task → List Prints → List OutputRecord → Record
    run_with t ins os = record { actions = t.actions; values = t.values; inputs = ins; outputs = os }

-- a task with outputs has its record
pub with_outputs_exists : (task : Task) (entry : Entry) (memory : Memory) (files : Files) → is_empty task.outputs ≡ false → HoldsRecords files (remember memory task.path entry)
    → HoldsRecords files (if is_empty task.outputs then memory else remember memory task.path entry)
with_outputs_exists task entry memory files some exists =
    subst (λ b. HoldsRecords files (if b then memory else remember memory task.path entry)) (sym some) exists
