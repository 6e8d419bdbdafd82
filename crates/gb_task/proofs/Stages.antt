-- Stages one after another: what was cleared, written and stored, as one run.
use Rattle.std.specs.Prelude.{◌≡◌, ◌++◌, Bool, true, false, List, [], Ok, Err}
use Rattle.std.proofs.Common.{refl, sym, subst, inl, inr}
use Rattle.std.proofs.lemmas.List.{append-nil}
use Rattle.gb_action.specs.Changes.{Changes}
use Rattle.gb_action.specs.Files.{Trees}
use Rattle.gb_action.specs.Meanings.{Meanings}
use Rattle.gb_action.specs.declared.output_files.OutputFiles.{OutputFiles}
use Rattle.gb_folder.specs.Calls.{Call, Device}
use Rattle.gb_folder.specs.Device.{Leads}
use Rattle.gb_folder.specs.Each.{Ended}
use Rattle.gb_folder.specs.Files.{is_empty}
use Rattle.gb_folder.proofs.Leading.{leads_on}
use Rattle.gb_history.specs.Record.{Record}
use Rattle.gb_plan.specs.Ready.{Rows}
use Rattle.gb_plan.specs.Task.{Path, Text}
use Rattle.gb_plan.specs.declared.task.TaskDeclaration.{TaskDeclaration as Task}
use Rattle.gb_records.specs.Called.{Deletion, Storing}
use Rattle.gb_records.specs.declared.fault.Unwritten.{Unwritten}
use Rattle.gb_report.specs.declared.fault.Fault.{Fault}
use Rattle.gb_report.specs.declared.fault.Fault.TheVariants as faults
use Rattle.gb_run.specs.Doing.{Ending}
use Rattle.gb_run.specs.Emptying.{Emptying}
use Rattle.gb_task.specs.Stages.{Clears, DeletesRecord, FullRun, HasMade, IsOfFullRun, IsOfRunByChanges, RunByChanges, Silently, Stage, Stores, StoresRecord, StoresUnless, Then, WritesAll, WritesChanges, as_ending}

-- the second stage follows
then_on : (first second : Stage) (here later : List Call) (printed more lines : List Text) (result : Ending) → lines ≡ printed ++ more → first here printed (Ok tt) → second later more result
    → Then first second (here ++ later) lines result
then_on first second here later printed more lines result same one two = (here, later, printed, more, Ok tt, refl, same, one, two)

-- the first stage was the last
then_stops : (first second : Stage) (calls : List Call) (lines : List Text) (fault : Fault) → first calls lines (Err fault) → Then first second calls lines (Err fault)
then_stops first second calls lines fault one = (calls, [], lines, [], Err fault, sym (append-nil calls), sym (append-nil lines), one, (refl, refl, refl))

module _ {F : Type 0} (device : Device F) where
  -- a stage was done
  abbrev pub StageLed : Stage → F → List Text → Ending → F → Type 0
  StageLed stage old lines result new = (calls : List Call) × Leads device old calls new × stage calls lines result

  abbrev pub QuietLed : (List Call → Ending → Type 0) → F → Ending → F → Type 0
  QuietLed stage old result new = (calls : List Call) × Leads device old calls new × stage calls result

  silently : (stage : List Call → Ending → Type 0) (old : F) (result : Ending) (new : F) → QuietLed stage old result new → StageLed (Silently stage) old [] result new
  silently stage old result new led = (led.0, led.1, (refl, led.2))

  led_on : (first second : Stage) (old mid new : F) (printed more lines : List Text) (result : Ending) → lines ≡ printed ++ more → StageLed first old printed (Ok tt) mid → StageLed second mid more result new
      → StageLed (Then first second) old lines result new
  led_on first second old mid new printed more lines result same one two =
      (one.0 ++ two.0, leads_on device old mid new one.0 two.0 one.1 two.1, then_on first second one.0 two.0 printed more lines result same one.2 two.2)

  led_stops : (first second : Stage) (old : F) (lines : List Text) (fault : Fault) (new : F) → StageLed first old lines (Err fault) new → StageLed (Then first second) old lines (Err fault) new
  led_stops first second old lines fault new one = (one.0, one.1, then_stops first second one.0 lines fault one.2)

  -- ---- the record

  pub deleted_none : (path : Path) (was_read : Bool) (folder : F) → was_read ≡ false → QuietLed (DeletesRecord path was_read) folder (Ok tt) folder
  deleted_none path was_read folder none = subst (λ (b : Bool). QuietLed (DeletesRecord path b) folder (Ok tt) folder) (sym none) ([], refl, (Ok tt, (refl, refl), refl))

  pub deleted : (path : Path) (was_read : Bool) (old new : F) (ended : Ended Unwritten) → was_read ≡ true → (calls : List Call) × Leads device old calls new × Deletion path true calls ended
      → QuietLed (DeletesRecord path was_read) old (as_ending ended) new
  deleted path was_read old new ended read led = subst (λ (b : Bool). QuietLed (DeletesRecord path b) old (as_ending ended) new) (sym read) (led.0, led.1, (ended, led.2, refl))

  pub stored_none : (task : Task) (run : Record) (folder : F) → is_empty task.outputs ≡ true → QuietLed (StoresRecord task run) folder (Ok tt) folder
  stored_none task run folder none = subst (λ (b : Bool). QuietLed (StoresUnless b task.path run) folder (Ok tt) folder) (sym none) ([], refl, (refl, refl))

  pub stored : (task : Task) (run : Record) (old new : F) (ended : Ended Unwritten) → is_empty task.outputs ≡ false → (calls : List Call) × Leads device old calls new × Storing task.path run calls ended
      → QuietLed (StoresRecord task run) old (as_ending ended) new
  stored task run old new ended some led = subst (λ (b : Bool). QuietLed (StoresUnless b task.path run) old (as_ending ended) new) (sym some) (led.0, led.1, (ended, led.2, refl))

  -- ---- what is left of the last execution

  module _ (task : Task) (was_read : Bool) where
    pub kept : (old new : F) (fault : Fault) → QuietLed (DeletesRecord task.path was_read) old (Err fault) new → StageLed (Clears task was_read) old [] (Err fault) new
    kept old new fault led =
        led_stops (Silently (DeletesRecord task.path was_read)) (Silently (Emptying task.outputs)) old [] fault new (silently (DeletesRecord task.path was_read) old (Err fault) new led)

    pub cleared : (old mid new : F) (result : Ending) → QuietLed (DeletesRecord task.path was_read) old (Ok tt) mid → QuietLed (Emptying task.outputs) mid result new → StageLed (Clears task was_read) old [] result new
    cleared old mid new result deletes empties =
        led_on (Silently (DeletesRecord task.path was_read)) (Silently (Emptying task.outputs)) old mid new [] [] [] result refl
        (silently (DeletesRecord task.path was_read) old (Ok tt) mid deletes) (silently (Emptying task.outputs) mid result new empties)

  -- ---- actions, and then the record

  module _ (task : Task) (writes : Stage) (IsRight : Record → Type 0) where
    abbrev after : Stage
    after = Then writes (Stores task IsRight)

    -- the run of the actions failed, or memory ran out for the record
    pub unmade : (old new : F) (lines : List Text) (ran : Ending) (fault : Fault) → StageLed writes old lines ran new → HasMade ran (Err fault) → StageLed after old lines (Err fault) new
    unmade old new lines (Ok done) fault led (inl well) = absurd (let e = well in (cc))
    unmade old new lines (Ok done) fault led (inr memory) =
        led_on writes (Stores task IsRight) old new new lines [] lines (Err fault) (sym (append-nil lines)) led ([], refl, inl (refl, refl, memory))
    unmade old new lines (Err other) fault led same = led_stops writes (Stores task IsRight) old lines fault new (subst (λ (r : Ending). StageLed writes old lines r new) (sym same) led)

    -- the actions ran, and the record was stored, or that failed
    pub made : (old mid new : F) (lines : List Text) (ran result : Ending) (run : Record) → StageLed writes old lines ran mid → HasMade ran (Ok tt) → IsRight run → QuietLed (StoresRecord task run) mid result new
        → StageLed after old lines result new
    made old mid new lines (Ok done) result run led has right stores =
        led_on writes (Stores task IsRight) old mid new lines [] lines result (sym (append-nil lines)) led (stores.0, stores.1, inr (refl, (run, right, stores.2)))
    made old mid new lines (Err fault) result run led has right stores = absurd (let e = has in (cc))

  module _ {S : Type 0} (meanings : Meanings S) (rows : Rows S) (task : Task) (trees : Trees) where
    -- ---- a run in full

    module _ (was_read : Bool) where
      abbrev rest : Stage
      rest = Then (WritesAll meanings rows task trees) (Stores task (IsOfFullRun meanings rows task trees))

      -- memory ran out before it
      pub full_early : (folder : F) (lines : List Text) → lines ≡ [] → StageLed (FullRun meanings rows task trees was_read) folder lines (Err faults.OutOfMemory) folder
      full_early folder lines none = ([], refl, inl (refl, none, refl))

      -- what was left was not removed
      pub full_uncleared : (old new : F) (lines : List Text) (fault : Fault) → lines ≡ [] → StageLed (Clears task was_read) old [] (Err fault) new → StageLed (FullRun meanings rows task trees was_read) old lines (Err fault) new
      full_uncleared old new lines fault none clears =
          let led = led_stops (Clears task was_read) rest old lines fault new (subst (λ (ls : List Text). StageLed (Clears task was_read) old ls (Err fault) new) (sym none) clears) in
          (led.0, led.1, inr led.2)

      pub full_on : (old mid new : F) (lines : List Text) (result : Ending) → StageLed (Clears task was_read) old [] (Ok tt) mid → StageLed rest mid lines result new → StageLed (FullRun meanings rows task trees was_read) old lines result new
      full_on old mid new lines result clears runs =
          let led = led_on (Clears task was_read) rest old mid new [] lines lines result refl clears runs in
          (led.0, led.1, inr led.2)

    -- ---- a run by changes

    module _ (changes : List Changes) (observed : List OutputFiles) where
      abbrev following : Stage
      following = Then (WritesChanges meanings rows task trees changes observed) (Stores task (IsOfRunByChanges meanings rows task trees changes observed))

      pub changes_kept : (old new : F) (lines : List Text) (fault : Fault) → lines ≡ [] → QuietLed (DeletesRecord task.path true) old (Err fault) new → StageLed (RunByChanges meanings rows task trees changes observed) old lines (Err fault) new
      changes_kept old new lines fault none deletes =
          led_stops (Silently (DeletesRecord task.path true)) following old lines fault new
          (subst (λ (ls : List Text). StageLed (Silently (DeletesRecord task.path true)) old ls (Err fault) new) (sym none) (silently (DeletesRecord task.path true) old (Err fault) new deletes))

      pub changes_on : (old mid new : F) (lines : List Text) (result : Ending) → QuietLed (DeletesRecord task.path true) old (Ok tt) mid → StageLed following mid lines result new → StageLed (RunByChanges meanings rows task trees changes observed) old lines result new
      changes_on old mid new lines result deletes runs =
          led_on (Silently (DeletesRecord task.path true)) following old mid new [] lines lines result refl (silently (DeletesRecord task.path true) old (Ok tt) mid deletes) runs
