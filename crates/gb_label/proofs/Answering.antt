-- What a task's outcome is based on, as it was answered on a part of the way and on all of it.
use Rattle.std.proofs.Common.{◌≡◌, List, Option, Some, refl, sym, subst}
use Rattle.gb_folder.specs.Calls.{Requests, no_change}
use Rattle.gb_history.specs.Decision.{DecidesFrom}
use Rattle.gb_history.specs.Record.{Record}
use Rattle.gb_history.specs.declared.decide.Decision.{Decision}
use Rattle.gb_history.specs.declared.decide.Decision.TheVariants as decisions
use Rattle.gb_history.specs.declared.decide.Present.{Present}
use Rattle.gb_plan.specs.declared.task.TaskDeclaration.{TaskDeclaration as Task}
use Rattle.gb_report.specs.declared.report.Options.{Options}
use Rattle.gb_label.proofs.ReadingAnswering.{outputs_longer}
use Rattle.gb_label.specs.ReadingAnswered.{AreOutputsAnswered}
use Rattle.gb_label.specs.Reading.{AreOutputs, Read, prints_read, records_with}
use Rattle.gb_label.specs.Answered.{WasDecided}
use Rattle.gb_label.specs.Deciding.{IsPresentOf}
use Rattle.gb_folder.specs.Calls.{Device}

-- for a full rebuild nothing has to be answered
pub full_decided : {F : Type 0} (device : Device F) (old new : F) (options : Options) (task : Task)
    (last : Option Record) (inputs : List Read) (decision : Decision) (outputs : List Read)
    → decision ≡ decisions.Full → WasDecided device old new options task last inputs decision outputs
full_decided device old new options task last inputs decision outputs full =
    subst (λ (d : Decision). WasDecided device old new options task last inputs d outputs) (sym full) tt

-- what a record decides on outputs that were answered
pub record_decided : {F : Type 0} (device : Device F) (old new : F) (options : Options) (task : Task)
    (run : Record) (inputs : List Read) (decision : Decision) (outputs : List Read)
    → AreOutputs task outputs → AreOutputsAnswered device old new task outputs → (present : Present)
    → IsPresentOf options task (prints_read inputs) (records_with task.outputs (prints_read outputs)) present → DecidesFrom run present decision
    → WasDecided device old new options task (Some run) inputs decision outputs
record_decided device old new options task run inputs decisions.UpToDate outputs are answered present has decides =
    (are, answered, record { run = run; read = refl; present = present; has = has; decides = decides })
record_decided device old new options task run inputs (decisions.Incremental changes) outputs are answered present has decides = answered
record_decided device old new options task run inputs decisions.Full outputs are answered present has decides = tt

-- what was decided on what was answered on a part of the way
module _ {F : Type 0} {device : Device F} where
  pub decided_longer : {first old new end : F} → Requests device no_change first old → Requests device no_change new end
      → (options : Options) (task : Task) (last : Option Record) (inputs : List Read) (decision : Decision) (outputs : List Read)
      → WasDecided device old new options task last inputs decision outputs
      → WasDecided device first end options task last inputs decision outputs
  decided_longer before following options task last inputs decisions.UpToDate outputs was = (was.0, outputs_longer before following task outputs was.1, was.2)
  decided_longer before following options task last inputs (decisions.Incremental changes) outputs was = outputs_longer before following task outputs was
  decided_longer before following options task last inputs decisions.Full outputs was = tt
