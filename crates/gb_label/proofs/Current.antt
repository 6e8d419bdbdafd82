-- A task is decided up to date only if it may be reported so.
use Rattle.std.specs.Prelude.{◌≡◌, List, [], ◌∷◌, map}
use Rattle.std.proofs.Common.{refl, sym, ap, ◌∙◌}
use Rattle.gb_folder.specs.Files.{is_empty}
use Rattle.gb_history.specs.Decision.{DecidesFrom}
use Rattle.gb_history.specs.Record.{Prints, Record, prints_in}
use Rattle.gb_history.specs.declared.decide.Decision.{Decision}
use Rattle.gb_history.specs.declared.decide.Decision.TheVariants as decisions
use Rattle.gb_history.specs.declared.decide.Present.{Present}
use Rattle.gb_history.specs.declared.record.OutputRecord.{OutputRecord}
use Rattle.gb_plan.specs.declared.task.Output.{Output}
use Rattle.gb_plan.specs.declared.task.TaskDeclaration.{TaskDeclaration as Task}
use Rattle.gb_report.specs.declared.report.Options.{Options}
use Rattle.gb_label.specs.Deciding.{IsPresentOf, MayDecide}

-- as many records as outputs: if there is a record there is an output
as_empty : (records : List OutputRecord) (outputs : List Output)
    → map (λ found. found.0) (prints_in records) ≡ map (λ output. output.name) outputs → is_empty records ≡ is_empty outputs
as_empty [] [] same = refl
as_empty [] (output ∷ outputs) same = absurd (cc)
as_empty (record' ∷ records) [] same = absurd (cc)
as_empty (record' ∷ records) (output ∷ outputs) same = refl

pub may_decide : (options : Options) (task : Task) (run : Record) (inputs : List Prints) (outputs : List OutputRecord) (present : Present)
    (decision : Decision) → IsPresentOf options task inputs outputs present
    → map (λ found. found.0) (prints_in outputs) ≡ map (λ output. output.name) task.outputs → DecidesFrom run present decision
    → MayDecide options task decision
may_decide options task run inputs outputs present decisions.UpToDate is names from = (
  sym (as_empty outputs task.outputs names) ∙ sym (ap (λ (now : Record). is_empty now.outputs) is.now) ∙ from.has_outputs,
  sym is.stale ∙ from.not_stale,
  sym is.rerun ∙ from.no_rerun,
)
may_decide options task run inputs outputs present (decisions.Incremental changes) is names from = tt
may_decide options task run inputs outputs present decisions.Full is names from = tt
