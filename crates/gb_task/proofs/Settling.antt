-- What was decided on contents that were read whole.
use Rattle.std.specs.Prelude.{◌≡◌, false, List, [], ◌∷◌, Some, map}
use Rattle.std.specs.List.{list_any}
use Rattle.std.proofs.Common.{refl, sym, ap, subst, ◌∙◌}
use Rattle.gb_action.specs.Changes.{Changes}
use Rattle.gb_action.specs.declared.output_files.OutputFiles.{OutputFiles}
use Rattle.gb_task.specs.Case.{IsCaseFor, IsCaseOf, OutsideIsEnough, PreparedIsCase}
use Rattle.gb_folder.specs.Files.{Contents, Files, is_own}
use Rattle.gb_history.specs.Decision.{DecidesFrom}
use Rattle.gb_history.specs.Record.{Prints, Record, prints_in}
use Rattle.gb_history.specs.declared.decide.Decision.{Decision}
use Rattle.gb_history.specs.declared.decide.Decision.TheVariants as decisions
use Rattle.gb_history.specs.declared.decide.Present.{Present}
use Rattle.gb_history.specs.declared.record.OutputRecord.{OutputRecord}
use Rattle.gb_label.specs.Deciding.{IsBasisIn, IsPresentOf}
use Rattle.gb_label.specs.declared.deciding.Basis.TheVariants.{Compared}
use Rattle.gb_label.specs.Preparing.{IsPrepared}
use Rattle.gb_label.specs.declared.prepare.Prepared.TheVariants as prepared
use Rattle.gb_label.specs.declared.prepare.Observed.{Observed}
use Rattle.gb_label.proofs.Recorded.{prints_with}
use Rattle.gb_semantics.specs.Kinds.{Kinds}
use Rattle.gb_semantics.specs.Label.{early_case}
use Rattle.gb_semantics.specs.Memory.{World}
use Rattle.gb_semantics.specs.Tree.{trees_of}
use Rattle.gb_semantics.specs.TrueRecord.{outside}
use Rattle.gb_plan.specs.Task.{given_files, given_outputs}
use Rattle.gb_plan.specs.declared.task.Output.{Output}
use Rattle.gb_plan.specs.declared.task.TaskDeclaration.{TaskDeclaration as Task}
use Rattle.gb_report.specs.declared.report.Options.{Options}
use Rattle.gb_label.specs.Reading.{digests_in, prints_observed, recorded_of, records_with, observed_of}
use Rattle.gb_label.specs.declared.inputs.Inputs.{Inputs}
use Rattle.gb_label.specs.declared.outputs.Outputs.{Outputs}
use Rattle.gb_task.specs.Recheck.{AreDecided, AreWhole, AreWholeOutputs, IsRecheck, IsAsBefore, recheck_by}
use Rattle.gb_task.specs.Executing.{IsToGoOn}
use Rattle.gb_task.proofs.Given.{named_outputs}
use Rattle.gb_task.proofs.Outside.{early_outside}
use Rattle.gb_task.proofs.Later.{known_made}

-- the digests of what exists make the records of it
records_observed : (files : Files) (outputs : List Output) → records_with outputs (prints_observed (map (observed_of files) outputs)) ≡ map (recorded_of files) outputs
records_observed files [] = refl
records_observed files (output ∷ outputs) = ap (λ (l : List OutputRecord). recorded_of files output ∷ l) (records_observed files outputs)

module _ (options : Options) (task : Task) (last : Record) (present : Present) (decision : Decision) (inputs : Inputs) (outputs : Outputs) (read existed : List Prints)
    (named : map (λ tree. tree.0) inputs.trees ≡ given_files task.files) (digests : read ≡ digests_in inputs.trees)
    (formed : map (λ output. (output.name, output.form)) outputs.observed ≡ given_outputs task.outputs) (are : existed ≡ prints_observed outputs.observed)
    (is : IsPresentOf options task read (records_with task.outputs existed) present) (decides : DecidesFrom last present decision)
    (left : inputs.prints.items ≡ present.now.inputs) (kept : outputs.prints.items ≡ prints_in present.now.outputs) where
  whole : AreWhole task inputs
  whole = record { named = named; digests = left ∙ ap (λ (now : Record). now.inputs) is.now ∙ digests }

  whole_outputs : AreWholeOutputs task outputs
  whole_outputs = record {
    formed = formed;
    digests = kept ∙ ap (λ (now : Record). prints_in now.outputs) is.now ∙ prints_with task.outputs existed (named_outputs task.outputs outputs.observed existed are formed) ∙ are;
  }

  decided : (changes : List Changes) → decision ≡ decisions.Incremental changes → AreDecided options task last inputs.trees outputs.observed changes
  decided changes same = record {
    present = present;
    is =
        subst (λ (ins : List Prints). IsPresentOf options task ins (records_with task.outputs (prints_observed outputs.observed)) present) digests
        (subst (λ (outs : List Prints). IsPresentOf options task read (records_with task.outputs outs) present) are is);
    decides = subst (DecidesFrom last present) same decides;
  }

  pub is_recheck : IsRecheck options task last (recheck_by decision inputs outputs)
  is_recheck = by decision refl
    where
      by : (d : Decision) → decision ≡ d → IsRecheck options task last (recheck_by d inputs outputs)
      by decisions.UpToDate same = whole
      by (decisions.Incremental changes) same = (whole, whole_outputs, decided changes same)
      by decisions.Full same = whole

  -- where the folder is as it was read, the result is the earlier decision
  module _ (kinds : Kinds) (world : World) (folder : Contents) (some : Observed) (out : list_any (λ (o : Output). is_own o.place) task.outputs ≡ false)
      (is_enough : OutsideIsEnough) (is_case : PreparedIsCase) (at : world.folder ≡ outside folder) (goes : IsToGoOn kinds options task world last)
      (trees : inputs.trees ≡ trees_of task folder.files) (observed : outputs.observed ≡ map (observed_of folder.files) task.outputs) where
    present_there : IsBasisIn options task folder (Compared present)
    present_there =
        subst (λ (os : List OutputRecord). IsPresentOf options task (digests_in (trees_of task folder.files)) os present)
        (ap (λ (s : List OutputFiles). records_with task.outputs (prints_observed s)) observed ∙ records_observed folder.files task.outputs)
        (subst (λ (ins : List Prints). IsPresentOf options task ins (records_with task.outputs (prints_observed outputs.observed)) present) (digests ∙ ap digests_in trees)
        (subst (λ (outs : List Prints). IsPresentOf options task read (records_with task.outputs outs) present) are is))

    case_there : IsCaseOf kinds options task world (prepared.Decided decision (Compared present) some)
    case_there =
        is_case kinds options task world (Some last) (prepared.Decided decision (Compared present) some) goes.known
        (subst (λ (c : Contents). IsPrepared options task c (Some last) (prepared.Decided decision (Compared present) some)) (sym at)
        (is_enough options task folder (Some last) (prepared.Decided decision (Compared present) some) out
        (sym (early_outside task folder) ∙ ap (early_case task) (sym at) ∙ goes.case, decides, present_there)))

    pub as_before : IsAsBefore kinds options task folder.files world (recheck_by decision inputs outputs)
    as_before = by decision case_there.1
      where
        by : (d : Decision) → IsCaseFor kinds options task world d → IsAsBefore kinds options task folder.files world (recheck_by d inputs outputs)
        by decisions.UpToDate current = goes.not_current current
        by (decisions.Incremental changes) so =
            let since = so.1 goes.since.one_writer in (
              trees,
              observed,
              record {
                case = goes.case;
                not_current = goes.not_current;
                since = since.0;
                is_made = known_made kinds task world (Some last) goes.known since.0.entry since.0.remembered;
                are_changes = since.1;
              },
            )
        by decisions.Full so = so.1 goes.since
