-- What is predicted by digests is predicted by whole contents, if the records of the folder are true.
use Rattle.std.specs.Prelude.{ℕ, ◌≡◌, Bool, true, false, not, List, [], ◌∷◌, Option, None, Some}
use Rattle.std.specs.List.{AllByRecursion, AllZip, list_any, zip}
use Rattle.std.proofs.Common.{sym, ap, ◌∙◌, inl, inr}
use Rattle.gb_folder.specs.Files.{Contents, Files, is_empty, is_own}
use Rattle.gb_history.specs.Record.{Record}
use Rattle.gb_history.specs.declared.decide.Decision.{Decision}
use Rattle.gb_history.specs.declared.decide.Decision.TheVariants as decisions
use Rattle.gb_action.specs.Changes.{Changes}
use Rattle.gb_label.specs.Deciding.{FollowsFrom, IsBasisIn, IsDecided}
use Rattle.gb_label.specs.declared.deciding.Basis.{Basis}
use Rattle.gb_label.specs.declared.deciding.Basis.TheVariants as bases
use Rattle.gb_label.specs.Reading.{recorded_of}
use Rattle.gb_reason.specs.Real.{ChangesAreReasons}
use Rattle.gb_reason.specs.Reasons.{change_reasons}
use Rattle.gb_reason.specs.declared.reason.Reason.{Reason}
use Rattle.gb_semantics.specs.Kinds.{Kinds}
use Rattle.gb_semantics.specs.Label.{early_case}
use Rattle.gb_semantics.specs.Memory.{Memory, World, output_files}
use Rattle.gb_semantics.specs.TrueRecord.{outside}
use Rattle.gb_semantics.specs.Execution.{Rules}
use Rattle.gb_plan.proofs.Tests.{not_true}
use Rattle.gb_plan.specs.Graph.{order}
use Rattle.gb_plan.specs.Task.{is_output_of}
use Rattle.gb_plan.specs.declared.plan.Planned.{Planned}
use Rattle.gb_plan.specs.declared.task.Output.{Output}
use Rattle.gb_plan.specs.declared.task.TaskDeclaration.{TaskDeclaration as Task}
use Rattle.gb_records.specs.Said.{IsReadAt}
use Rattle.gb_report.specs.declared.report.Options.{Options}
use Rattle.gb_run.proofs.Owned.{narrowed}
use Rattle.gb_task.specs.Case.{DecidedOutside, DecisionIsCase, IsCaseFor, IsKnown}
use Rattle.gb_task.specs.Known.{AreTrueRecords, WhatIsReadIsKnown}
use Rattle.gb_task.specs.Executions.{IsRunFor, RunsAreOfCase, is_by_changes}
use Rattle.gb_task.proofs.Outside.{early_outside}
use Rattle.gb_task.proofs.Own.{is_kept, kept_at}
use Rattle.gb_predict.specs.Prediction.{AreReasons, IsPredictedOf}
use Rattle.gb_predict.specs.Predicted.{FolderPredictionsAreKept, IsOfFolder, IsPredicted, RunsThisWay, world_of}
use Rattle.gb_predict.specs.declared.predicted_outcome.PredictedOutcome.{PredictedOutcome}
use Rattle.gb_predict.specs.declared.predicted_outcome.PredictedOutcome.TheVariants as comings
use Rattle.gb_predict.specs.declared.predicted_outcome.Prediction.{Prediction}
use Rattle.gb_predict.proofs.Keeping.{predictions_are_kept}
use Rattle.gb_predict.proofs.Predicting.{by_machine, empty_mapped}

-- if the decision is to run incrementally, the reasons are the changes
by_basis : ChangesAreReasons → (options : Options) (task : Task) (folder : Contents) (read : Option Record) (changes : List Changes) (why : List Reason) (basis : Basis)
    → FollowsFrom options task read (decisions.Incremental changes) basis → IsBasisIn options task folder basis → AreReasons options task folder read why
    → is_empty task.outputs ≡ false → why ≡ change_reasons changes
by_basis law options task folder read changes why (bases.Forced cause) goes so are outputs = absurd (let e = goes.0 in (cc))
by_basis law options task folder None changes why (bases.Compared present) goes so are outputs = absurd goes
by_basis law options task folder (Some run) changes why (bases.Compared present) goes so are outputs =
    are present so
    ∙ law run present goes.1
    (ap (λ (now : Record). is_empty now.outputs) so.now ∙ empty_mapped (recorded_of folder.files) task.outputs ∙ outputs)
    ∙ ap change_reasons (sym goes.2)

reasons_are : ChangesAreReasons → (options : Options) (task : Task) (folder : Contents) (read : Option Record) (changes : List Changes) (why : List Reason)
    → IsDecided options task folder read (decisions.Incremental changes) → AreReasons options task folder read why → is_empty task.outputs ≡ false → why ≡ change_reasons changes
reasons_are law options task folder read changes why decided are outputs =
    by_basis law options task folder read changes why decided.0 decided.1 decided.2 are outputs

module _ (decision_is_case : DecisionIsCase) (decided_outside : DecidedOutside) (runs_are_of_case : RunsAreOfCase) (changes_are_reasons : ChangesAreReasons)
    (kinds : Kinds) (options : Options) (task : Task) (folder : Contents) (memory : Memory) where
  world : World
  world = world_of folder memory

  module _ (out : list_any (λ (output : Output). is_own output.place) task.outputs ≡ false) (read : Option Record) (known : IsKnown kinds task (world_of folder memory) read) where
    way : (decision : Decision) (by_changes : Bool) (why : List Reason) → is_by_changes kinds task decision ≡ by_changes
        → IsDecided options task folder read decision → AreReasons options task folder read why → IsCaseFor kinds options task (world_of folder memory) decision
        → IsRunFor kinds options task (world_of folder memory) decision → RunsThisWay kinds options task (world_of folder memory) by_changes why
    way decision false why goes decided are case run = (run.not_current, run.full goes)
    way decisions.UpToDate true why goes decided are case run = not_true goes
    way (decisions.Incremental changes) true why goes decided are case run = (
      run.not_current,
      (case.1 goes).0,
      λ outputs. reasons_are changes_are_reasons options task folder read changes why decided are outputs ∙ ap change_reasons (case.1 goes).1,
    )
    way decisions.Full true why goes decided are case run = not_true goes

    outputs_outside : output_files task (outside folder).files ≡ output_files task folder.files
    outputs_outside = narrowed (is_output_of task) is_kept (kept_at task.outputs out) folder.files

    machine_or_not : (b : Bool) → b ≡ true → b ≡ false → {A : Type 0} → A
    machine_or_not true e f {A} = not_true (sym f)
    machine_or_not false e f {A} = not_true e

    decided_there : (decision : Decision) → early_case task folder ≡ None → IsDecided options task folder read decision
        → (early_case task (outside folder) ≡ None) × IsCaseFor kinds options task (world_of folder memory) decision
    decided_there decision none decided =
        let early = early_outside task folder ∙ none in
        (early, decision_is_case kinds options task (world_of folder memory) read decision known early (decided_outside options task folder read decision out decided))

    pub predicted_of : (before after : ℕ) (coming : PredictedOutcome) → IsOfFolder coming → IsPredictedOf kinds options task folder read before after coming
        → IsPredicted kinds options task (world_of folder memory) coming
    predicted_of before after comings.Skips of is = early_outside task folder ∙ is
    predicted_of before after comings.HasNoActions of is = early_outside task folder ∙ is
    predicted_of before after (comings.HasNoSource removes) of is =
        (early_outside task folder ∙ is.0, is.1 ∙ ap (λ (files : Files). not (is_empty files)) (sym outputs_outside))
    predicted_of before after (comings.CannotRead fault) of (inl machine) = not_true (sym of ∙ by_machine before after fault machine)
    predicted_of before after (comings.CannotRead fault) of (inr first) = (first.0, early_outside task folder ∙ first.1, first.2)
    predicted_of before after comings.UpToDate of is =
        decided_there decisions.UpToDate is.0 is.1
    predicted_of before after comings.HasGrown of is =
        decided_there decisions.Full is.0 is.1.0
    predicted_of before after (comings.Runs by_changes reasons) of is =
        let run = is.1 in
        let there = decided_there run.decision is.0 run.decided in
        (there.0, way run.decision by_changes reasons.items run.by_changes run.decided run.reasons there.1 (runs_are_of_case kinds options task (world_of folder memory) run.decision run.due there.1))

module _ (decision_is_case : DecisionIsCase) (decided_outside : DecidedOutside) (what_is_read_is_known : WhatIsReadIsKnown) (runs_are_of_case : RunsAreOfCase) (changes_are_reasons : ChangesAreReasons)
    (rules : Rules) where
  module _ (folder : Contents) (memory : Memory) (before after : ℕ) where
    all_predicted : (plan : List Planned) (records : List (Option Record)) (reported : List Prediction)
        → AllByRecursion (λ (planned : Planned). AreTrueRecords rules.kinds planned.task folder.files memory (world_of folder memory)) plan
        → AllZip (IsReadAt folder.files) (order plan) records
        → AllZip (λ (pair : Planned × Option Record) (one : Prediction). IsPredictedOf rules.kinds rules.options pair.0.task folder pair.1 before after one.coming) (zip plan records) reported
        → AllByRecursion (λ (one : Prediction). IsOfFolder one.coming) reported
        → AllZip (λ (planned : Planned) (one : Prediction). IsPredicted rules.kinds rules.options planned.task (world_of folder memory) one.coming) plan reported
    all_predicted [] records [] worth read reported of = tt
    all_predicted [] records (one ∷ more) worth read reported of = absurd reported
    all_predicted (planned ∷ plan) [] reported worth read is of = absurd read
    all_predicted (planned ∷ plan) (record_of ∷ records) [] worth read reported of = absurd reported
    all_predicted (planned ∷ plan) (record_of ∷ records) (one ∷ more) worth read reported of = (
      predicted_of decision_is_case decided_outside runs_are_of_case changes_are_reasons rules.kinds rules.options planned.task folder memory worth.0.not_own record_of
          (what_is_read_is_known rules.kinds planned.task folder.files memory (world_of folder memory) record_of worth.0 read.0) before after one.coming of.0 reported.0,
      all_predicted plan records more worth.1 read.1 reported.1 of.1,
    )

  pub folder_predictions : FolderPredictionsAreKept rules
  folder_predictions folder memory records before after reported observed_before failures reports new once sound worth read prediction of marked executions =
      predictions_are_kept rules observed_before (record { world = world_of folder memory; failures = failures }) new reported reports once sound
      (all_predicted folder memory before after rules.plan records reported worth read prediction of) marked executions
