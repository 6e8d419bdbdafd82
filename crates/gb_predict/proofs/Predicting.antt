-- From the decision on a task to its prediction.
use Rattle.std.specs.Prelude.{ℕ, ◌≡◌, ◌≤◌, ◌⊎◌, Bool, true, false, not, List, [], ◌∷◌, ◌++◌, map, if◌then◌else◌, Option, None, Some, Result, Ok, Err, IfOk, IfErr}
use Rattle.std.specs.List.{AllZip}
use Rattle.std.proofs.Common.{refl, sym, ap, subst, ◌∙◌, inl, inr}
use Rattle.gb_core.specs.Lists.{first_of}
use Rattle.gb_folder.specs.Files.{Contents, is_empty}
use Rattle.gb_history.specs.Decision.{Decides, DecidesFrom}
use Rattle.gb_history.specs.Record.{Prints, Record}
use Rattle.gb_history.specs.declared.decide.Decision.{Decision}
use Rattle.gb_history.specs.declared.decide.Decision.TheVariants as decisions
use Rattle.gb_history.specs.declared.decide.Present.{Present}
use Rattle.gb_history.specs.declared.record.OutputRecord.{OutputRecord}
use Rattle.gb_label.specs.Deciding.{FollowsFrom, IsBasisIn, IsDecided, IsPresentOf}
use Rattle.gb_label.specs.Reading.{CannotRead, recorded_of}
use Rattle.gb_label.specs.declared.deciding.Basis.{Basis}
use Rattle.gb_label.specs.declared.deciding.Basis.TheVariants as bases
use Rattle.gb_label.specs.declared.deciding.FullReason.TheVariants as causes
use Rattle.gb_semantics.specs.Kinds.{Kinds}
use Rattle.gb_semantics.specs.Label.{HasNoSource, early_case}
use Rattle.gb_semantics.specs.Memory.{output_files}
use Rattle.gb_semantics.specs.Tree.{has_no_source, input_faults, listing_faults}
use Rattle.gb_semantics.proofs.Common.{none_some}
use Rattle.gb_plan.specs.declared.task.TaskDeclaration.{TaskDeclaration as Task}
use Rattle.gb_reason.specs.Reasons.{differences, reasons_of}
use Rattle.gb_reason.specs.declared.reason.Reason.{Reason}
use Rattle.gb_reason.specs.declared.reason.Reason.TheVariants as reasons
use Rattle.gb_report.specs.declared.fault.Fault.{Fault}
use Rattle.gb_report.specs.declared.fault.Fault.TheVariants as faults
use Rattle.gb_report.specs.declared.report.Options.{Options}
use Rattle.gb_folder.specs.Faults.{IsOfMachine}
use Rattle.gb_folder.proofs.Machine.{machine_after, machine_before}
use Rattle.gb_predict.proofs.Finding.{case_by}
use Rattle.gb_predict.specs.Explained.{IsCompared, IsExplained, why_without}
use Rattle.gb_predict.specs.Prediction.{AreReasons, IsPredictedOf, IsFound, IsReasoned, RunsFor, is_of_machine, reported_of}
use Rattle.gb_predict.specs.declared.predicted_outcome.PredictedOutcome.{PredictedOutcome}
use Rattle.gb_predict.specs.declared.predicted_outcome.PredictedOutcome.TheVariants as comings

-- ---- Reasons

-- the reasons, by the parts of the present that they depend on
abbrev by_parts : Record → Record → Bool → Bool → List Reason
by_parts run now rerun stale =
    if rerun then reasons.Rerun ∷ []
    else if stale then reasons.Stale ∷ []
    else if is_empty now.outputs then reasons.NoOutputs ∷ []
    else differences run now

same_reasons : (options : Options) (task : Task) (inputs : List Prints) (outputs : List OutputRecord) (run : Record) (p q : Present)
    → IsPresentOf options task inputs outputs p → IsPresentOf options task inputs outputs q → reasons_of (Some run) p ≡ reasons_of (Some run) q
same_reasons options task inputs outputs run p q is_p is_q =
    ap (λ now. by_parts run now p.rerun p.is_stale) (is_p.now ∙ sym is_q.now)
    ∙ ap (λ rerun. by_parts run q.now rerun p.is_stale) (is_p.rerun ∙ sym is_q.rerun)
    ∙ ap (λ stale. by_parts run q.now q.rerun stale) (is_p.stale ∙ sym is_q.stale)

pub empty_mapped : {X Y : Type 0} (f : X → Y) (xs : List X) → is_empty (map f xs) ≡ is_empty xs
empty_mapped f [] = refl
empty_mapped f (x ∷ xs) = refl

pub full_runs : decisions.Full ≡ decisions.UpToDate → ⊥
full_runs e = cc

-- ---- What is found

module _ (kinds : Kinds) (options : Options) (task : Task) (folder : Contents) where
  runs_found : (old : Option Record) (reason : Reason) (coming : PredictedOutcome) → RunsFor reason coming
      → IsDecided options task folder old decisions.Full → AreReasons options task folder old (reason ∷ [])
      → IsFound kinds options task folder old coming
  runs_found old reason comings.Skips never full why = absurd never
  runs_found old reason comings.HasNoActions never full why = absurd never
  runs_found old reason (comings.HasNoSource removes) never full why = absurd never
  runs_found old reason (comings.CannotRead fault) never full why = absurd never
  runs_found old reason comings.UpToDate never full why = absurd never
  runs_found old reason comings.HasGrown never full why = absurd never
  runs_found old reason (comings.Runs by_changes reported) is full why = record {
    decision = decisions.Full;
    decided = full;
    due = full_runs;
    by_changes = sym is.0;
    reasons = λ present is_present. is.1 ∙ why present is_present;
  }

  abbrev without : Bool → Reason
  without none = if none then reasons.NoOutputs else reasons.NoRecord

  forgotten_found : (coming : PredictedOutcome) → RunsFor (why_without task) coming → IsFound kinds options task folder None coming
  forgotten_found coming is =
      runs_found None (why_without task) coming is (bases.Forced causes.NoRecord, (refl, tt), tt)
      (λ present is_present. ap (λ none. without none ∷ [])
      (sym (ap (λ (now : Record). is_empty now.outputs) is_present.now ∙ empty_mapped (recorded_of folder.files) task.outputs)))

  rerun_found : (run : Record) (coming : PredictedOutcome) → options.rerun ≡ true → RunsFor reasons.Rerun coming
      → IsFound kinds options task folder (Some run) coming
  rerun_found run coming allowed is =
      runs_found (Some run) reasons.Rerun coming is (bases.Forced causes.Rerun, (refl, allowed), tt)
      (λ present is_present. sym (ap (λ rerun. by_parts run present.now rerun present.is_stale) (is_present.rerun ∙ allowed)))

  stale_found : (run : Record) (coming : PredictedOutcome) → options.rerun ≡ false → task.is_stale ≡ true → RunsFor reasons.Stale coming
      → IsFound kinds options task folder (Some run) coming
  stale_found run coming none stale is =
      runs_found (Some run) reasons.Stale coming is (bases.Forced causes.Stale, (refl, (none, stale)), tt)
      (λ present is_present. sym (ap (λ rerun. by_parts run present.now rerun present.is_stale) (is_present.rerun ∙ none)
      ∙ ap (λ b. by_parts run present.now false b) (is_present.stale ∙ stale)))

  compared_found : (run : Record) (decision : Decision) (present : Present) (coming : PredictedOutcome) → DecidesFrom run present decision
      → IsBasisIn options task folder (bases.Compared present) → IsCompared kinds task (Some run) decision present coming
      → IsFound kinds options task folder (Some run) coming
  compared_found run decision present comings.Skips goes so never = absurd never
  compared_found run decision present comings.HasNoActions goes so never = absurd never
  compared_found run decision present (comings.HasNoSource removes) goes so never = absurd never
  compared_found run decision present (comings.CannotRead fault) goes so never = absurd never
  compared_found run decision present comings.UpToDate goes so is =
      (bases.Compared present, subst (λ (d : Decision). DecidesFrom run present d) is goes, so)
  compared_found run decision present comings.HasGrown goes so never = absurd never
  compared_found run decision present (comings.Runs by_changes reported) goes so is = record {
    decision = decision;
    decided = (bases.Compared present, goes, so);
    due = is.0;
    by_changes = is.1;
    reasons = λ other is_other. is.2 ∙ same_reasons options task _ _ run present other so is_other;
  }

  -- what is explained by the basis of a decision is found so
  pub found_by : (old : Option Record) (decision : Decision) (basis : Basis) (coming : PredictedOutcome) → FollowsFrom options task old decision basis
      → IsBasisIn options task folder basis → IsExplained kinds task old decision basis coming → IsFound kinds options task folder old coming
  found_by None decision (bases.Forced causes.NoRecord) coming goes so is = forgotten_found coming is
  found_by None decision (bases.Forced causes.Rerun) coming goes so is = absurd goes.1
  found_by None decision (bases.Forced causes.Stale) coming goes so is = absurd goes.1
  found_by None decision (bases.Forced causes.Grown) coming goes so is = absurd goes.1
  found_by None decision (bases.Compared present) coming goes so is = absurd goes
  found_by (Some run) decision (bases.Forced causes.NoRecord) coming goes so is = absurd goes.1
  found_by (Some run) decision (bases.Forced causes.Rerun) coming goes so is = rerun_found run coming goes.1 is
  found_by (Some run) decision (bases.Forced causes.Stale) coming goes so is = stale_found run coming goes.1.0 goes.1.1 is
  found_by (Some run) decision (bases.Forced causes.Grown) coming goes so is =
      subst (λ (c : PredictedOutcome). IsFound kinds options task folder (Some run) c) (sym is)
      ((bases.Forced causes.Grown, (refl, goes.1), so), so)
  found_by (Some run) decision (bases.Compared present) coming goes so is = compared_found run decision present coming goes so is

  -- ---- What is predicted

  module _ (old : Option Record) where
    prediction_of : (before after : ℕ) (coming : PredictedOutcome) → early_case task folder ≡ None → IsFound kinds options task folder old coming
        → IsPredictedOf kinds options task folder old before after coming
    prediction_of before after comings.Skips none never = absurd never
    prediction_of before after comings.HasNoActions none never = absurd never
    prediction_of before after (comings.HasNoSource removes) none never = absurd never
    prediction_of before after (comings.CannotRead fault) none never = absurd never
    prediction_of before after comings.UpToDate none found = (none, found)
    prediction_of before after comings.HasGrown none found = (none, found)
    prediction_of before after (comings.Runs by_changes reported) none found = (none, found)

    -- what is found of a task that has a source is predicted, unless memory is out
    pub decided_prediction : (before after : ℕ) (decision : Decision) (basis : Basis) (coming : PredictedOutcome) → early_case task folder ≡ None
        → FollowsFrom options task old decision basis → IsBasisIn options task folder basis
        → (coming ≡ comings.CannotRead faults.OutOfMemory) ⊎ IsExplained kinds task old decision basis coming
        → IsPredictedOf kinds options task folder old before after coming
    decided_prediction before after decision basis coming none goes so (inl full) =
        subst (λ (c : PredictedOutcome). IsPredictedOf kinds options task folder old before after c) (sym full) (inl (inl refl))
    decided_prediction before after decision basis coming none goes so (inr is) =
        prediction_of before after coming none (found_by old decision basis coming goes so is)

    no_hindrance : (runs idle dry : Bool) (hindrances : List Fault) → case_by runs idle hindrances dry ≡ Some HasNoSource → hindrances ≡ []
    no_hindrance false idle dry hindrances e = absurd (cc)
    no_hindrance true true dry hindrances e = absurd (cc)
    no_hindrance true false dry [] e = refl
    no_hindrance true false dry (fault ∷ hindrances) e = absurd (cc)

    last_none : (xs ys : List Fault) → xs ++ ys ≡ [] → ys ≡ []
    last_none [] ys e = e
    last_none (x ∷ xs) ys e = absurd (cc)

    -- whether files are removed of a task without source, or the faults of listing its outputs
    pub sourceless_prediction : (before mid after : ℕ) (found : Result PredictedOutcome Fault) → before ≤ mid → mid ≤ after → early_case task folder ≡ Some HasNoSource
        → IfOk found (λ coming. (removes : Bool) × (coming ≡ comings.HasNoSource removes) × (removes ≡ not (is_empty (output_files task folder.files))))
        → IfErr found (CannotRead mid after (listing_faults task folder)) → IsPredictedOf kinds options task folder old before after (reported_of found)
    sourceless_prediction before mid after (Ok coming) le more case is err =
        subst (λ (c : PredictedOutcome). IsPredictedOf kinds options task folder old before after c) (sym is.1) (case, is.2)
    sourceless_prediction before mid after (Err fault) le more case is (inl machine) = inl (machine_before before mid after fault le more machine)
    sourceless_prediction before mid after (Err fault) le more case is (inr first) =
        none_some (sym (ap first_of (last_none (input_faults task folder) (listing_faults task folder)
        (no_hindrance task.runs (is_empty task.actions) (has_no_source task folder.files) (input_faults task folder ++ listing_faults task folder) case))) ∙ first)

    -- the machine's counts before and after other calls
    pub prediction_wider : (first second third fourth : ℕ) (coming : PredictedOutcome) → first ≤ second → second ≤ third → third ≤ fourth
        → IsPredictedOf kinds options task folder old second third coming → IsPredictedOf kinds options task folder old first fourth coming
    prediction_wider first second third fourth comings.Skips ab bc cd is = is
    prediction_wider first second third fourth comings.HasNoActions ab bc cd is = is
    prediction_wider first second third fourth (comings.HasNoSource removes) ab bc cd is = is
    prediction_wider first second third fourth (comings.CannotRead fault) ab bc cd (inl machine) =
        inl (machine_after first third fourth fault cd (machine_before first second third fault ab bc machine))
    prediction_wider first second third fourth (comings.CannotRead fault) ab bc cd (inr first_of_all) = inr first_of_all
    prediction_wider first second third fourth comings.UpToDate ab bc cd is = is
    prediction_wider first second third fourth comings.HasGrown ab bc cd is = is
    prediction_wider first second third fourth (comings.Runs by_changes reported) ab bc cd is = is

-- a run for a reason has one
pub runs_reasoned : (reason : Reason) (coming : PredictedOutcome) → RunsFor reason coming → IsReasoned coming
runs_reasoned reason comings.Skips never = absurd never
runs_reasoned reason comings.HasNoActions never = absurd never
runs_reasoned reason (comings.HasNoSource removes) never = absurd never
runs_reasoned reason (comings.CannotRead fault) never = absurd never
runs_reasoned reason comings.UpToDate never = absurd never
runs_reasoned reason comings.HasGrown never = absurd never
runs_reasoned reason (comings.Runs by_changes reported) is = λ none. some (sym is.1 ∙ none)
  where
    some : reason ∷ [] ≡ [] → ⊥
    some e = cc

pub reported_reasoned : (found : Result PredictedOutcome Fault) → IfOk found IsReasoned → IsReasoned (reported_of found)
reported_reasoned (Ok coming) is = is
reported_reasoned (Err fault) is = tt

-- a relation that follows from another for each
pub all_related : {X Y : Type 0} (R S : X → Y → Type 0) → ((x : X) (y : Y) → R x y → S x y) → (xs : List X) (ys : List Y) → AllZip R xs ys → AllZip S xs ys
all_related R S follows [] [] all = tt
all_related R S follows [] (y ∷ ys) all = absurd all
all_related R S follows (x ∷ xs) [] all = absurd all
all_related R S follows (x ∷ xs) (y ∷ ys) all = (follows x y all.0, all_related R S follows xs ys all.1)

-- what a record decides it decides
pub decides_by : (options : Options) (task : Task) (old : Option Record) (decision : Decision) (present : Present)
    → FollowsFrom options task old decision (bases.Compared present) → Decides old present decision
decides_by options task None decision present goes = absurd goes
decides_by options task (Some run) decision present goes = goes

-- ---- Faults of the machine

pub by_machine : (before after : ℕ) (fault : Fault) → IsOfMachine before after fault → is_of_machine fault ≡ true
by_machine before after fault (inl memory) = ap is_of_machine memory
by_machine before after fault (inr device) = ap is_of_machine device.1
