-- The report of a plan is the report of the request, and a later report is one of the earlier folder.
use Rattle.std.specs.Prelude.{ℕ, ◌≡◌, ◌≤◌, List, Option, Result, Ok, Err, IfErr, IfOk}
use Rattle.std.specs.List.{AllZip, zip}
use Rattle.std.proofs.Common.{subst, arith}
use Rattle.gb_action.specs.Meanings.{Meanings}
use Rattle.gb_folder.specs.Files.{Contents}
use Rattle.gb_predict.specs.Prediction.{ArePredictedOf, IsPredictedOf}
use Rattle.gb_predict.specs.declared.predicted_outcome.Prediction.{Prediction}
use Rattle.gb_predict.proofs.Predicting.{all_related, prediction_wider}
use Rattle.gb_history.specs.Record.{Record}
use Rattle.gb_build.proofs.Keeping.{begun_before}
use Rattle.gb_build.specs.Registering.{registers_in}
use Rattle.gb_build.proofs.Refusing.{not_built}
use Rattle.gb_semantics.specs.Edits.{Shown}
use Rattle.gb_semantics.specs.Kinds.{Kinds}
use Rattle.gb_semantics.specs.TrueRecord.{outside}
use Rattle.gb_semantics.specs.declared.events.Invocation.{Invocation}
use Rattle.gb_plan.specs.Graph.{IsRegistry, Plan, Registry, order}
use Rattle.gb_plan.specs.Ready.{Rows}
use Rattle.gb_plan.specs.declared.plan.Planned.{Planned}
use Rattle.gb_records.specs.Said.{IsReadAt}
use Rattle.gb_registry.specs.Tables.{Tables}
use Rattle.gb_report.specs.declared.report.Options.{Options}
use Rattle.gb_ask_command.specs.Coloured.{ArePredicted}
use Rattle.gb_ask_command.specs.Reported.{Answer, AreReported, AreReportedOf, AreReportedOn, IsAnswerTo, IsNotReported, IsReported, in_earnest}
use Rattle.gb_ask_command.specs.declared.arguments.Colouring.{Colouring}
use Rattle.gb_ask_command.specs.declared.arguments.Colouring.TheVariants as colourings

-- ---- Answers

pub ok_always : {T E : Type 0} (P : Type 0) (r : Result T E) → P → IfOk r (λ x. P)
ok_always P (Ok x) is = is
ok_always P (Err e) is = tt

pub err_more : {T E : Type 0} (P Q : E → Type 0) → ((e : E) → P e → Q e) → (r : Result T E) → IfErr r P → IfErr r Q
err_more P Q more (Ok x) is = tt
err_more P Q more (Err e) is = more e is

-- ---- Since the folder had these contents

-- the visible state of a folder
abbrev pub shows : Contents → ℕ → Shown
shows contents failures = record { contents = contents; failures = failures }

pub prediction_since : (kinds : Kinds) (options : Options) (folder : Contents) (before later after : ℕ) → before ≤ later → later ≤ after
    → (plan : Plan) (records : List (Option Record)) (reported : List Prediction)
    → ArePredictedOf kinds options folder later after plan records reported → ArePredictedOf kinds options folder before after plan records reported
prediction_since kinds options folder before later after earlier count plan records reported =
    let Is : ℕ → Planned × Option Record → Prediction → Type 0 = λ from pair one. IsPredictedOf kinds options pair.0.task folder pair.1 from after one.coming in
    all_related (Is later) (Is before) (λ pair one is. prediction_wider kinds options pair.0.task folder pair.1 before later after after one.coming earlier count (omega arith) is)
    (zip plan records) reported

module _ {S : Type 0} (meanings : Meanings S) (rows : Rows S) (options : Options) (contents mid : Contents) (before later after : ℕ) where
  pub on_since : mid ≡ contents → before ≤ later → later ≤ after → (plan : Plan) (reported : List Prediction)
      → AreReportedOn meanings rows options (shows mid later) after plan reported → AreReportedOn meanings rows options (shows contents before) after plan reported
  on_since same earlier count plan reported on = record {
    records = on.records;
    read = subst (λ (c : Contents). AllZip (IsReadAt c.files) (order plan) on.records) same on.read;
    prediction = λ kinds agrees.
        prediction_since kinds options contents before later after earlier count plan on.records reported
        (subst (λ (c : Contents). ArePredictedOf kinds options c later after plan on.records reported) same (on.prediction kinds agrees));
  }

  pub reported_since : (known : Type 0) → (known → mid ≡ contents) → before ≤ later → later ≤ after → (plan : Plan) (reported : List Prediction)
      → AreReported known meanings rows options (shows mid later) after plan reported → AreReported known meanings rows options (shows contents before) after plan reported
  reported_since known same earlier count plan reported is = record {
    paths = is.paths;
    reasoned = is.reasoned;
    marked = is.marked;
    prediction = λ yes. on_since (same yes) earlier count plan reported (is.prediction yes);
  }

-- ---- The request

module _ {M F Z S A : Type 0} (tables : Tables M F Z S A) (known : Type 0) (invocation : Invocation) (contents mid : Contents) (before later after : ℕ)
    (same : known → mid ≡ contents) (earlier : before ≤ later) (count : later ≤ after) (registry : Registry)
    (scripts : known → registers_in tables (outside contents).files invocation.properties (Ok registry)) where
  -- an answer since the scripts were read is the answer to the request
  pub answers_it : (answer : Answer) → IfOk answer (λ reported. IsRegistry registry)
      → IfOk answer (λ reported. AreReportedOf known tables.shapes tables.kinds registry invocation.requested invocation.excluded invocation.options (shows mid later) after reported.items)
      → IfErr answer (IsNotReported registry invocation.requested invocation.excluded later after)
      → IsAnswerTo tables known invocation (shows contents before) answer after
  answers_it (Ok reported) sound is none = record {
    registry = registry;
    is_registry = sound;
    scripts = scripts;
    reported_of = (
      is.0,
      is.1,
      reported_since tables.shapes tables.kinds invocation.options contents mid before later after known same earlier count is.0 reported.items is.2,
    );
  }
  answers_it (Err fault) sound none why = λ yes.
      not_built (registers_in tables) registry (shows contents before) (in_earnest invocation) fault after (scripts yes)
      (begun_before registry (in_earnest invocation) before later after earlier count fault why)

-- ---- What was known of an earlier state

module _ {M F Z S A : Type 0} (tables : Tables M F Z S A) (earlier known : Type 0) (back : known → earlier) (old : Shown) (after : ℕ) (invocation : Invocation) where
  reported_before : (reported : List Prediction) → IsReported tables earlier invocation old after reported → IsReported tables known invocation old after reported
  reported_before reported is = record {
    registry = is.registry;
    is_registry = is.is_registry;
    scripts = λ yes. is.scripts (back yes);
    reported_of = (
      is.reported_of.0,
      is.reported_of.1,
      record {
        paths = is.reported_of.2.paths;
        reasoned = is.reported_of.2.reasoned;
        marked = is.reported_of.2.marked;
        prediction = λ yes. is.reported_of.2.prediction (back yes);
      },
    );
  }

  answer_before : (answer : Answer) → IsAnswerTo tables earlier invocation old answer after → IsAnswerTo tables known invocation old answer after
  answer_before (Ok reported) is = reported_before reported.items is
  answer_before (Err fault) is = λ yes. is (back yes)

  pub predicted_before : (colouring : Colouring) (predicted : List Prediction) → ArePredicted tables earlier old after colouring invocation predicted → ArePredicted tables known old after colouring invocation predicted
  predicted_before colourings.Plain predicted is = is
  predicted_before colourings.Outcomes predicted (answer, is, found) = (answer, answer_before answer is, found)
