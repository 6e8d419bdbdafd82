-- The reports of the tasks of a plan, and the answer to the arguments.
use Rattle.std.specs.Prelude.{ℕ, ◌≡◌, ◌⊎◌, false, List, map, Option, Result, Ok, Err}
use Rattle.std.specs.Prelude.{string_bytes}
use Rattle.std.specs.Global.{Global}
use Rattle.std.specs.List.{AllByRecursion, AllZip, flat_map}
use Rattle.std.specs.declared.vec.Vec.{Vec}
use Rattle.gb_action.specs.Meanings.{Meanings}
use Rattle.gb_answer.specs.Answer.{not_built_text}
use Rattle.gb_cli.specs.Answered.{Given}
use Rattle.gb_predict.specs.Prediction.{ArePredictedOf, IsReasoned}
use Rattle.gb_predict.specs.Marks.{AreMarked}
use Rattle.gb_predict.specs.declared.predicted_outcome.Prediction.{Prediction}
use Rattle.gb_graph.specs.Answer.{IsPlanOf, IsRefusalOf}
use Rattle.gb_history.specs.Record.{Record}
use Rattle.gb_build.specs.Registering.{registers_in}
use Rattle.gb_build.specs.Refusing.{IsUnread}
use Rattle.gb_semantics.specs.Edits.{Shown}
use Rattle.gb_semantics.specs.Events.{IsNotBuilt}
use Rattle.gb_semantics.specs.Headline.{Agrees}
use Rattle.gb_semantics.specs.Kinds.{Kinds}
use Rattle.gb_semantics.specs.TrueRecord.{outside}
use Rattle.gb_semantics.specs.declared.events.Invocation.{Invocation}
use Rattle.gb_plan.specs.Graph.{IsRegistry, Plan, Registry, order}
use Rattle.gb_plan.specs.Ready.{Rows}
use Rattle.gb_plan.specs.Task.{Text}
use Rattle.gb_query.specs.Objects.{IsJsonOf}
use Rattle.gb_query.specs.declared.notation.Notation.{Notation}
use Rattle.gb_query.specs.declared.notation.Notation.TheVariants as notations
use Rattle.gb_records.specs.Said.{IsReadAt}
use Rattle.gb_registry.specs.Tables.{Tables}
use Rattle.gb_report.specs.declared.fault.Fault.{Fault}
use Rattle.gb_report.specs.declared.fault.Fault.TheVariants as faults
use Rattle.gb_report.specs.declared.report.Options.{Options}
use Rattle.gb_ask_command.specs.Line.{line_text}
use Rattle.gb_ask_command.specs.Replies.{Replies}
use Rattle.gb_ask_command.specs.Reply.{Reply}
use Rattle.gb_ask_command.specs.WhyJson.{why_data}

-- the report of each task, or why a build would be refused
abbrev pub Answer : Type 0
Answer = Result (Vec Prediction Global) Fault

-- ---- The output

-- a line for each task, or one value in JSON
abbrev pub IsWhyText : Notation → List Prediction → List ℕ → Type 0
IsWhyText notations.Lines reported text = text ≡ flat_map line_text reported
IsWhyText notations.Json reported text = IsJsonOf (why_data reported) text

-- the text of the reports, or that memory ran out for it; a refusal is kept
abbrev pub IsWritten : Notation → Answer → Reply → Type 0
IsWritten notation (Ok reported) (Ok text) = IsWhyText notation reported.items (string_bytes text)
IsWritten notation (Ok reported) (Err fault) = fault ≡ faults.OutOfMemory
IsWritten notation (Err fault) reply = reply ≡ Err fault

-- the text, or the refusal as builds print it
abbrev pub why_text : Reply → List ℕ
why_text (Ok text) = string_bytes text
why_text (Err fault) = not_built_text fault

-- ---- The reports

-- The report of each task of the plan predicts its execution on the folder as it is, based on the records
-- that exist; the device fails up to this count.
pub record AreReportedOn {S : Type 0} (meanings : Meanings S) (rows : Rows S) (options : Options)
    (old : Shown)
    (after : ℕ) (plan : Plan) (reported : List Prediction) : Type 0 where
  pub records : List (Option Record)
  pub read : AllZip (IsReadAt old.contents.files) (order plan) records
  pub prediction : (kinds : Kinds) → Agrees meanings rows kinds
      → ArePredictedOf kinds options old.contents old.failures after plan records reported

-- Over any folder: the tasks of the plan are reported in its order; a task that is executed for reasons has a
-- reason; and each task is marked with the first one that may change what it reads. If contents are known,
-- the reports are right.
pub record AreReported {S : Type 0} (known : Type 0) (meanings : Meanings S) (rows : Rows S)
    (options : Options)
    (old : Shown) (after : ℕ) (plan : Plan) (reported : List Prediction) : Type 0 where
  pub paths : map (λ one. one.path) reported ≡ order plan
  pub reasoned : AllByRecursion (λ one. IsReasoned one.coming) reported
  pub marked : AreMarked plan reported
  pub prediction : known → AreReportedOn meanings rows options old after plan reported

-- the reports of the plan of a request for a registry
abbrev pub AreReportedOf : {S : Type 0} → Type 0 → Meanings S → Rows S → Registry → List Text → List Text
    → Options
    → Shown → ℕ → List Prediction → Type 0
AreReportedOf known meanings rows registry requested excluded options old after reported =
    (plan : Plan) × IsPlanOf registry requested excluded plan
    × AreReported known meanings rows options old after plan reported

-- ---- The answer

-- the request is refused for this registry, or the records of its tasks could not be read
abbrev pub IsNotReported : Registry → List Text → List Text → ℕ → ℕ → Fault → Type 0
IsNotReported registry requested excluded before after fault =
    IsRefusalOf registry requested excluded fault ⊎ IsUnread false before after fault

-- the same request without `--dry-run`
abbrev pub in_earnest : Invocation → Invocation
in_earnest invocation = record {
  requested = invocation.requested;
  excluded = invocation.excluded;
  properties = invocation.properties;
  options = record {
    keep_going = invocation.options.keep_going;
    rerun = invocation.options.rerun;
    dry_run = false;
  };
}

module _ {M F Z S A : Type 0} (tables : Tables M F Z S A) (known : Type 0) where
  -- The tasks of the plan of the request for some registry are reported. If contents are known, it is the
  -- registry of the folder's scripts.
  pub record IsReported (invocation : Invocation) (old : Shown) (after : ℕ) (reported : List Prediction)
      : Type 0 where
    pub registry : Registry
    pub is_registry : IsRegistry registry
    pub scripts : known
        → registers_in tables (outside old.contents).files invocation.properties (Ok registry)
    pub reported_of : AreReportedOf known tables.shapes tables.kinds registry invocation.requested
        invocation.excluded
        invocation.options old after reported

  -- the request is reported; or if contents are known, a build of it is refused for this fault
  abbrev pub IsAnswerTo : Invocation → Shown → Answer → ℕ → Type 0
  IsAnswerTo invocation old (Ok reported) after = IsReported invocation old after reported.items
  IsAnswerTo invocation old (Err fault) after =
      known → IsNotBuilt (registers_in tables) old (in_earnest invocation) fault after

  -- the arguments are refused, or they make a request, and this is the answer to it
  abbrev pub Answers : Given → Shown → Answer → ℕ → Type 0
  Answers given old answer after = Replies (λ invocation reply. IsAnswerTo invocation old reply after)
      given answer
