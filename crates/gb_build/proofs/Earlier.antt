-- A build from a moment is one from an earlier count of failures too.
use Rattle.std.specs.Prelude.{ℕ, ◌≤◌, List, [], ◌∷◌}
use Rattle.std.proofs.Common.{inl, inr, arith}
use Rattle.gb_folder.specs.Files.{Bytes, Files}
use Rattle.gb_folder.proofs.Changes.{HasRisen-before}
use Rattle.gb_semantics.specs.Events.{Setting, may_occur, rules_in}
use Rattle.gb_semantics.specs.Label.{Moment}
use Rattle.gb_semantics.specs.Memory.{World}
use Rattle.gb_semantics.specs.Execution.{Builds, DoesStart, Guard, WorldState, Execution, Executions, first_moment}
use Rattle.gb_plan.specs.Graph.{Plan}
use Rattle.gb_plan.specs.declared.plan.Planned.{Planned}
use Rattle.gb_plan.specs.declared.task.TaskDeclaration.{TaskDeclaration as Task}
use Rattle.gb_report.specs.declared.fault.Fault.{Fault}
use Rattle.gb_report.specs.declared.fault.Fault.TheVariants as faults
use Rattle.gb_report.specs.declared.report.Options.{Options}
use Rattle.gb_report.specs.declared.report.TaskReport.{TaskReport}

module _ (setting : Setting) (own : Files) (options : Options) (plan : Plan) (lower : ℕ) where
  abbrev lowered : Moment → Moment
  lowered moment = record { world = moment.world; outcomes = moment.outcomes; failures = lower }

  may_since : (task : Task) (moment : Moment) (new : WorldState) (fault : Fault) → lower ≤ moment.failures → moment.failures ≤ new.failures
      → may_occur setting own options task moment new fault → may_occur setting own options task (lowered moment) new fault
  may_since task moment new faults.OutOfMemory earlier count may = may
  may_since task moment new (faults.Device place) earlier count may = (HasRisen-before lower moment.failures new.failures earlier count may.0, may.1, may.2)
  may_since task moment new faults.HistoryNotWritten earlier count may = (
    may.0,
    elim may.1 [ inl risen ↦ inl (HasRisen-before lower moment.failures new.failures earlier count risen) | inr other ↦ inr other ],
  )
  may_since task moment new other earlier count may = absurd may

  starts_since : (moment : Moment) (planned : Planned) → DoesStart options plan moment planned → DoesStart options plan (lowered moment) planned
  starts_since moment planned starts = record { needs_ended_well = starts.needs_ended_well; is_called = starts.is_called; goes_on = starts.goes_on }

  started_before : (moment : Moment) (planned : Planned) → DoesStart options plan (lowered moment) planned → DoesStart options plan moment planned
  started_before moment planned starts = record { needs_ended_well = starts.needs_ended_well; is_called = starts.is_called; goes_on = starts.goes_on }

  execution_since : (moment : Moment) (planned : Planned) (report : TaskReport) (new : WorldState) → lower ≤ moment.failures → moment.failures ≤ new.failures
      → Execution (rules_in setting own options plan) moment planned report new → Execution (rules_in setting own options plan) (lowered moment) planned report new
  execution_since moment planned report new earlier count execution = (
    execution.0,
    execution.1,
    elim execution.2 [
      | inl started ↦ inl (
        starts_since moment planned started.0,
        record {
          label = elim started.1.label [ inl label ↦ inl label | inr comes ↦ inr (comes.0, may_since planned.task moment new comes.0 earlier count comes.1, comes.2) ];
          leaves = started.1.leaves;
          prints = started.1.prints;
          reading = started.1.reading;
          begun = started.1.begun;
        },
      )
      | inr passed ↦ inr (λ starts. passed.0 (started_before moment planned starts), passed.1)
    ],
  )

  executions_since : (assumed : Guard) (observed : List Bytes) (rest : List Planned) (moment : Moment) (reports : List TaskReport) (new : WorldState) → lower ≤ moment.failures
      → Executions (rules_in setting own options plan) assumed observed rest moment reports new → Executions (rules_in setting own options plan) assumed observed rest (lowered moment) reports new
  executions_since assumed observed [] moment [] new earlier executions = (executions.0, omega (arith, earlier, executions.1))
  executions_since assumed observed [] moment (report ∷ reports) new earlier executions = absurd executions
  executions_since assumed observed (planned ∷ rest) moment [] new earlier executions = absurd executions
  executions_since assumed observed (planned ∷ rest) moment (report ∷ reports) new earlier executions = (
    executions.0,
    record {
      folder = executions.1.folder;
      files = executions.1.files;
      special = executions.1.special;
      count = omega (arith, earlier, executions.1.count);
      execution = λ given. execution_since moment planned report executions.0 earlier executions.1.count (executions.1.execution given);
    },
    executions.2,
  )

  -- a build that began when the device had failed more often
  pub builds_since : (assumed : Guard) (observed : List Bytes) (world : World) (later : ℕ) (reports : List TaskReport) (new : WorldState) → lower ≤ later
      → Builds (rules_in setting own options plan) assumed observed (record { world = world; failures = later }) reports new
      → Builds (rules_in setting own options plan) assumed observed (record { world = world; failures = lower }) reports new
  builds_since assumed observed world later reports new earlier builds = elim builds [
    | inl dry ↦ inl dry
    | inr run ↦ inr (run.0, executions_since assumed observed plan (first_moment (record { world = world; failures = later })) reports new earlier run.1)
  ]
