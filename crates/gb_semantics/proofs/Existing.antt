-- The state between executions, and the rules of a build, from their parts.
use Rattle.std.specs.Prelude.{ℕ}
use Rattle.gb_report.specs.declared.report.TaskReport.{TaskReport}
use Rattle.gb_report.specs.declared.report.Options.{Options}
use Rattle.gb_plan.specs.Graph.{Plan}
use Rattle.gb_plan.specs.declared.plan.Planned.{Planned}
use Rattle.gb_semantics.specs.Kinds.{Kinds}
use Rattle.gb_semantics.specs.Label.{Moment}
use Rattle.gb_semantics.specs.Memory.{World}
use Rattle.gb_semantics.specs.Execution.{GuardedExecution, May, Rules, WorldState, Execution}

abbrev pub rules_of : Kinds → Options → May → Plan → Rules
rules_of kinds options may plan = record { kinds = kinds; options = options; may = may; plan = plan }

abbrev pub existing : World → ℕ → WorldState
existing world failures = record { world = world; failures = failures }

-- the part of an execution that needs no guard, with an execution by other rules under another guard
pub with_execution : {rules others : Rules} {assumed other : Type 0} {moment : Moment} {planned : Planned} {report : TaskReport} {new : WorldState}
    → GuardedExecution rules assumed moment planned report new → (other → Execution others moment planned report new) → GuardedExecution others other moment planned report new
with_execution guarded execution = record { folder = guarded.folder; files = guarded.files; special = guarded.special; count = guarded.count; execution = execution }
