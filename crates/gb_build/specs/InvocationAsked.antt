-- The calls that an invocation makes, over any folder.
use Rattle.std.specs.Prelude.{Result, Ok, Err}
use Rattle.gb_declare.specs.Registered.{registry_said}
use Rattle.gb_folder.specs.Calls.{Requests, no_change, Device}
use Rattle.gb_semantics.specs.Outline.{IsOutlinedBy}
use Rattle.gb_semantics.specs.declared.events.Invocation.{Invocation}
use Rattle.gb_plan.specs.Graph.{IsRegistry}
use Rattle.gb_registry.specs.Source.{Source}
use Rattle.gb_registry.specs.Tables.{Tables}
use Rattle.gb_report.specs.declared.fault.Fault.{Fault}
use Rattle.gb_report.specs.declared.report.Report.{Report}
use Rattle.gb_build.specs.Asking.{AreBuildable}
use Rattle.gb_build.specs.Found.{IsDeclared}
use Rattle.gb_build.specs.RequestAsked.{PlanRequests}

-- First calls return what the scripts declare, and no change is requested. From there on it is a build of
-- what is requested of the tasks that they register, and makes the calls of its plan.
pub record BuildsDeclared {F M N Z S A : Type 0} (device : Device F) (tables : Tables M N Z S A)
    (invocation : Invocation) (report : Report) (old new : F) : Type 0 where
  pub source : Source
  pub begun : F
  pub first : Requests device no_change old begun
  pub declared : IsDeclared device tables invocation.properties old begun source
  pub is_registry : IsRegistry (registry_said tables source)
  pub buildable : AreBuildable tables.shapes tables.kinds (registry_said tables source)
  pub by : IsOutlinedBy (registry_said tables source) invocation report
  pub plan : PlanRequests device tables.shapes tables.kinds invocation.options by.plan
      report.tasks begun new

-- a refused build requests no change; another makes the calls of the plan of its scripts
abbrev pub InvocationRequests : {F M N Z S A : Type 0} → Device F
    → Tables M N Z S A → Invocation → Result Report Fault → F → F → Type 0
InvocationRequests device tables invocation (Err fault) old new =
    Requests device no_change old new
InvocationRequests device tables invocation (Ok report) old new =
    BuildsDeclared device tables invocation report old new
