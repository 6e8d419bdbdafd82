-- The definitions that the contract of `execute` uses.
pub use Rattle.gb_exec.specs.Asking.{ExecutionsRequest}
pub use Rattle.gb_exec.specs.Building.{CanBuild, is_of_executions}
pub use Rattle.gb_exec.specs.Built.{AreTrueBefore, HasBuilt}
pub use Rattle.gb_exec.specs.Failing.{times_attributed}
pub use Rattle.gb_exec.specs.Reports.{IsOf}
pub use Rattle.gb_folder.specs.Calls.{Requests}
pub use Rattle.gb_folder.specs.Files.{Bytes, Contents}
pub use Rattle.gb_history.specs.Places.{record_place}
pub use Rattle.gb_exec.specs.Notifying.{Refuses}
pub use Rattle.gb_semantics.specs.Headline.{Agrees, Ear, HasFailed, HaveHeard, HearsAll}
pub use Rattle.gb_semantics.specs.Headline.{TornWritesAreDetected}
pub use Rattle.gb_semantics.specs.Kinds.{Kinds}
pub use Rattle.gb_semantics.specs.Memory.{Memory}
pub use Rattle.gb_semantics.specs.Outline.{Outlines}
pub use Rattle.gb_printer.specs.Printing.{Prints, parts_text}
pub use Rattle.gb_records.specs.Said.{IsText}
pub use Rattle.gb_folder.specs.Changes.{ChangesOnly}
pub use Rattle.gb_task.specs.Buildable.{IsBuildable}
pub use Rattle.gb_records.specs.Assumed.{IsAssumed}
pub use Rattle.gb_task.specs.Executing.{Registering, setting_with}
pub use Rattle.gb_report.specs.declared.report.Heard.{Heard}
pub use Rattle.gb_report.specs.declared.report.Options.{Options}
pub use Rattle.gb_report.specs.declared.report.Outcome.{Outcome}
pub use Rattle.gb_report.specs.declared.report.Report.{Report}
pub use Rattle.gb_report.specs.declared.report.TaskReport.{TaskReport}
