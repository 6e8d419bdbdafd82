-- The definitions that the contracts of builds use.
pub use Rattle.gb_action.specs.Meanings.{Meanings}
pub use Rattle.gb_build.specs.EventAsked.{EventRequests, EventsRequest}
pub use Rattle.gb_folder.specs.Files.{Bytes, Contents, SameTearing}
pub use Rattle.gb_graph.specs.Answer.{IsPlanOf, IsRefusalOf}
pub use Rattle.gb_history.specs.Places.{record_place}
pub use Rattle.gb_build.specs.InvocationAsked.{InvocationRequests}
pub use Rattle.gb_build.specs.Registering.{registers_in, setting_of}
pub use Rattle.gb_build.specs.Leading.{IsTransition}
pub use Rattle.gb_exec.specs.Notifying.{Refuses}
pub use Rattle.gb_semantics.specs.Edits.{Shown}
pub use Rattle.gb_semantics.specs.Events.{IsBuild, IsNotBuilt, Setting, State, has_failure, is_read_first}
pub use Rattle.gb_semantics.specs.Every.{IsFromScratch, UnconditionalRun, PromiseHolds, Succeeds}
pub use Rattle.gb_semantics.specs.Assumed.{PremisesHoldInMemory, SomeKindsAgree, leaves_nothing}
pub use Rattle.gb_semantics.specs.Headline.{Agrees, AllKeepElsewhere, Ear, EventKeeps, EventsHold}
pub use Rattle.gb_semantics.specs.Headline.{HasFailed, HaveHeard, HaveHeardAll, HearsAll, InvocationHolds}
pub use Rattle.gb_semantics.specs.Headline.{HoldsMemory, TornWritesAreDetected, answer_of, times_attributed}
pub use Rattle.gb_semantics.specs.Headline.{times_attributed_in_all}
pub use Rattle.gb_semantics.specs.Kinds.{Kind, Kinds}
pub use Rattle.gb_semantics.specs.Memory.{Memory}
pub use Rattle.gb_semantics.specs.Scratch.{from_scratch}
pub use Rattle.gb_semantics.specs.declared.events.Answer.{Answer}
pub use Rattle.gb_semantics.specs.declared.events.Event.{Event}
pub use Rattle.gb_semantics.specs.declared.events.Invocation.{Invocation}
pub use Rattle.gb_plan.specs.Graph.{Registry, no_repeats}
pub use Rattle.gb_printer.specs.Printing.{Prints, parts_text}
pub use Rattle.gb_records.specs.Said.{IsText}
pub use Rattle.gb_registry.specs.Configure.{configure_faults}
pub use Rattle.gb_registry.specs.Tables.{tables_of}
pub use Rattle.gb_records.specs.Assumed.{IsAssumed}
pub use Rattle.gb_report.specs.Fault.{fault_number, fault_text}
pub use Rattle.gb_report.specs.Report.{report_text}
pub use Rattle.gb_report.specs.declared.fault.Fault.{Fault}
pub use Rattle.gb_report.specs.declared.report.Heard.{Heard}
pub use Rattle.gb_report.specs.declared.report.Outcome.{Outcome}
pub use Rattle.gb_report.specs.declared.report.Report.{Report}
pub use Rattle.gb_declare.specs.Registered.{registry_said}
