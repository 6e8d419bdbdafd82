use Rattle.std.proofs.Common.{inr, sym, ap, ◌∙◌, bytes_eq}
use Rattle.std.specs.List.{position}
use Rattle.gb_registry.specs.Projects.{root_path}
use Rattle.gb_registry.specs.References.{lookup_faults}
use Rattle.gb_registry.specs.Said.{task_at}
use Rattle.gb_registry.specs.Tables.{tables_of}
use Rattle.gb_report.specs.declared.fault.Fault.TheVariants.{TaskNotFound, UnknownOutput}
use Rattle.gb_declare.specs.Realised.{first_or, no_output}
use Rattle.gb_project.specs.Over.{AreKnown, known_names}
use Rattle.gb_project.proofs.KnownLemmas.{answered, answered_same, at_place, not_found, its_fault, no_such, never}
use Rattle.gb_project.proofs.reporting.no_output.Goals as goal

pub returns-in_default : goal.returns-in_default
returns-in_default g c =
    let tables = tables_of g.T.Transforms.meanings g.A.Actions.meanings c.args.context.now.tables.now in
    let context = c.args.context.now in
    let names = known_names context.projects.now context.tasks.now in
    let chosen = c.args.chosen.now in
    answered (λ source. AreKnown tables source names context.faults.now) (λ source. no_output tables source chosen (task_at source.said chosen.task))
    (first_or (TaskNotFound chosen.task) (lookup_faults names root_path chosen.task))
    (λ source known. not_found tables source names context.faults.now known chosen (sym (ap (λ path. position (bytes_eq path) names.tasks) c.as_str.ensures.text) ∙ (sym c.position.ensures ∙ c.in_default.is)))
    c.no_task.result c.no_task.ensures

pub returns-in_default-get : goal.returns-in_default-get
returns-in_default-get g c =
    let tables = tables_of g.T.Transforms.meanings g.A.Actions.meanings c.args.context.now.tables.now in
    let context = c.args.context.now in
    let names = known_names context.projects.now context.tasks.now in
    let chosen = c.args.chosen.now in
    answered (λ source. AreKnown tables source names context.faults.now) (λ source. no_output tables source chosen (task_at source.said chosen.task))
    (first_or (TaskNotFound chosen.task) (lookup_faults names root_path chosen.task))
    (λ source known. absurd (never tables source names context.faults.now known chosen c.in-Some.index
    (sym (ap (λ path. position (bytes_eq path) names.tasks) c.as_str.ensures.text) ∙ sym c.in-Some.ensures) c.in_default-get.ensures.lookup.0))
    c.no_task-in_default-get.result c.no_task-in_default-get.ensures

pub returns-in-Some-known : goal.returns-in-Some-known
returns-in-Some-known g c =
    let tables = tables_of g.T.Transforms.meanings g.A.Actions.meanings c.args.context.now.tables.now in
    let context = c.args.context.now in
    let names = known_names context.projects.now context.tasks.now in
    let chosen = c.args.chosen.now in
    answered_same (λ source. AreKnown tables source names context.faults.now) (λ source. no_output tables source chosen (task_at source.said chosen.task)) c.in-Some-known.fault
    (λ source known.
    let is = sym (ap (λ path. position (bytes_eq path) names.tasks) c.as_str.ensures.text) ∙ sym c.in-Some.ensures in
    its_fault tables source names context.faults.now known chosen c.in-Some.index is c.in-Some-get.known.now
    (at_place tables source names context.faults.now known chosen c.in-Some.index is c.in-Some-get.known.now c.in-Some-get.ensures.lookup.3.0 c.in-Some-get.ensures.lookup.1)
    c.in-Some-known.fault c.in-Some-known.is)
    c.copy.result c.copy.ensures

pub returns-in_ok-copy-in-None-2 : goal.returns-in_ok-copy-in-None-2
returns-in_ok-copy-in-None-2 g c = λ source known.
    let tables = tables_of g.T.Transforms.meanings g.A.Actions.meanings c.args.context.now.tables.now in
    let context = c.args.context.now in
    let names = known_names context.projects.now context.tasks.now in
    let chosen = c.args.chosen.now in
    let is = sym (ap (λ path. position (bytes_eq path) names.tasks) c.as_str.ensures.text) ∙ sym c.in-Some.ensures in
    let none = no_such tables source names context.faults.now known chosen c.in-Some.index is c.in-Some-get.known.now
    (at_place tables source names context.faults.now known chosen c.in-Some.index is c.in-Some-get.known.now c.in-Some-get.ensures.lookup.3.0 c.in-Some-get.ensures.lookup.1) c.in-None.is in
    inr ((λ i. UnknownOutput (c.in_ok-copy-in-None.ensures i) (c.in_ok-copy-in-None-2.ensures i)) ∙ none)
