use Rattle.std.proofs.Common.{ap, sym, ◌∙◌}
use Rattle.gb_registry.specs.Source.{Source}
use Rattle.gb_registry.specs.Tables.{tables_of}
use Rattle.gb_declare.specs.Registered.{registry_said}
use Rattle.gb_project.proofs.SelectLemmas.{first_reported, selects, without_fault}
use Rattle.gb_project.proofs.SoundLemmas.{paths_said}
use Rattle.gb_project.proofs.script_tasks.ScriptTasksTasks.select.Goals as goal

pub returns-clause-selected : goal.returns-clause-selected
returns-clause-selected g c =
    let tasks = c.args.self.now in
    let tables = tables_of g.T.Transforms.meanings g.A.Actions.meanings tasks.workspace.tables in
    let source = tasks.workspace.source in
    selects tasks.registry.now.names c.args.word.now (registry_said tables source) (ap (λ (s : Source). s.names.projects) tasks.source)
    (paths_said tables source ∙ sym tasks.tasks ∙ ap (λ (s : Source). s.names.tasks) tasks.source) c.select.result c.select.ensures.tasks c.select.ensures.faults

pub returns-clause-good : goal.returns-clause-good
returns-clause-good g c =
    let tasks = c.args.self.now in
    let tables = tables_of g.T.Transforms.meanings g.A.Actions.meanings tasks.workspace.tables in
    let source = tasks.workspace.source in
    without_fault tasks.registry.now.names c.args.word.now (registry_said tables source) (ap (λ (s : Source). s.names.projects) tasks.source)
    (paths_said tables source ∙ sym tasks.tasks ∙ ap (λ (s : Source). s.names.tasks) tasks.source) c.select.result c.select.ensures.faults

pub returns-clause-bad : goal.returns-clause-bad
returns-clause-bad g c =
    let tasks = c.args.self.now in
    let tables = tables_of g.T.Transforms.meanings g.A.Actions.meanings tasks.workspace.tables in
    let source = tasks.workspace.source in
    first_reported tasks.registry.now.names c.args.word.now (registry_said tables source) (ap (λ (s : Source). s.names.projects) tasks.source)
    (paths_said tables source ∙ sym tasks.tasks ∙ ap (λ (s : Source). s.names.tasks) tasks.source) c.select.result c.select.ensures.faults
