use Rattle.std.proofs.Common.{◌≡◌, [], sym, ap, ◌∙◌, filter, bytes_eq}
use Rattle.gb_core.specs.Path.{task_name}
use Rattle.gb_core.specs.Tasks.{with_tasks}
use Rattle.gb_core.specs.Name.{is_name}
use Rattle.gb_registry.specs.Select.{tasks_named}
use Rattle.gb_registry.proofs.Lookups.{no_such_name}
use Rattle.gb_registry.proofs.registry.Registry.select_name.Goals as goal

pub returns-then-is_empty-clause-faults : goal.returns-then-is_empty-clause-faults
returns-then-is_empty-clause-faults c =
    let names = c.args.self.now.names in
    let word = c.args.word.now in
    let good = sym (ap is_name c.as_str.ensures) ∙ sym c.is_name.ensures ∙ c.if-not-is_name.false in
    let found : c.in_ok-tasks.tasks ≡ tasks_named names word =
    c.in_ok-tasks.ensures
    ∙ ap (λ name. with_tasks [] (filter (λ path. bytes_eq (task_name path) name) c.as_slice.result.now)) c.as_str-2.ensures
    ∙ ap (λ tasks. with_tasks [] (filter (λ path. bytes_eq (task_name path) word) tasks)) (c.as_slice.ensures ∙ ap (λ s. s.names.tasks) c.self.view_is) in
    no_such_name names word c.in_ok-copy-2.field-0 good (sym found ∙ c.is_empty.ensures.0 c.if-is_empty.true) c.in_ok-copy-2.ensures
