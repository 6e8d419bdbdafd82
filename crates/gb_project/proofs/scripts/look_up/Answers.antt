use Rattle.std.proofs.Common.{List, [], ap, ◌∙◌}
use Rattle.std.specs.List.{flat_map}
use Rattle.std.specs.Prelude.{filter_map}
use Rattle.gb_registry.specs.Projects.{with_paths}
use Rattle.gb_registry.specs.Said.{added_clauses, declared_property}
use Rattle.gb_script.specs.declared.script.Statement.{Statement}
use Rattle.gb_project.proofs.scripts.look_up.Goals as goal

pub returns-clause-indexed : goal.returns-clause-indexed
returns-clause-indexed c = record {
  properties = c.in_ok-properties_of.ensures ∙ ap (λ (ss : List Statement). with_paths [] (filter_map declared_property ss)) c.statements-statements.ensures;
  blocks = λ name. c.in_ok-blocks_by_name.ensures name ∙ ap (λ (ss : List Statement). flat_map (added_clauses name) ss) c.statements-statements.ensures;
}
