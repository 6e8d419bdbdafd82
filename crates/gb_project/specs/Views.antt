-- Declared tasks as the code keeps them.
use Rattle.std.specs.Prelude.{List, map, Option, option_map}
use Rattle.gb_declare.specs.Views.{joined_of}
use Rattle.gb_provider.specs.Rules.{numbers_of}
use Rattle.gb_provider.specs.declared.expression.Expression.{Expression}
use Rattle.gb_project.specs.Stage.{DeclaredTask, Stage}
use Rattle.gb_project.specs.declared.declared_task.Declared.{Declared}
use Rattle.gb_project.specs.declared.declared_task.DeclaredTask as kept

abbrev pub entry_of : kept.DeclaredTask → DeclaredTask
entry_of entry = record {
  build = entry.build;
  task = joined_of entry.task;
  row = numbers_of entry.row.items;
}

abbrev pub entries_of : List (Option kept.DeclaredTask) → List (Option DeclaredTask)
entries_of entries = map (option_map entry_of) entries

-- all expressions of providers, and the outcomes of tasks
abbrev pub stage_of : {M F Z : Type 0} → List (Expression M F Z) → Declared → Stage M F Z
stage_of nodes declared = record {
  nodes = nodes;
  faults = declared.faults.items;
  entries = entries_of declared.entries.items;
}
