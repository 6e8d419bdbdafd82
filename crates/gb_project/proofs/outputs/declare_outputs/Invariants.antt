use Rattle.std.proofs.Common.{◌≡◌, ◌<◌, ◌≤◌, length, map}
use Rattle.std.specs.Prelude.{All}
use Rattle.gb_provider.specs.Rules.{numbers_of}
use Rattle.gb_declare.specs.Borrowed.{outputs_in}
use Rattle.gb_project.specs.Stage.{with_outputs}
use Rattle.gb_project.proofs.outputs.declare_outputs.Given as goal

abbrev pub invariant-loop-name : goal.invariant-loop-name
invariant-loop-name g l = record {
  table : l.providers.table ≡ l.initial.providers.table;
  made :
      with_outputs l.path l.initial.providers.nodes (outputs_in l.outputs) (numbers_of l.row)
      ≡ with_outputs l.path l.providers.nodes (map (λ e. (e.0, (e.1.0, e.1.1.now))) l.name-iterator) (numbers_of l.rest);
  within : All (λ node. node.number < length l.providers.nodes) l.rest;
  grown : length l.initial.providers.nodes ≤ length l.providers.nodes;
}
