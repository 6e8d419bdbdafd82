use Rattle.std.proofs.Common.{◌≡◌, ◌≤◌, [], length, drop}
use Rattle.std.specs.Prelude.{filter_map}
use Rattle.gb_registry.specs.Said.{declared_property}
use Rattle.gb_declare.specs.Statements.{named_from, properties_made}
use Rattle.gb_declare.proofs.property_nodes.add_properties.Given as goal

abbrev pub invariant-loop-statement : goal.invariant-loop-statement
invariant-loop-statement g l = record {
  table : l.providers.table ≡ l.initial.providers.table;
  made :
      properties_made l.project l.initial.providers.nodes (filter_map declared_property l.statements)
      ≡ properties_made l.project l.providers.nodes (filter_map declared_property (drop l.statement-index l.statements));
  named :
      named_from (length l.initial.providers.nodes) [] (filter_map declared_property l.statements)
      ≡ named_from (length l.providers.nodes) l.nodes.entries (filter_map declared_property (drop l.statement-index l.statements));
  grown : length l.initial.providers.nodes ≤ length l.providers.nodes;
}
