use Rattle.std.proofs.Common.{◌≡◌, ◌≤◌, length, drop}
use Rattle.gb_declare.specs.Site.{site_of}
use Rattle.gb_declare.specs.Statements.{statements_made, statements_faults}
use Rattle.gb_declare.proofs.statements.add_statements.Given as goal

abbrev pub invariant-loop-statement : goal.invariant-loop-statement
invariant-loop-statement g l = record {
  table : l.providers.table ≡ l.initial.providers.table;
  made :
      statements_made l.initial.providers.table (site_of l.site) l.initial.providers.nodes l.statements
      ≡ statements_made l.initial.providers.table (site_of l.site) l.providers.nodes (drop l.statement-index l.statements);
  grown : length l.initial.providers.nodes ≤ length l.providers.nodes;
  good :
      statements_faults g.T.Transforms.meanings l.initial.providers.table (site_of l.site) l.initial.providers.nodes l.statements
      ≡ statements_faults g.T.Transforms.meanings l.initial.providers.table (site_of l.site) l.providers.nodes (drop l.statement-index l.statements);
}
