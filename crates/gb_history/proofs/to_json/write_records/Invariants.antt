use Rattle.std.proofs.Common.{◌≡◌, ◌++◌}
use Rattle.std.specs.List.{AllByRecursion}
use Rattle.gb_history.specs.Record.{IsHeld}
use Rattle.gb_history.specs.Text.{held_json}
use Rattle.gb_history.proofs.Tokens.{rest_tokens}
use Rattle.gb_history.proofs.to_json.write_records.Given as goal

abbrev pub invariant-loop-path : goal.invariant-loop-path
invariant-loop-path l = record {
  json : l.writer.tokens ++ rest_tokens (held_json l.edition) l.path-iterator ≡ l.initial.writer.tokens ++ rest_tokens (held_json l.edition) l.records.entries;
  before : l.writer.before ≡ l.initial.writer.before;
  held : AllByRecursion IsHeld l.path-iterator → AllByRecursion IsHeld l.records.entries;
}
