use Rattle.std.proofs.Common.{◌≡◌, ◌++◌, drop, take}
use Rattle.std.specs.List.{AllByRecursion}
use Rattle.gb_history.specs.Record.{ArePrints}
use Rattle.gb_history.specs.Text.{prints_json}
use Rattle.gb_history.proofs.Tokens.{rest_tokens}
use Rattle.gb_history.proofs.to_json.write_properties.Given as goal

abbrev pub invariant-loop-prints : goal.invariant-loop-prints
invariant-loop-prints l = record {
  json : l.writer.tokens ++ rest_tokens prints_json (drop l.prints-index l.properties) ≡ l.initial.writer.tokens ++ rest_tokens prints_json l.properties;
  before : l.writer.before ≡ l.initial.writer.before;
  held : AllByRecursion ArePrints (take l.prints-index l.properties);
}
