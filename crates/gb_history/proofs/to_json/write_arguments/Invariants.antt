use Rattle.std.proofs.Common.{◌≡◌, ◌++◌, drop, take}
use Rattle.std.specs.List.{AllByRecursion}
use Rattle.gb_history.specs.Record.{IsArgument}
use Rattle.gb_history.specs.Text.{value_json}
use Rattle.gb_history.proofs.Tokens.{rest_tokens}
use Rattle.gb_history.proofs.to_json.write_arguments.Given as goal

abbrev pub invariant-loop-argument : goal.invariant-loop-argument
invariant-loop-argument l = record {
  json : l.writer.tokens ++ rest_tokens value_json (drop l.argument-index l.arguments) ≡ l.initial.writer.tokens ++ rest_tokens value_json l.arguments;
  before : l.writer.before ≡ l.initial.writer.before;
  held : AllByRecursion IsArgument (take l.argument-index l.arguments);
}
