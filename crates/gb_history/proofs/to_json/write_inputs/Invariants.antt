use Rattle.std.proofs.Common.{◌≡◌, ◌++◌, drop, take}
use Rattle.std.specs.List.{AllByRecursion}
use Rattle.gb_history.specs.Record.{IsInput}
use Rattle.gb_history.specs.Text.{input_json}
use Rattle.gb_history.proofs.Tokens.{rest_tokens}
use Rattle.gb_history.proofs.to_json.write_inputs.Given as goal

abbrev pub invariant-loop-input : goal.invariant-loop-input
invariant-loop-input l = record {
  json : l.writer.tokens ++ rest_tokens input_json (drop l.input-index l.inputs) ≡ l.initial.writer.tokens ++ rest_tokens input_json l.inputs;
  before : l.writer.before ≡ l.initial.writer.before;
  held : AllByRecursion IsInput (take l.input-index l.inputs);
}
