use Rattle.std.proofs.Common.{◌≡◌, ◌++◌, drop, take}
use Rattle.std.specs.List.{AllByRecursion}
use Rattle.gb_history.specs.Record.{IsOutput}
use Rattle.gb_history.specs.Text.{output_json}
use Rattle.gb_history.proofs.Tokens.{rest_tokens}
use Rattle.gb_history.proofs.to_json.write_outputs.Given as goal

abbrev pub invariant-loop-output : goal.invariant-loop-output
invariant-loop-output l = record {
  json : l.writer.tokens ++ rest_tokens output_json (drop l.output-index l.outputs) ≡ l.initial.writer.tokens ++ rest_tokens output_json l.outputs;
  before : l.writer.before ≡ l.initial.writer.before;
  held : AllByRecursion IsOutput (take l.output-index l.outputs);
}
