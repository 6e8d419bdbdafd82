use Rattle.std.proofs.Common.{◌≡◌, ◌++◌, drop, take}
use Rattle.std.specs.List.{AllByRecursion}
use Rattle.std.specs.Str.{IsUtf8}
use Rattle.serde_json.specs.Data.{string}
use Rattle.gb_history.proofs.Tokens.{rest_tokens}
use Rattle.gb_history.proofs.to_json.write_texts.Given as goal

abbrev pub invariant-loop-text : goal.invariant-loop-text
invariant-loop-text l = record {
  json : l.writer.tokens ++ rest_tokens string (drop l.text-index l.texts) ≡ l.initial.writer.tokens ++ rest_tokens string l.texts;
  before : l.writer.before ≡ l.initial.writer.before;
  held : AllByRecursion IsUtf8 (take l.text-index l.texts);
}
