use Rattle.std.proofs.Common.{◌≡◌, ◌++◌, drop, take}
use Rattle.std.specs.List.{AllByRecursion}
use Rattle.gb_history.specs.Record.{IsPrint}
use Rattle.gb_history.specs.Text.{print_json}
use Rattle.gb_history.proofs.Tokens.{rest_tokens}
use Rattle.gb_history.proofs.to_json.write_digests.Given as goal

abbrev pub invariant-loop-path : goal.invariant-loop-path
invariant-loop-path l = record {
  json : l.writer.tokens ++ rest_tokens print_json (drop l.path-index l.prints) ≡ l.initial.writer.tokens ++ rest_tokens print_json l.prints;
  before : l.writer.before ≡ l.initial.writer.before;
  held : AllByRecursion IsPrint (take l.path-index l.prints);
}
