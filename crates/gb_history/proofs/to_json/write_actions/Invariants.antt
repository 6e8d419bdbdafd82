use Rattle.std.proofs.Common.{◌≡◌, ◌++◌, drop, take}
use Rattle.std.specs.List.{AllByRecursion}
use Rattle.gb_history.specs.Record.{IsAction}
use Rattle.gb_history.specs.Text.{action_json}
use Rattle.gb_history.proofs.Tokens.{rest_tokens}
use Rattle.gb_history.proofs.to_json.write_actions.Given as goal

abbrev pub invariant-loop-action : goal.invariant-loop-action
invariant-loop-action l = record {
  json : l.writer.tokens ++ rest_tokens (action_json l.edition) (drop l.action-index l.actions) ≡ l.initial.writer.tokens ++ rest_tokens (action_json l.edition) l.actions;
  before : l.writer.before ≡ l.initial.writer.before;
  held : AllByRecursion IsAction (take l.action-index l.actions);
}
