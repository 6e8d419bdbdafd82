use Rattle.std.proofs.Common.{◌≡◌, List, map, take}
use Rattle.std.specs.List.{AllByRecursion}
use Rattle.serde_json.specs.View.{view}
use Rattle.gb_plan.specs.declared.task.Action.{Action}
use Rattle.gb_history.specs.Text.{action_json, FitsEdition, IsActionIn}
use Rattle.gb_history.proofs.from_json.actions_from.Given as goal

abbrev pub invariant-loop-item : goal.invariant-loop-item
invariant-loop-item l = record {
  read : (xs : List Action) → AllByRecursion (IsActionIn l.edition) xs → map view l.items ≡ map (action_json l.edition) xs → l.actions.items ≡ take l.item-index xs;
  fits : AllByRecursion (FitsEdition l.edition) l.actions.items;
}
