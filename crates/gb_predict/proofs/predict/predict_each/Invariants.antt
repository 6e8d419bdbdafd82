use Rattle.std.proofs.Common.{◌≡◌, [], length, map, take}
use Rattle.std.specs.List.{AllByRecursion, AllZip, zip}
use Rattle.gb_folder.specs.Calls.{Requests, no_change}
use Rattle.gb_semantics.specs.Headline.{Agrees}
use Rattle.gb_semantics.specs.Kinds.{Kinds}
use Rattle.gb_plan.specs.Graph.{order}
use Rattle.gb_predict.specs.Prediction.{IsPredictedOf, IsReasoned}
use Rattle.gb_predict.specs.Least.{AreNotStarting}
use Rattle.gb_predict.specs.Marks.{AreMarkedAfter}
use Rattle.gb_predict.specs.declared.predicted_outcome.Prediction.{Prediction}
use Rattle.gb_predict.proofs.predict.predict_each.Given as goal

abbrev pub invariant-loop-at : goal.invariant-loop-at
invariant-loop-at g l =
    let F = g.F.Folder in
    record {
      requests : Requests F.device no_change l.fn.folder l.folder;
      back : F.device.faithful l.folder → F.device.faithful l.fn.folder;
      same : F.device.faithful l.folder → F.device.contents l.folder ≡ F.device.contents l.fn.folder;
      count : length l.reported.items ≡ l.at;
      paths : map (λ (one : Prediction). one.path) l.reported.items ≡ order (take l.at l.plan);
      reasoned : AllByRecursion (λ (one : Prediction). IsReasoned one.coming) l.reported.items;
      not_starting : AreNotStarting l.reported.items l.not_starting;
      marked : AreMarkedAfter [] (zip (take l.at l.plan) l.reported.items);
      prediction : F.device.faithful l.folder → (kinds : Kinds) → Agrees g.A.Actions.meanings l.table kinds
          → AllZip (λ pair (one : Prediction). IsPredictedOf kinds l.options pair.0.task (F.device.contents l.fn.folder) pair.1 (F.device.failures l.fn.folder) (F.device.failures l.folder) one.coming)
          (take l.at (zip l.plan l.records)) l.reported.items;
    }
