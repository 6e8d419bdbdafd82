use Rattle.std.proofs.Common.{◌≡◌, Some, ap, codes, [], ◌∷◌}
use Rattle.serde_json.specs.Data.{array}
use Rattle.serde_json.specs.Find.{get}
use Rattle.serde_json.specs.View.{view, items_of}
use Rattle.gb_history.specs.Text.{run_json}
use Rattle.gb_history.proofs.from_json.record_from.Goals as goal

pub returns-clause-read : goal.returns-clause-read
returns-clause-read c path run h fits e =
    let run_value = run_json c.args.edition path run in
    let list : get (codes "tasks") (view c.args.json.now) ≡ Some (array (items_of (run_value ∷ []))) = ap (get (codes "tasks")) e in
    let tasks : view c.in-Some.tasks.now ≡ array (items_of (run_value ∷ [])) = cc (list, c.in-Some.ensures) in
    c.run_from.ensures.read path run h fits (c.in-Some-only_of.ensures run_value tasks)
