use Rattle.std.proofs.Common.{◌≡◌, ap, map, ◌∙◌}
use Rattle.serde_json.specs.Data.{array}
use Rattle.serde_json.specs.Find.{as_array}
use Rattle.serde_json.specs.View.{view, items_of}
use Rattle.gb_history.proofs.Lists.{some_such}
use Rattle.gb_history.proofs.from_json.list_at.Goals as goal

pub returns : goal.returns
returns c items e =
    let found : view c.in_ok-get.field-0.now ≡ array (items_of items) = cc (e, c.in_ok-get.ensures) in
    some_such (λ v. map view v.now.items) c.as_array.result items (c.as_array.ensures ∙ ap as_array found)
