use Rattle.std.proofs.Common.{◌≡◌, ap, map, length, [], ◌∷◌, ◌∙◌, sym}
use Rattle.serde_json.specs.Find.{as_array}
use Rattle.serde_json.specs.View.{view, items_of}
use Rattle.std.proofs.lemmas.List.{length-map}
use Rattle.gb_history.proofs.Lists.{items_of_inj}
use Rattle.gb_history.proofs.from_json.only_of.Goals as goal

pub returns-then-list-ne1 : goal.returns-then-list-ne1
returns-then-list-ne1 c a e =
    let there : items_of (map view c.in_ok-as_array.field-0.now.items) ≡ items_of (a ∷ []) = cc (ap as_array e, c.in_ok-as_array.ensures) in
    let one : length c.in_ok-as_array.field-0.now.items ≡ 1 = sym (length-map c.in_ok-as_array.field-0.now.items view) ∙ ap length (items_of_inj (map view c.in_ok-as_array.field-0.now.items) (a ∷ []) there) in
    absurd (c.if-list-ne1.true (ap length c.as_slice-list.ensures.value ∙ one))
