use Rattle.std.proofs.Common.{◌≡◌, ◌||◌, Bool, true, false, cond, refl, sym, ap, ◌∙◌, take}
use Rattle.std.proofs.lemmas.List.Folds.{list_any_more}
use Rattle.std.proofs.lemmas.Map.Text.{btree_set_updates_text}
use Rattle.std.specs.BTreeSet.{contains_text}
use Rattle.std.specs.List.{list_any}
use Rattle.std.specs.Prelude.{bytes_eq, string_bytes}
use Rattle.gb_tree.proofs.starts.set_of.Goals as goal

either : (a b : Bool) → cond a true b ≡ (b || a)
either true true = refl
either true false = refl
either false true = refl
either false false = refl

pub loop-place-preserved : goal.loop-place-preserved
loop-place-preserved c = λ text.
    let places = c.args.places.now in
    let i = c.loop-place.place-index in
    let place = c.place-item.result in
    let before = list_any (λ other. bytes_eq other text) (take i places) in
    let key : string_bytes c.in_ok-from_str.field-0 ≡ place = c.in_ok-from_str.ensures.ok ∙ c.as_str.ensures.text in
    btree_set_updates_text (string_bytes c.in_ok-from_str.field-0) c.loop-place.met c.insert.new.self true c.in_ok-insert.ensures.updates text
    ∙ ap (λ bs. cond (bytes_eq bs text) true (contains_text c.loop-place.met text)) key
    ∙ ap (λ b. cond (bytes_eq place text) true b) (c.loop-place.invariant text)
    ∙ either (bytes_eq place text) before
    ∙ ap (λ other. before || bytes_eq other text) c.place-item.is
    ∙ sym (list_any_more (λ other. bytes_eq other text) places i place c.loop-place-test.true)
