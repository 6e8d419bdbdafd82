use Rattle.std.proofs.Common.{◌≡◌, ◌++◌, ◌∷◌, [], ◌+◌, List, cond, not, take, sym, ◌∙◌, ap}
use Rattle.std.proofs.lemmas.Grind.{take_at_read}
use Rattle.std.specs.List.{list_any}
use Rattle.std.specs.Prelude.{bytes_eq}
use Rattle.gb_folder.specs.Files.{Place}
use Rattle.gb_tree.specs.Property.{distinct}
use Rattle.gb_tree.proofs.Found.{distinct_next, met_next}
use Rattle.gb_tree.proofs.starts.distinct.Goals as goal
use Rattle.gb_tree.proofs.starts.distinct.Goals.{then-branch+in_ok-copy-2+in_ok-push, else-branch}

pub loop-place-preserved : goal.loop-place-preserved
loop-place-preserved c =
    let places = c.args.places.now in
    let i = c.loop-place.place-index in
    let x = c.place-item.result in
    let key = c.in_ok-copy.field-0 in
    let before = take i places in
    let kept : List Place = c.loop-place.kept.items in
    let added = c.in_ok-insert.field-0 in
    let next : distinct (take (i + 1) places) ≡ distinct (before ++ x ∷ []) =
    ap distinct ((take_at_read places i x c.loop-place-test.true).1 ∙ ap (λ y. before ++ y ∷ []) (sym c.place-item.is)) in
    let is_new : added ≡ not (list_any (λ other. bytes_eq other x) (distinct before)) =
    c.in_ok-insert.ensures.added ∙ ap not (c.loop-place.invariant.met key ∙ ap (λ y. list_any (λ other. bytes_eq other y) (distinct before)) c.in_ok-copy.ensures) in
    let all : cond added (kept ++ x ∷ []) kept ≡ distinct (take (i + 1) places) =
    ap (λ (ps : List Place). cond added (ps ++ x ∷ []) ps) c.loop-place.invariant.kept ∙ sym (distinct_next before x added is_new) ∙ sym next in
    record {
      kept = elim c.if-branch.branch [
        | then-branch+in_ok-copy-2+in_ok-push w ↦
            ap (λ (v : _). v.items) w.kept-is ∙ w.in_ok-push.ensures.items ∙ ap (λ y. kept ++ y ∷ []) w.in_ok-copy-2.ensures ∙ ap (λ b. cond b (kept ++ x ∷ []) kept) (sym w.if-branch.true) ∙ all
        | else-branch w ↦ ap (λ (v : _). v.items) w.kept-is ∙ ap (λ b. cond b (kept ++ x ∷ []) kept) (sym w.if-branch.false) ∙ all
      ];
      met = λ place.
          met_next before key place _ _ (c.loop-place.invariant.met place) (c.in_ok-insert.ensures.updates.0 place)
          ∙ ap (λ y. list_any (λ other. bytes_eq other place) (distinct (before ++ y ∷ []))) c.in_ok-copy.ensures
          ∙ ap (list_any (λ other. bytes_eq other place)) (sym next);
    }
