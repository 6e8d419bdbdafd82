use Rattle.std.proofs.Common.{◌≡◌, ◌++◌, ◌∙◌, List, [], ◌∷◌, false, ap, arith, drop, length, refl, sym}
use Rattle.std.specs.Prelude.{◌==◌}
use Rattle.std.specs.Vec.{vec_len}
use Rattle.std.specs.List.{flat_map}
use Rattle.std.proofs.lemmas.List.{append-nil, drop_all}
use Rattle.gb_folder.specs.Files.{Files, Place, file_at}
use Rattle.gb_lines.specs.Texts.{shown_at, shown_places}
use Rattle.gb_lines.proofs.show.shown_files.Goals as goal

some_shown : (files : Files) (places : List Place) → (length places == 0) ≡ false → flat_map (λ p. shown_at p (file_at files p)) places ≡ shown_places files places
some_shown files [] some = absurd (let e = some in (cc))
some_shown files (place ∷ places) some = refl

pub returns-clause-shown : goal.returns-clause-shown
returns-clause-shown g c = λ faithful.
    let files = (g.F.Folder.device.contents c.args.folder.now).files in
    let so_far = c.loop-place.invariant in
    let items = c.deref-place-items.result.now in
    let text = c.loop-place.text.items in
    let over : drop c.loop-place.place-index items ≡ [] = drop_all c.loop-place.place-index items (omega (arith, c.loop-place-test.false)) in
    let whole : text ≡ flat_map (λ p. shown_at p (file_at files p)) items =
    sym (append-nil text) ∙ ap (λ rest. text ++ flat_map (λ p. shown_at p (file_at files p)) rest) (sym over) ∙ so_far.shown faithful in
    let places = c.in_ok-places.places in
    let long : length places.items ≡ vec_len places = omega (arith, places.ok.0) in
    let some : (length items == 0) ≡ false =
    ap (λ (ps : List Place). length ps == 0) c.deref-place-items.ensures.value ∙ ap (λ n. n == 0) long ∙ sym c.is_empty.ensures ∙ c.if-is_empty.false in
    whole ∙ some_shown files items some ∙ ap (λ places. shown_places files places) (so_far.listed faithful)
