use Rattle.std.proofs.Common.{arith, ◌≡◌, ◌+◌, ◌++◌, ◌∷◌, [], ℕ, List, refl, drop, length, length-append, sym, ◌∙◌, ap}
use Rattle.gb_folder.specs.Limits.{max_files}
use Rattle.gb_folder.specs.Files.{Place}
use Rattle.gb_tree.specs.Property.{entries_in, held, path_of}
use Rattle.gb_tree.specs.Tree.{Entries}
use Rattle.gb_tree.proofs.Holding.{belongs_here, enough, held_done, passed_here, taken_in}
use Rattle.gb_tree.proofs.entries.add_entries.Goals as goal
use Rattle.gb_tree.proofs.entries.add_entries.Goals.{then-len-le-MAX_FILES+then-is_in+in_ok-path_of+in_ok-copy+in_ok-push, else-len-le-MAX_FILES, else-len-le-MAX_FILES-via-then-len-le-MAX_FILES+else-is_in, else-len-le-MAX_FILES-via-else-len-le-MAX_FILES}

pub loop-place-preserved : goal.loop-place-preserved
loop-place-preserved c =
    let naming = c.args.naming in
    let include = c.args.include.now in
    let exclude = c.args.exclude.now in
    let root = c.args.root.now in
    let places = c.args.places.now in
    let i = c.loop-place.place-index in
    let place = c.place-item.result in
    let kept : Entries = c.loop-place.entries.items in
    let entry : List ℕ × Place = (path_of naming root place, place) in
    let left = entries_in naming include exclude root (drop i places) in
    let rest = entries_in naming include exclude root (drop (i + 1) places) in
    let within = c.loop-place-test.true in
    let is = c.place-item.is in
    elim c.if-len-le-MAX_FILES.branch [
      | then-len-le-MAX_FILES+then-is_in+in_ok-path_of+in_ok-copy+in_ok-push w ↦
          let now : c.if-len-le-MAX_FILES.entries.items ≡ kept ++ entry ∷ [] =
          ap (λ (v : _). v.items) w.entries-is ∙ w.in_ok-push.ensures.items
          ∙ ap (λ path. kept ++ (path, w.in_ok-copy.field-0) ∷ []) w.in_ok-path_of.ensures.path ∙ ap (λ at. kept ++ (path_of naming root place, at) ∷ []) w.in_ok-copy.ensures in
          let count = ap length now ∙ length-append kept (entry ∷ []) in
          record {
            few = omega (arith, count, c.len.ensures, w.if-len-le-MAX_FILES.true);
            held = ap (λ (es : Entries). held (es ++ rest)) now ∙ taken_in (max_files + 1) kept rest entry
                ∙ ap (λ es. held (kept ++ es)) (sym (belongs_here naming include exclude root places i place within is (sym w.is_in.ensures ∙ w.if-is_in.true)))
                ∙ c.loop-place.invariant.held;
          }
      | else-len-le-MAX_FILES w ↦
          let now = ap (λ (v : _). v.items) w.entries-is in
          let count = ap length now in
          record {
            few = omega (arith, count, c.loop-place.invariant.few);
            held = ap (λ (es : Entries). held (es ++ rest)) now
                ∙ (elim w.else-len-le-MAX_FILES.branch [
                  | else-len-le-MAX_FILES-via-then-len-le-MAX_FILES+else-is_in v ↦
                      ap (λ es. held (kept ++ es)) (sym (passed_here naming include exclude root places i place within is (sym v.is_in.ensures ∙ v.if-is_in.false)))
                  | else-len-le-MAX_FILES-via-else-len-le-MAX_FILES v ↦
                      enough (max_files + 1) kept rest left (omega (arith, c.len.ensures, v.if-len-le-MAX_FILES.false))
                ])
                ∙ c.loop-place.invariant.held;
          }
    ]

pub returns-clause-entries : goal.returns-clause-entries
returns-clause-entries c =
    let inside : List Place → Entries = entries_in c.args.naming c.args.include.now c.args.exclude.now c.args.root.now in
    let end = c.loop-place-test.false in
    held_done inside c.loop-place.entries.items (c.args.entries.now.items ++ inside c.args.places.now) c.args.places.now c.loop-place.place-index refl (omega (arith, end)) c.loop-place.invariant.few c.loop-place.invariant.held
