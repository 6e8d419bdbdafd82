use Rattle.std.specs.Global.{Global}
use Rattle.std.proofs.Common.{Vec, ◌≡◌, ◌∷◌, ◌++◌, [], ℕ, List, Option, ap, sym, ◌∙◌}
use Rattle.std.specs.FinMap.Entries.{is_sorted}
use Rattle.std.specs.Map.{lookup}
use Rattle.std.specs.Ordering.{is_gt}
use Rattle.gb_core.specs.Lists.{byte_order}
use Rattle.gb_folder.specs.Files.{Place, Bytes, Files}
use Rattle.gb_folder.proofs.Beneath.{bounds_in_order}
use Rattle.gb_folder.proofs.Held.{at_place}
use Rattle.gb_tree.specs.Tree.{path_from}
use Rattle.gb_run.specs.Digests.{digests_in}
use Rattle.gb_run.proofs.ByPlace.{Entry, at_root, found_so, inside_by_place, paths_in_order, range_beneath, shown}
use Rattle.gb_run.proofs.Digested.{from_root}
use Rattle.gb_run.proofs.Endings.{with_none}
use Rattle.gb_run.proofs.digests.found_under.Goals as goal
use Rattle.gb_run.proofs.digests.found_under.Goals.{in-Some+in_ok-path_from+in_ok-push, in_default}

pub range-text-items-requires : goal.range-text-items-requires
range-text-items-requires c = rw (c.in_ok-inside.ensures.start, c.in_ok-inside.ensures.end) (ap is_gt (bounds_in_order c.args.root.now))

pub loop-text-init : goal.loop-text-init
loop-text-init c =
    let held = c.args.held.now in
    let root = c.args.root.now in
    let es = c.into_iter-text-iterator.result in
    let beneath = inside_by_place held c.in_ok-inside.field-0.start c.in_ok-inside.field-0.end root es c.in_ok-inside.ensures.start c.in_ok-inside.ensures.end
    (c.into_iter-text-iterator.ensures.into_iter_gives ∙ c.range-text-items.ensures.between tt) in
    let here : c.match-get.found.items ≡ from_root root (at_root root (lookup (at_place root) held.entries)) =
    elim c.match-get.branch [
      | in-Some+in_ok-path_from+in_ok-push w ↦
          ap (λ (v : Vec (List ℕ × List ℕ) Global). v.items) w.found-is ∙ w.in_ok-push.ensures.items
          ∙ ap (λ (fs : Files). fs ++ (w.in_ok-path_from.field-0, w.in-Some.digest.now) ∷ []) c.new-found.ensures.items
          ∙ ap (λ (path : Place). (path, w.in-Some.digest.now) ∷ [])
          (w.in_ok-path_from.ensures ∙ ap (λ (p : Place). path_from p w.as_str-in-Some-2.result.now) w.as_str-in-Some.ensures.text ∙ ap (path_from root) w.as_str-in-Some-2.ensures.text)
          ∙ ap (λ (o : Option Bytes). from_root root (at_root root o)) (w.in-Some.ensures.value ∙ ap (λ (p : Place). lookup (at_place p) held.entries) c.as_str.ensures.text)
      | in_default w ↦
          ap (λ (v : Vec (List ℕ × List ℕ) Global). v.items) w.found-is ∙ c.new-found.ensures.items
          ∙ ap (λ (o : Option Bytes). from_root root (at_root root o)) (w.in_default.ensures.value ∙ ap (λ (p : Place). lookup (at_place p) held.entries) c.as_str.ensures.text)
    ] in
    record {
      so_far = found_so held root c.match-get.found.items es c.requires.sorted here beneath;
      beneath = range_beneath root (digests_in held) es c.requires.placed beneath;
    }

pub returns-clause-ordered : goal.returns-clause-ordered
returns-clause-ordered c =
    let held = digests_in c.args.held.now in
    let root = c.args.root.now in
    let found = c.loop-text.found.items in
    ap (is_sorted byte_order)
    (sym (with_none found) ∙ ap (λ (es : List Entry). found ++ from_root root (shown es)) (sym c.in-None.ensures.steps.0) ∙ c.loop-text.invariant.so_far)
    ∙ paths_in_order held root c.requires.sorted c.requires.placed
