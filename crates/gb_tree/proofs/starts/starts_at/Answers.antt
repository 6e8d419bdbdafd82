use Rattle.std.proofs.Common.{◌++◌, List, map, sym, ap, ◌∙◌}
use Rattle.gb_folder.specs.Files.{Place}
use Rattle.gb_tree.specs.Property.{starts_of}
use Rattle.gb_tree.proofs.Loops.{with_none}
use Rattle.gb_tree.proofs.starts.starts_at.Goals as goal

pub returns-clause-starts : goal.returns-clause-starts
returns-clause-starts c =
    let root = c.args.root.now in
    let pairs : List Place → List (Place × Place) = map (λ start. (root, start)) in
    c.in_ok-add_starts.ensures
    ∙ ap (λ (starts : List (Place × Place)). starts ++ pairs c.as_slice.result.now) c.in_ok-starts.ensures.items
    ∙ ap pairs (c.as_slice.ensures.value ∙ c.in_ok-here.ensures.starts)
    ∙ sym (with_none (pairs (starts_of c.args.include.now root)))
