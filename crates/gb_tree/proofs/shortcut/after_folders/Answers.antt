use Rattle.std.proofs.Common.{rules, ◌≡◌, true, ◌∙◌, sym}
use Rattle.gb_tree.proofs.Comparing.{two_items}
use Rattle.gb_tree.proofs.shortcut.after_folders.Goals as goal

pub returns-in-Some-clause-items : goal.returns-in-Some-clause-items
returns-in-Some-clause-items c =
    let first : c.is_double_star.result ≡ true = search rules in
    let single : c.is_single.result ≡ true = search rules in
    two_items c.args.pattern.now c.in-Some.first.now c.in-Some.item.now (sym c.is_double_star.ensures ∙ first) (sym c.is_single.ensures ∙ single) c.in-Some.ensures.cases
