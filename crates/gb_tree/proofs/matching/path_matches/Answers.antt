use Rattle.std.proofs.Common.{rules, ◌≡◌, false, sym, ◌∙◌}
use Rattle.gb_tree.proofs.Comparing.{all_under, last_matches, plain_matches}
use Rattle.gb_tree.proofs.matching.path_matches.Goals as goal

pub returns-then-not-has_wild : goal.returns-then-not-has_wild
returns-then-not-has_wild c =
    let none : c.has_wild.result ≡ false = search rules in
    c.eq.ensures ∙ plain_matches c.args.pattern.now c.args.path.now (sym c.has_wild.ensures ∙ none)

pub returns-in-Some : goal.returns-in-Some
returns-in-Some c =
    c.segment_matches.ensures
    ∙ last_matches c.args.pattern.now c.args.path.now c.in-Some.item.now c.last_of.result.now c.last_of.ensures.0 c.in-Some.ensures.items c.in-Some.ensures.single c.last_of.ensures.1

pub returns-in-Some-before_all : goal.returns-in-Some-before_all
returns-in-Some-before_all c =
    c.is_under.ensures
    ∙ all_under c.args.pattern.now c.in-Some-before_all.folder.now c.args.path.now c.in-Some-before_all.ensures.text c.in-Some-before_all.ensures.plain
