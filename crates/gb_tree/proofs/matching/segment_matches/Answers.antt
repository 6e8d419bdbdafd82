use Rattle.std.proofs.Common.{rules, ◌≡◌, true, sym, ◌∙◌}
use Rattle.gb_tree.proofs.Comparing.{ends_match}
use Rattle.gb_tree.proofs.matching.segment_matches.Goals as goal

pub returns-in-Some : goal.returns-in-Some
returns-in-Some c =
    let wild : c.has_wild.result ≡ true = search rules in
    ends_match c.ends_with.result c.args.pattern.now c.in-Some.end.now c.args.text.now c.utf8.pattern c.utf8.text (sym c.has_wild.ensures ∙ wild) c.in-Some.ensures.text c.in-Some.ensures.plain c.ends_with.ensures.cases
