use Rattle.std.proofs.Common.{not, ◌&&◌, sym, ◌∙◌, ap}
use Rattle.gb_tree.specs.Property.{lets_in, relative_to}
use Rattle.gb_tree.proofs.entries.is_in.Goals as goal

pub returns-then-not-is_own : goal.returns-then-not-is_own
returns-then-not-is_own c =
    let include = c.args.include.now in
    let exclude = c.args.exclude.now in
    let root = c.args.root.now in
    let place = c.args.place.now in
    c.lets_in.ensures
    ∙ ap (lets_in include exclude) (c.relative_to.ensures.path ∙ ap (λ r. relative_to r c.as_str-then-not-is_own.result.now) c.as_str.ensures.text ∙ ap (relative_to root) c.as_str-then-not-is_own.ensures.text)
    ∙ sym (ap (λ b. not b && lets_in include exclude (relative_to root place)) (sym c.is_own.ensures ∙ c.if-not-is_own.true))
