use Rattle.std.proofs.Common.{◌+◌, ◌==◌, ap, count_by, take, unwrap_or, ◌∙◌}
use Rattle.memchr.proofs.lemmas.ValueLemmas.{FindsNeedle-value}
use Rattle.gb_pages.proofs.layout.line_of.Goals as goal

pub returns : goal.returns
returns c =
    let text = c.args.text.now in
    c.line_of.ensures ∙ ap (λ n. count_by (λ b. b == 10) (take n text) + 1) (c.unwrap_or.ensures
    ∙ ap (λ o. unwrap_or o 0) (FindsNeedle-value text c.args.sign.now c.find.result c.find.ensures))
