use Rattle.std.proofs.Common.{length, get_or, sym, ap, ◌∙◌}
use Rattle.std.specs.Ordering.{nat_cmp, is_lt, is_le, ordering_then}
use Rattle.gb_graph.proofs.Cuts.{short_before, long_before, below_test}
use Rattle.gb_graph.proofs.overlaps.is_before_sign.Goals as goal

pub returns-in-None : goal.returns-in-None
returns-in-None c = c.is_le.ensures ∙ (ap is_le c.cmp.ensures ∙ sym (short_before c.args.place.now c.args.text.now c.args.sign c.in-None.ensures.lookup.3))

pub returns-in-Less : goal.returns-in-Less
returns-in-Less c =
    let place = c.args.place.now in
    let text = c.args.text.now in
    ap (λ o. is_lt (ordering_then o (nat_cmp (get_or place (length text) 0) c.args.sign))) c.in-Less.ensures ∙ sym (long_before place text c.args.sign c.in-Some.ensures.lookup.3.0)

pub returns-in-Equal : goal.returns-in-Equal
returns-in-Equal c =
    let place = c.args.place.now in
    let text = c.args.text.now in
    below_test c.in-Some.next.now c.args.sign
    ∙ (ap (λ n. is_lt (nat_cmp n c.args.sign)) (c.in-Some.ensures.lookup.3.1 0)
    ∙ (ap (λ o. is_lt (ordering_then o (nat_cmp (get_or place (length text) 0) c.args.sign))) c.in-Equal.ensures ∙ sym (long_before place text c.args.sign c.in-Some.ensures.lookup.3.0)))

pub returns-in-Greater : goal.returns-in-Greater
returns-in-Greater c =
    let place = c.args.place.now in
    let text = c.args.text.now in
    ap (λ o. is_lt (ordering_then o (nat_cmp (get_or place (length text) 0) c.args.sign))) c.in-Greater.ensures ∙ sym (long_before place text c.args.sign c.in-Some.ensures.lookup.3.0)
