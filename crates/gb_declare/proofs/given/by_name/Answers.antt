use Rattle.std.proofs.Common.{◌∙◌}
use Rattle.gb_declare.proofs.GivenLemmas.{given_on}
use Rattle.gb_declare.proofs.given.by_name.Goals as goal

pub loop-name-preserved : goal.loop-name-preserved
loop-name-preserved c q =
    given_on q c.loop-name.found.entries c.insert-in-loop-name.new.self.entries c.args.given.now c.loop-name.name-index c.loop-name-item.result c.in_ok-name.name c.in_ok-copy.field-0
    c.loop-name-test.true c.loop-name-item.is (c.in_ok-name.ensures ∙ c.as_str.ensures.text) c.in_ok-copy.ensures c.in_ok-before.ensures.entries (c.loop-name.invariant q)
