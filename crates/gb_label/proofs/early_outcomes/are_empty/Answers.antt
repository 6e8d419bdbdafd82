use Rattle.std.proofs.Common.{sym, ◌∙◌, arith}
use Rattle.gb_label.specs.Looking.{gives_no_source}
use Rattle.gb_label.proofs.Sources.{all_one_more, all_pairs, not_all}
use Rattle.std.proofs.Common.{ap}
use Rattle.std.specs.List.{list_all}
use Rattle.gb_label.proofs.early_outcomes.are_empty.Goals as goal

pub returns-then-not-gives_no_source : goal.returns-then-not-gives_no_source
returns-then-not-gives_no_source c =
    sym (not_all gives_no_source c.args.properties.now c.args.inputs.now c.loop-at.at c.index-properties-at.result c.index-inputs-at.result c.loop-at-test.true
    (omega (arith, c.loop-at-test.true, c.requires)) c.index-properties-at.is c.index-inputs-at.is (sym c.gives_no_source.ensures ∙ c.if-not-gives_no_source.true))

pub loop-at-preserved : goal.loop-at-preserved
loop-at-preserved c =
    all_one_more gives_no_source c.args.properties.now c.args.inputs.now c.loop-at.at c.index-properties-at.result c.index-inputs-at.result c.loop-at-test.true
    (omega (arith, c.loop-at-test.true, c.requires)) c.index-properties-at.is c.index-inputs-at.is c.loop-at.invariant (sym c.gives_no_source.ensures ∙ c.if-not-gives_no_source.false)

pub returns : goal.returns
returns c =
    sym c.loop-at.invariant ∙ ap (list_all gives_no_source) (all_pairs c.args.properties.now c.args.inputs.now c.loop-at.at c.loop-at-test.false)
