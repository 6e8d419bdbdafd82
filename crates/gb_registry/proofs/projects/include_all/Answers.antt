use Rattle.std.proofs.Common.{◌∙◌}
use Rattle.gb_registry.proofs.Lineages.{text_left, text_paths}
use Rattle.gb_registry.proofs.projects.include_all.Goals as goal

pub loop-text-preserved : goal.loop-text-preserved
loop-text-preserved c =
    let there = c.loop-text.projects in
    let after = c.include.new.self in
    let texts = c.args.texts.now in
    let i = c.loop-text.text-index in
    let text = c.text-item.result in
    let added = c.in_ok-include.ensures.ok in
    record {
      paths = c.loop-text.invariant.paths ∙ text_paths there after texts i text c.loop-text-test.true c.text-item.is added;
      faults = c.loop-text.invariant.faults ∙ text_left there after texts i text c.loop-text-test.true c.text-item.is added c.in_ok-include.ensures.faults;
    }
