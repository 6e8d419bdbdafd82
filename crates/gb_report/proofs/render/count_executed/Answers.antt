use Rattle.std.proofs.Common.{rules, tests, ◌∙◌}
use Rattle.std.proofs.lemmas.Iterator.{YieldsList-from_slice}
use Rattle.std.proofs.lemmas.Iterator.Consumers.{YieldsList-from_filter, count_from_yields_List}
use Rattle.std.proofs.lemmas.List.Sums.{length-filter}
use Rattle.gb_report.specs.Outcome.{counts_as_executed}
use Rattle.gb_report.proofs.render.count_executed.Goals as goal

pub returns : goal.returns
returns c =
    count_from_yields_List c.filter.result _ c.count.ensures.ran
    (YieldsList-from_filter {s = c.filter.result} _ counts_as_executed (YieldsList-from_slice c.args.tasks.now cc) c.filter.ensures.closure (λ x b q k. search (rules, tests)))
    ∙ length-filter counts_as_executed c.args.tasks.now
