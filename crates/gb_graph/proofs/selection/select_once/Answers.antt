use Rattle.std.specs.BTreeSet.{contains}
use Rattle.gb_core.specs.Lists.{byte_order}
use Rattle.gb_graph.proofs.Newly.{also_known, on_ok_so}
use Rattle.gb_graph.proofs.selection.select_once.Goals as goal

pub returns-clause-before : goal.returns-clause-before
returns-clause-before g c = on_ok_so c.select.result _ (λ text. also_known (contains byte_order c.args.before.now) (contains byte_order c.insert.new.self) c.in_ok-copy.field-0 c.args.word.now c.in_ok-copy.ensures c.in_ok-insert.ensures.updates.0 text)
