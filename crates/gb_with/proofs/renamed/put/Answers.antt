use Rattle.std.specs.BTreeMap.{get}
use Rattle.gb_core.specs.Lists.{byte_order}
use Rattle.gb_with.proofs.Renaming.{taken_more}
use Rattle.gb_with.proofs.renamed.put.Goals as goal

pub returns-clause-taken : goal.returns-clause-taken
returns-clause-taken c =
    taken_more (get byte_order c.args.taken.now) (get byte_order c.insert-2.new.self) c.in_ok-copy.field-0 c.args.new
    c.args.path.now c.in_ok-copy-2.field-0 c.in_ok-copy.ensures c.in_ok-copy-2.ensures
    c.in_ok-insert.ensures.updates.0
