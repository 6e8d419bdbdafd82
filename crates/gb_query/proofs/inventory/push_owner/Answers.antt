use Rattle.gb_query.specs.Inventory.{row_if}
use Rattle.gb_query.proofs.inventory.push_owner.Goals as goal

pub returns-clause-left : goal.returns-clause-left
returns-clause-left g c = λ faithful. (
  row_if c.in_ok-is_left.is_left c.args.path.now,
  c.in_ok-is_left.ensures.left faithful c.args.place.now c.requires,
  c.in_ok-push_if.ensures,
)
