use Rattle.std.proofs.Common.{rules}
use Rattle.std.proofs.lemmas.Fn.{always_returns_same}
use Rattle.gb_core.specs.Lists.{byte_order}
use Rattle.gb_action.proofs.files.search.Goals as goal

pub returns-clause-position : goal.returns-clause-position
returns-clause-position c = c.binary_search_by.ensures.position (λ entry. byte_order entry.0 c.args.path.now) (always_returns_same _ _ _ (λ a r q h. search rules))
