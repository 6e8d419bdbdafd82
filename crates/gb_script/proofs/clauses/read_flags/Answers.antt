use Rattle.std.proofs.Common.{refl}
use Rattle.gb_script.specs.Readers.{flags_at}
use Rattle.gb_script.proofs.clauses.read_flags.Goals as goal

pub returns-clause-exact : goal.returns-clause-exact
unfolding flags_at
returns-clause-exact c = rw (c.said-incremental.ensures.exact, c.said-skip_when_empty.ensures.exact, c.said-name_only.ensures.exact) refl
