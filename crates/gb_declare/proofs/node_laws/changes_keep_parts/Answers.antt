use Rattle.gb_declare.proofs.ChangeLemmas.{changes_keep_parts}
use Rattle.gb_declare.proofs.node_laws.changes_keep_parts.Goals as goal

pub returns : goal.returns
returns c start = changes_keep_parts
