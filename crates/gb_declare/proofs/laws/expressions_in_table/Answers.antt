use Rattle.gb_declare.proofs.SpotLemmas.{expressions_in_table}
use Rattle.gb_declare.proofs.laws.expressions_in_table.Goals as goal

pub returns : goal.returns
returns c start tables source = expressions_in_table tables source
