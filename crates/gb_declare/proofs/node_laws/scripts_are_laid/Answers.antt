use Rattle.gb_declare.proofs.LaidLemmas.{scripts_are_laid}
use Rattle.gb_declare.proofs.node_laws.scripts_are_laid.Goals as goal

pub returns : goal.returns
returns c start tables source all whole = scripts_are_laid tables source all whole
