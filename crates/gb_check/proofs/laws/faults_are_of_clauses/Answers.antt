use Rattle.gb_check.proofs.OfClauses.{faults_of_clauses}
use Rattle.gb_check.proofs.laws.faults_are_of_clauses.Goals as goal

pub returns : goal.returns
returns c start tables = faults_of_clauses tables
