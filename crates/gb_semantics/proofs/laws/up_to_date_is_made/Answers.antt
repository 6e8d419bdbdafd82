use Rattle.gb_semantics.proofs.Lemmas.Current.{up_to_date as law}
use Rattle.gb_semantics.proofs.laws.up_to_date_is_made.Goals as goal

pub returns : goal.returns
returns c = law
