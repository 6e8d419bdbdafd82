use Rattle.std.proofs.Common.{IsTrue, ℕ, List, subst, sym}
use Rattle.gb_core.specs.Place.{is_under}
use Rattle.gb_disk.proofs.Descends.{child_under}
use Rattle.gb_disk.proofs.entries.place_in.Goals as goal

pub returns-in-Ok-join-clause-under : goal.returns-in-Ok-join-clause-under
returns-in-Ok-join-clause-under c = λ root under. subst (λ (place : List ℕ). IsTrue (is_under place root)) (sym c.in-Ok-join.ensures.text) (child_under _ _ root under)
